-- What a declaration names: its classes, applications, events and commands.
use Rattle.std.specs.Prelude.{Bool, false, List, [], ◌∷◌, find, Option, None, Some}
use Rattle.std.specs.Str.{bytes_eq}
use Rattle.es_model.specs.Names.{topic_of}
use Rattle.es_model.specs.Values.{Name}
use Rattle.es_model.specs.declared.declaration.App.{App}
use Rattle.es_model.specs.declared.declaration.Class.{Class}
use Rattle.es_model.specs.declared.declaration.EventClass.{EventClass}
use Rattle.es_model.specs.declared.declaration.CommandDef.{CommandDef}
use Rattle.es_model.specs.declared.declaration.Trigger.{Trigger}

-- the application of a name
abbrev pub app_named : List App → Name → Option App
app_named apps name = find (λ a. bytes_eq a.name name) apps

-- the class of a name
abbrev pub class_named : List Class → Name → Option Class
class_named classes name = find (λ c. bytes_eq c.name name) classes

-- the event of a class, its Created event or a later one, with a topic
abbrev pub event_in : Class → Name → Option EventClass
event_in c topic = find (λ e. bytes_eq e.topic topic) (c.created ∷ c.events)

-- the command of a class with a name
abbrev pub command_in : Class → Name → Option CommandDef
command_in c name = find (λ d. bytes_eq d.name name) c.commands

-- a topic is that of a class's Created event
abbrev pub is_created : Class → Name → Bool
is_created c topic = bytes_eq c.created.topic topic

-- these triggers begin with the Created event of their class
abbrev pub is_creating : Class → List Trigger → Bool
is_creating c [] = false
is_creating c (t ∷ ts) = is_created c (topic_of c.name t.event)

-- an event of a class, where there is one, else what follows
abbrev pub with_class : Class → Option EventClass → Option (Class × EventClass) → Option (Class × EventClass)
with_class c (Some e) rest = Some (c, e)
with_class c None rest = rest

-- the event with a topic, and the class that declares it
abbrev pub event_named : List Class → Name → Option (Class × EventClass)
event_named [] topic = None
event_named (c ∷ classes) topic = with_class c (event_in c topic) (event_named classes topic)
