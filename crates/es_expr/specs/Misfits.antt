-- What doesn't fit together in a system: each fault with its code and its path, in the order of the document
-- that declares the system. Objects of expressions go by name, arrays by place.
use Rattle.std.specs.Prelude.{ℕ, suc, ◌==◌, Bool, true, false, not, ◌&&◌, ◌||◌, List, [], ◌∷◌, ◌++◌, take, codes, decimal, encode_utf8, Option, None, Some, is_some, Ok, Err, if◌then◌else◌}
use Rattle.std.specs.List.{list_all, list_any, before_first, after_first}
use Rattle.std.specs.Str.{bytes_eq, chars}
use Rattle.es_model.specs.Declaration.{app_named, class_named, command_in, event_in, event_named, is_created, is_creating}
use Rattle.es_model.specs.Names.{is_dot, topic_of}
use Rattle.es_model.specs.Rising.{item_of}
use Rattle.es_model.specs.Values.{Name}
use Rattle.es_model.specs.declared.declaration.App.{App}
use Rattle.es_model.specs.declared.declaration.Class.{Class}
use Rattle.es_model.specs.declared.declaration.Code.{Code}
use Rattle.es_model.specs.declared.declaration.Code.TheVariants as code
use Rattle.es_model.specs.declared.declaration.CommandDef.{CommandDef}
use Rattle.es_model.specs.declared.declaration.EventClass.{EventClass}
use Rattle.es_model.specs.declared.declaration.Guard.{Guard}
use Rattle.es_model.specs.declared.declaration.Rule.{Rule}
use Rattle.es_model.specs.declared.declaration.System.{System}
use Rattle.es_model.specs.declared.declaration.Trigger.{Trigger}
use Rattle.es_model.specs.declared.expr.Expr.{Expr}
use Rattle.es_model.specs.declared.value.AtomKind.TheVariants as atom_kind
use Rattle.es_model.specs.declared.value.Kind.{Kind}
use Rattle.es_model.specs.declared.value.Kind.TheVariants as kind
use Rattle.es_expr.specs.Environments.{creating_env, command_env, created_env, assign_env, rule_env}
use Rattle.es_expr.specs.Kinds.{Judged, kind_of, is_same_kind}
use Rattle.es_expr.specs.declared.fault.ExprFault.TheVariants as fault
use Rattle.es_expr.specs.declared.misfit.Misfit.{Misfit}

-- ---- kinds that a place wants, or that a name of an environment has

abbrev pub truth : Kind
truth = kind.One atom_kind.Bool

abbrev pub whole : Kind
whole = kind.One atom_kind.Int

abbrev pub text : Kind
text = kind.One atom_kind.Text

abbrev pub uuid : Kind
uuid = kind.One atom_kind.Uuid

abbrev pub moment : Kind
moment = kind.One atom_kind.Moment

-- ---- paths, and what is said at one

-- a character of a member's name, as a JSON pointer has it
abbrev pub escaped_char : ℕ → List ℕ
escaped_char c = if c == 126 then codes "~0" else (if c == 47 then codes "~1" else encode_utf8 c)

abbrev pub escaped : List ℕ → List ℕ
escaped [] = []
escaped (c ∷ cs) = escaped_char c ++ escaped cs

-- a member of an object, by its name
abbrev pub member : List ℕ → Name → List ℕ
member path name = path ++ codes "/" ++ escaped (chars name)

-- an item of an array, by its place
abbrev pub item : List ℕ → ℕ → List ℕ
item path place = path ++ codes "/" ++ decimal place

-- one fault
abbrev pub misfit : Code → List ℕ → List Misfit
misfit code path = record { code = code; path = path } ∷ []

-- one fault where a test fails
abbrev pub unless : Bool → Code → List ℕ → List Misfit
unless true code path = []
unless false code path = misfit code path

-- the faults of each item, told by its place
abbrev pub each : {A : Type 0} → (ℕ → A → List Misfit) → ℕ → List A → List Misfit
each faults place [] = []
each faults place (x ∷ xs) = faults place x ++ each faults (suc place) xs

-- a name is not among those of some items
abbrev pub is_new : {A : Type 0} → (A → Name) → List A → Name → Bool
is_new name_of xs name = not (list_any (λ x. bytes_eq (name_of x) name) xs)

-- ---- expressions

-- an expression of another kind than its place wants, at the operand or the expression; a name that it lacks.
-- An expression is never judged to be without memory.
abbrev pub judged : Kind → List ℕ → Judged → List Misfit
judged wanted path (Ok k) = unless (is_same_kind wanted k) code.Kind path
judged wanted path (Err (fault.Unknown rest)) = misfit code.Unknown (path ++ rest)
judged wanted path (Err (fault.Kind rest)) = misfit code.Kind (path ++ rest)
judged wanted path (Err fault.NoMemory) = misfit code.Kind path

-- a member of an object of expressions: its name is wanted, and then the expression is of the wanted kind
abbrev pub member_misfits : List ℕ → Option Kind → Judged → List Misfit
member_misfits path None found = misfit code.Unknown path
member_misfits path (Some wanted) found = judged wanted path found

-- each member of an object of expressions, which has some of the wanted members
abbrev pub some_misfits : List (Name × Kind) → List (Name × Kind) → List ℕ → List (Name × Expr) → List Misfit
some_misfits wanted env path [] = []
some_misfits wanted env path (x ∷ xs) =
    member_misfits (member path x.0) (item_of wanted x.0) (kind_of x.1 env) ++ some_misfits wanted env path xs

-- no wanted member is missing
abbrev pub has_all : List (Name × Kind) → List (Name × Expr) → Bool
has_all wanted members = list_all (λ w. is_some (item_of members w.0)) wanted

-- an object of expressions which has all of the wanted members
abbrev pub all_misfits : List (Name × Kind) → List (Name × Kind) → List ℕ → List (Name × Expr) → List Misfit
all_misfits wanted env path members = unless (has_all wanted members) code.Fields path ++ some_misfits wanted env path members

-- ---- commands

-- the names that a command's guards and its first trigger see
abbrev pub first_env : Class → CommandDef → List (Name × Kind)
first_env c d = if is_creating c d.triggers then creating_env d.params uuid moment else command_env d.params uuid moment c.fields whole

-- the names that the trigger at a place sees
abbrev pub trigger_env : Class → CommandDef → ℕ → List (Name × Kind)
trigger_env c d place = if place == 0 then first_env c d else command_env d.params uuid moment c.fields whole

abbrev pub guard_misfits : List (Name × Kind) → List ℕ → ℕ → Guard → List Misfit
guard_misfits env path place g = judged truth (item path place ++ codes "/that") (kind_of g.that env)

-- a trigger's event is declared and may come in its place, and the trigger has all of the event's fields
abbrev pub triggered_misfits : List (Name × Kind) → Bool → List ℕ → Trigger → Option EventClass → List Misfit
triggered_misfits env in_order path t None = misfit code.Unknown (path ++ codes "/event")
triggered_misfits env in_order path t (Some e) =
    unless in_order code.Order (path ++ codes "/event") ++ all_misfits e.fields env (path ++ codes "/fields") t.fields

-- only the first trigger may be of the Created event
abbrev pub is_in_order : Class → ℕ → Name → Bool
is_in_order c place topic = place == 0 || not (is_created c topic)

abbrev pub trigger_misfits : Class → CommandDef → List ℕ → ℕ → Trigger → List Misfit
trigger_misfits c d path place t =
    triggered_misfits (trigger_env c d place) (is_in_order c place (topic_of c.name t.event)) (item path place) t (event_in c (topic_of c.name t.event))

abbrev pub command_part_misfits : Class → List ℕ → CommandDef → List Misfit
command_part_misfits c path d =
    each (guard_misfits (first_env c d) (path ++ codes "/require")) 0 d.guards
    ++ each (trigger_misfits c d (path ++ codes "/trigger")) 0 d.triggers

-- a command's name is new in the class
abbrev pub command_misfits : Class → List ℕ → ℕ → CommandDef → List Misfit
command_misfits c path place d =
    unless (is_new (λ e. e.name) (take place c.commands) d.name) code.Repeat (item path place ++ codes "/name")
    ++ command_part_misfits c (item path place) d

-- ---- classes

-- a later event: its name is new in the class, and what it assigns is some of the class's fields
abbrev pub event_misfits : Class → List ℕ → ℕ → EventClass → List Misfit
event_misfits c path place e =
    unless (is_new (λ f. f.topic) (c.created ∷ take place c.events) e.topic) code.Repeat (item path place ++ codes "/name")
    ++ some_misfits c.fields (assign_env e.fields uuid moment c.fields whole) (item path place ++ codes "/set") e.assigns

-- the Created event assigns each of the class's fields
abbrev pub created_misfits : Class → List ℕ → List Misfit
created_misfits c path = all_misfits c.fields (created_env c.created.fields uuid moment) (path ++ codes "/set") c.created.assigns

abbrev pub class_part_misfits : List ℕ → Class → List Misfit
class_part_misfits path c =
    each (event_misfits c (path ++ codes "/events")) 0 c.events ++ each (command_misfits c (path ++ codes "/commands")) 0 c.commands

abbrev pub class_member_misfits : List ℕ → Class → List Misfit
class_member_misfits path c = created_misfits c (path ++ codes "/created") ++ class_part_misfits path c

-- a class, whose name is new or isn't
abbrev pub named_class_misfits : Bool → List ℕ → Class → List Misfit
named_class_misfits new path c = unless new code.Repeat (path ++ codes "/name") ++ class_member_misfits path c

-- a class's name is new
abbrev pub class_misfits : System → List ℕ → ℕ → Class → List Misfit
class_misfits s path place c = named_class_misfits (is_new (λ d. d.name) (take place s.classes) c.name) (item path place) c

-- ---- applications

abbrev pub is_first : List Name → Name → Bool
is_first [] name = false
is_first (x ∷ xs) name = bytes_eq x name

-- a name comes right before another
abbrev pub is_next : Name → Name → List Name → Bool
is_next a b [] = false
is_next a b (x ∷ xs) = bytes_eq x a && is_first xs b || is_next a b xs

-- an application leads another in some pipe
abbrev pub leads : System → Name → Name → Bool
leads s leader follower = list_any (is_next leader follower) s.pipes

-- the command of a class that is in a list of names
abbrev pub listed_command : Class → List Name → Name → Option CommandDef
listed_command c classes name = if list_any (λ n. bytes_eq n c.name) classes then command_in c name else None

abbrev pub command_of : Option Class → List Name → Name → Option CommandDef
command_of None classes name = None
command_of (Some c) classes name = listed_command c classes name

-- the command that a text names: a class of the application's list, a dot and a command of that class
abbrev pub rule_command : System → App → Name → Option CommandDef
rule_command s a command = command_of (class_named s.classes (before_first is_dot command)) a.classes (after_first is_dot command)

-- a name is that of an application which leads another
abbrev pub is_leader : System → Name → Name → Bool
is_leader s leader follower = is_some (app_named s.apps leader) && leads s leader follower

abbrev pub leader_misfits : System → App → List ℕ → Option Name → List Misfit
leader_misfits s a path None = []
leader_misfits s a path (Some leader) = unless (is_leader s leader a.name) code.Unknown path

-- an expression that may be absent
abbrev pub when_misfits : List (Name × Kind) → List ℕ → Option Expr → List Misfit
when_misfits env path None = []
when_misfits env path (Some e) = judged truth path (kind_of e env)

-- a rule's arguments are all of the command's parameters
abbrev pub do_misfits : List (Name × Kind) → List ℕ → Rule → Option CommandDef → List Misfit
do_misfits env path r None = misfit code.Unknown (path ++ codes "/do")
do_misfits env path r (Some d) = all_misfits d.params env (path ++ codes "/args") r.args

-- when a rule applies, over the kinds of what it sees
abbrev pub condition_misfits : System → App → List (Name × Kind) → List ℕ → Rule → List Misfit
condition_misfits s a env path r =
    leader_misfits s a (path ++ codes "/leader") r.leader ++ when_misfits env (path ++ codes "/when") r.when

abbrev pub target_misfits : List (Name × Kind) → List ℕ → Expr → List Misfit
target_misfits env path e = judged uuid (path ++ codes "/target") (kind_of e env)

-- what it runs then
abbrev pub call_misfits : System → App → List (Name × Kind) → List ℕ → Rule → List Misfit
call_misfits s a env path r =
    target_misfits env path r.target ++ do_misfits env path r (rule_command s a r.command)

abbrev pub applied_misfits : System → App → List (Name × Kind) → List ℕ → Rule → List Misfit
applied_misfits s a env path r = condition_misfits s a env path r ++ call_misfits s a env path r

-- the names that a rule on an event sees
abbrev pub on_env : EventClass → List (Name × Kind)
on_env e = rule_env e.fields uuid moment text whole whole

-- a rule's topic is that of a declared event
abbrev pub on_misfits : System → App → List ℕ → Rule → Option (Class × EventClass) → List Misfit
on_misfits s a path r None = misfit code.Unknown (path ++ codes "/on")
on_misfits s a path r (Some on) = applied_misfits s a (on_env on.1) path r

abbrev pub rule_misfits : System → App → List ℕ → ℕ → Rule → List Misfit
rule_misfits s a path place r = on_misfits s a (item path place) r (event_named s.classes r.topic)

-- a class of an application's list is new there, and declared
abbrev pub listed_misfits : System → App → List ℕ → ℕ → Name → List Misfit
listed_misfits s a path place name =
    unless (is_new (λ n. n) (take place a.classes) name) code.Repeat (item path place)
    ++ unless (is_some (class_named s.classes name)) code.Unknown (item path place)

abbrev pub app_part_misfits : System → List ℕ → App → List Misfit
app_part_misfits s path a =
    each (listed_misfits s a (path ++ codes "/classes")) 0 a.classes ++ each (rule_misfits s a (path ++ codes "/policy")) 0 a.policies

-- an application's name is new
abbrev pub app_misfits : System → List ℕ → ℕ → App → List Misfit
app_misfits s path place a =
    unless (is_new (λ b. b.name) (take place s.apps) a.name) code.Repeat (item path place ++ codes "/name")
    ++ app_part_misfits s (item path place) a

-- ---- pipes

-- a name isn't the last of a list
abbrev pub is_other : List Name → Name → Bool
is_other [] name = true
is_other (x ∷ []) name = not (bytes_eq x name)
is_other (x ∷ y ∷ xs) name = is_other (y ∷ xs) name

-- a member of a pipe is declared, and not the one before it
abbrev pub joined_misfits : System → List Name → List ℕ → ℕ → Name → List Misfit
joined_misfits s pipe path place name =
    unless (is_some (app_named s.apps name)) code.Unknown (item path place)
    ++ unless (is_other (take place pipe) name) code.Pipe (item path place)

abbrev pub pipe_misfits : System → List ℕ → ℕ → List Name → List Misfit
pipe_misfits s path place pipe = each (joined_misfits s pipe (item path place)) 0 pipe

-- ---- the whole

-- what doesn't fit together in a system, in the order of the document
abbrev pub misfits : System → List Misfit
misfits s =
    each (class_misfits s (codes "/classes")) 0 s.classes
    ++ each (app_misfits s (codes "/apps")) 0 s.apps
    ++ each (pipe_misfits s (codes "/pipes")) 0 s.pipes
