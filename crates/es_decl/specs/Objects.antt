-- The objects of the document: their members, in the order of the walk.
use Rattle.std.specs.Prelude.{Bool, List, [], ◌∷◌, ◌++◌, codes, if◌then◌else◌, Option, None, Some, is_some}
use Rattle.std.specs.List.{list_all}
use Rattle.serde_json.specs.Data.{Data, object, Members, no_members, member}
use Rattle.serde_json.specs.Find.{get}
use Rattle.es_model.specs.Values.{Name}
use Rattle.es_model.specs.declared.declaration.Code.TheVariants as code
use Rattle.es_decl.specs.declared.objects.Object.{Object}
use Rattle.es_decl.specs.declared.objects.Object.TheVariants.{Document, Class, Event, Command, Guard, Trigger, App, Rule}
use Rattle.es_model.specs.Names.{is_one_of}
use Rattle.es_decl.specs.Paths.{member_step}
use Rattle.es_decl.specs.Readings.{Reading, fine, here, under}

-- members that have to be there
abbrev pub needed : Object → List Name
needed Document = codes "classes" ∷ codes "apps" ∷ codes "pipes" ∷ []
needed Class = codes "name" ∷ codes "fields" ∷ codes "created" ∷ []
needed Event = codes "name" ∷ codes "fields" ∷ codes "set" ∷ []
needed Command = codes "name" ∷ codes "params" ∷ codes "trigger" ∷ []
needed Guard = codes "that" ∷ codes "code" ∷ []
needed Trigger = codes "event" ∷ codes "fields" ∷ []
needed App = codes "name" ∷ codes "classes" ∷ []
needed Rule = codes "on" ∷ codes "target" ∷ codes "do" ∷ codes "args" ∷ []

-- members that may be absent
abbrev pub others : Object → List Name
others Document = []
others Class = codes "version" ∷ codes "interval" ∷ codes "events" ∷ codes "commands" ∷ []
others Event = codes "upcasts" ∷ []
others Command = codes "require" ∷ []
others Guard = []
others Trigger = []
others App = codes "policy" ∷ codes "section" ∷ []
others Rule = codes "leader" ∷ codes "when" ∷ codes "otherwise" ∷ []

abbrev pub has_member : Object → Name → Bool
has_member o n = is_one_of (needed o ++ others o) n

-- the first member that the object doesn't have
abbrev pub unknown : Object → Members → Option Name
unknown o no_members = None
unknown o (member n d ms) = if has_member o n then unknown o ms else Some n

abbrev pub is_whole : Object → Data → Bool
is_whole o d = list_all (λ n. is_some (get n d)) (needed o)

abbrev pub members_test : Option Name → Bool → Reading (Unit {0})
members_test (Some n) whole = under (member_step n) (here code.Form)
members_test None whole = if whole then fine else here code.Form

-- an object with the members that it needs, and no member that it doesn't have
abbrev pub shape_test : Object → Data → Reading (Unit {0})
shape_test o (object ms) = members_test (unknown o ms) (is_whole o (object ms))
shape_test o d = here code.Form
