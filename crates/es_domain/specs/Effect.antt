-- What a command does to an aggregate.
use Rattle.std.specs.Prelude.{ℤ, Bool, true, false, List, [], ◌∷◌, codes, if◌then◌else◌, Option, None, Some, Result, Ok, Err}
use Rattle.std.specs.Option.{option_or}
use Rattle.std.specs.Str.{bytes_eq}
use Rattle.es_model.specs.Declaration.{class_named, command_in, is_creating}
use Rattle.es_model.specs.Values.{Name, Record}
use Rattle.es_model.specs.declared.declaration.Class.{Class}
use Rattle.es_model.specs.declared.declaration.CommandDef.{CommandDef}
use Rattle.es_model.specs.declared.declaration.Guard.{Guard}
use Rattle.es_model.specs.declared.declaration.System.{System}
use Rattle.es_model.specs.declared.declaration.Trigger.{Trigger}
use Rattle.es_model.specs.declared.value.Atom.TheVariants as atom
use Rattle.es_model.specs.declared.value.Value.TheVariants as value
use Rattle.es_expr.specs.Environments.{creating_env, command_env}
use Rattle.es_expr.specs.Meaning.{den}
use Rattle.es_model.specs.Names.{topic_of}
use Rattle.es_expr.specs.Outcome.{Outcome, is, over}
use Rattle.es_domain.specs.Fold.{begun, stepped, values_of, id_value, version_value, moment_value}
use Rattle.es_domain.specs.Steps.{first_event, next_event, with_pending}
use Rattle.es_domain.specs.declared.aggregate.Aggregate.{Aggregate}
use Rattle.es_domain.specs.declared.aggregate.ApplyFault.{ApplyFault}
use Rattle.es_domain.specs.declared.command.Command.{Command}
use Rattle.es_domain.specs.declared.effect.Effect.{Effect}
use Rattle.es_domain.specs.declared.effect.Effect.TheVariants.{Changed, Refused}

-- the codes of the refusals that no system declares
abbrev pub exists_code : Name
exists_code = codes "exists"

abbrev pub missing_code : Name
missing_code = codes "missing"

abbrev pub class_code : Name
class_code = codes "class"

abbrev pub overflow_code : Name
overflow_code = codes "overflow"

-- whether there is an aggregate, and of which class: a command that creates wants none, any other one of its class
abbrev pub misplaced : Bool → Class → Option Aggregate → Option Name
misplaced true c (Some a) = Some exists_code
misplaced true c None = None
misplaced false c None = Some missing_code
misplaced false c (Some a) = if bytes_eq a.class c.name then None else Some class_code

-- the values that a command's guards see, and its triggers, each over the aggregate as the ones before left it
abbrev pub seen : Command → ℤ → Option Aggregate → Record
seen c at None = creating_env c.args (id_value c.id) (moment_value at)
seen c at (Some a) = command_env c.args (id_value c.id) (moment_value at) a.fields (version_value a.version)

-- the refusal of a guard: by its code where it is false, or because a limit is passed
abbrev pub refusal_of : Name → Outcome → Option Name
refusal_of code (is (value.One (atom.Bool true))) = None
refusal_of code over = Some overflow_code
refusal_of code _ = Some code

-- the refusal of the first guard that has one
abbrev pub guarded : List Guard → Record → Option Name
guarded [] env = None
guarded (g ∷ guards) env = option_or (refusal_of g.code (den g.that env)) (guarded guards env)

abbrev pub made : Result Aggregate ApplyFault → Option Aggregate
made (Ok a) = Some a
made (Err fault) = None

-- the aggregate that a Created event of these fields begins, with the event pending
abbrev pub opened_with : System → Command → ℤ → Option Record → Option Aggregate
opened_with sys c at None = None
opened_with sys c at (Some fields) =
    let e = first_event sys c.class c.id fields at in made (with_pending e (begun sys e))

abbrev pub opened : System → Command → ℤ → Trigger → Option Aggregate
opened sys c at t = opened_with sys c at (values_of t.fields (seen c at None))

-- an aggregate after its next event, of this topic and these fields, with the event pending
abbrev pub fired_with : System → Name → ℤ → Aggregate → Option Record → Option Aggregate
fired_with sys topic at a None = None
fired_with sys topic at a (Some fields) =
    let e = next_event a topic fields at in made (with_pending e (stepped sys a e))

abbrev pub fired : System → Class → Command → ℤ → Trigger → Aggregate → Option Aggregate
fired sys k c at t a = fired_with sys (topic_of k.name t.event) at a (values_of t.fields (seen c at (Some a)))

-- triggers one after the other, while no limit is passed
abbrev pub all_fired : System → Class → Command → ℤ → List Trigger → Option Aggregate → Option Aggregate
all_fired sys k c at [] a = a
all_fired sys k c at (t ∷ ts) None = None
all_fired sys k c at (t ∷ ts) (Some a) = all_fired sys k c at ts (fired sys k c at t a)

-- the triggers of a command; where there is no aggregate the first one makes it
abbrev pub triggered : System → Class → Command → ℤ → List Trigger → Option Aggregate → Option Aggregate
triggered sys k c at ts (Some a) = all_fired sys k c at ts (Some a)
triggered sys k c at [] None = None
triggered sys k c at (t ∷ ts) None = all_fired sys k c at ts (opened sys c at t)

-- the aggregate with its new events pending, or the refusal because a limit is passed
abbrev pub effect_of : Option Aggregate → Effect
effect_of None = Refused overflow_code
effect_of (Some a) = Changed a

-- a refusal, if there is one, else what follows
abbrev pub unless_refused : Option Name → Effect → Effect
unless_refused None effect = effect
unless_refused (Some code) effect = Refused code

-- first whether there is an aggregate, then the guards in their order, then the triggers in theirs
abbrev pub effect_in : System → Class → CommandDef → Command → ℤ → Option Aggregate → Effect
effect_in sys k d c at found =
    unless_refused (misplaced (is_creating k d.triggers) k found)
    (unless_refused (guarded d.guards (seen c at found)) (effect_of (triggered sys k c at d.triggers found)))

-- what a class declares of a command, with the class
abbrev pub with_def : Class → Option CommandDef → Option (Class × CommandDef)
with_def k None = None
with_def k (Some d) = Some (k, d)

-- a command's class, and what the class declares of it
abbrev pub declared_in : Option Class → Name → Option (Class × CommandDef)
declared_in None name = None
declared_in (Some k) name = with_def k (command_in k name)

abbrev pub command_named : System → Name → Name → Option (Class × CommandDef)
command_named sys class name = declared_in (class_named sys.classes class) name

-- what a declared command does to an aggregate, or to none; one that isn't declared is refused without a code
abbrev pub effect_declared : System → Option (Class × CommandDef) → Command → ℤ → Option Aggregate → Effect
effect_declared sys None c at found = Refused []
effect_declared sys (Some p) c at found = effect_in sys p.0 p.1 c at found

abbrev pub effect : System → Command → ℤ → Option Aggregate → Effect
effect sys c at found = effect_declared sys (command_named sys c.class c.name) c at found
