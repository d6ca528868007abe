-- When the guards and triggers of a command may be evaluated, and what triggers answer.
use Rattle.std.specs.Prelude.{ℤ, ℕ, ◌≡◌, ◌<◌, ◌+◌, ◌^◌, ◌-◌, IsTrue, All, List, [], ◌∷◌, Option, None, Some, Result, Ok, Err}
use Rattle.std.specs.Option.{option_or}
use Rattle.es_model.specs.Declaration.{class_named, command_in, is_creating}
use Rattle.es_model.specs.Rising.{IsRising}
use Rattle.es_model.specs.Values.{Name, Record, are_of_kinds}
use Rattle.es_model.specs.declared.declaration.Class.{Class}
use Rattle.es_model.specs.declared.declaration.CommandDef.{CommandDef}
use Rattle.es_model.specs.declared.declaration.EventClass.{EventClass}
use Rattle.es_model.specs.declared.declaration.Guard.{Guard}
use Rattle.es_model.specs.declared.declaration.System.{System}
use Rattle.es_model.specs.declared.declaration.Trigger.{Trigger}
use Rattle.es_model.specs.Names.{topic_of}
use Rattle.es_expr.specs.Sound.{IsTest}
use Rattle.es_domain.specs.Decision.{IsNewEvent}
use Rattle.es_domain.specs.Effect.{guarded, misplaced, seen}
use Rattle.es_domain.specs.inner.Evaluation.{AreChecked}
use Rattle.es_domain.specs.Fold.{later_in}
use Rattle.es_domain.specs.Steps.{HasItsFields}
use Rattle.es_domain.specs.declared.effect.Effect.{Effect}
use Rattle.es_domain.specs.declared.effect.Effect.TheVariants.{Changed, Refused}
use Rattle.es_domain.specs.declared.aggregate.Aggregate.{Aggregate}
use Rattle.es_domain.specs.declared.aggregate.TriggerFault.{TriggerFault}
use Rattle.es_domain.specs.declared.aggregate.TriggerFault.TheVariants.{Overflow, NoMemory}
use Rattle.es_domain.specs.declared.command.Command.{Command}

-- each guard is a truth value
abbrev pub AreTests : List Guard → Record → Type 0
AreTests [] env = Unit {0}
AreTests (g ∷ guards) env = IsTest g.that env × AreTests guards env

-- an aggregate of a class, with its fields, which may have some more events; its pending events are new ones
pub record IsReady (sys : System) (k : Class) (more : ℕ) (a : Aggregate) : Type 0 where
  pub class : a.class ≡ k.name
  pub fields : IsTrue (are_of_kinds a.fields k.fields)
  pub version : a.version + more < 2 ^ 63 - 1
  pub pending : All (IsNewEvent sys) a.pending

-- an event is a later one of an aggregate's class
abbrev pub IsLater : System → Aggregate → EventClass → Type 0
IsLater sys a k = (topic : Name) × (later_in (class_named sys.classes a.class) topic ≡ Some k)

-- the refusal before any trigger: where the aggregate is misplaced, then of the guards
abbrev pub refused : Class → CommandDef → Command → ℤ → Option Aggregate → Option Name
refused k d c at found = option_or (misplaced (is_creating k d.triggers) k found) (guarded d.guards (seen c at found))

-- a trigger gives the fields of a Created event
abbrev pub CanOpen : Class → Command → ℤ → Trigger → Type 0
CanOpen k c at t = IsRising k.created.fields → IsRising t.fields → AreChecked k.created.fields t.fields (seen c at None)

-- a trigger gives the fields of a later event, over any aggregate of the class
pub record CanFire (k : Class) (c : Command) (at : ℤ) (t : Trigger) : Type 0 where
  pub event : EventClass
  pub later : later_in (Some k) (topic_of k.name t.event) ≡ Some event
  pub gives : IsRising event.fields → IsRising t.fields → (a : Aggregate) → IsTrue (are_of_kinds a.fields k.fields) → AreChecked event.fields t.fields (seen c at (Some a))

abbrev pub CanAllFire : Class → Command → ℤ → List Trigger → Type 0
CanAllFire k c at [] = Unit {0}
CanAllFire k c at (t ∷ ts) = CanFire k c at t × CanAllFire k c at ts

-- where there is no aggregate the first trigger begins it
abbrev pub CanRun : Class → Command → ℤ → List Trigger → Option Aggregate → Type 0
CanRun k c at ts (Some a) = CanAllFire k c at ts
CanRun k c at [] None = ⊥
CanRun k c at (t ∷ ts) None = CanOpen k c at t × CanAllFire k c at ts

-- triggers make this aggregate, or pass a limit, or there was no memory
abbrev pub Makes : Option Aggregate → Result Aggregate TriggerFault → Type 0
Makes made (Ok a) = made ≡ Some a
Makes made (Err Overflow) = made ≡ None
Makes made (Err NoMemory) = Unit {0}

-- the same of a call that changes the aggregate
abbrev pub MakesOf : Option Aggregate → Aggregate → Result (Unit {0}) TriggerFault → Type 0
MakesOf made new (Ok done) = made ≡ Some new
MakesOf made new (Err Overflow) = made ≡ None
MakesOf made new (Err NoMemory) = Unit {0}

-- a command is the declared one of a class, with its arguments
pub record IsCommandOf (sys : System) (k : Class) (d : CommandDef) (c : Command) : Type 0 where
  pub class : class_named sys.classes c.class ≡ Some k
  pub command : command_in k c.name ≡ Some d
  pub args : IsTrue (are_of_kinds c.args d.params)

-- an aggregate as a decision may have it: found, or changed by earlier rules
pub record IsKnown (sys : System) (a : Aggregate) : Type 0 where
  pub fields : HasItsFields sys a
  pub version : a.version + 8 < 2 ^ 63 - 1
  pub pending : a.pending ≡ []

-- an effect leaves an aggregate of the class with new events
abbrev pub IsEffect : System → Class → Effect → Type 0
IsEffect sys k (Changed a) = IsReady sys k 0 a
IsEffect sys k (Refused code) = Unit {0}

-- the same of any class
pub record IsChanged (sys : System) (a : Aggregate) : Type 0 where
  pub fields : HasItsFields sys a
  pub version : a.version < 2 ^ 63 - 1
  pub pending : All (IsNewEvent sys) a.pending

abbrev pub IsNewEffect : System → Effect → Type 0
IsNewEffect sys (Changed a) = IsChanged sys a
IsNewEffect sys (Refused code) = Unit {0}
