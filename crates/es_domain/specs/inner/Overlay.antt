-- What is read of aggregates after earlier rules changed some, and what a rule leaves.
use Rattle.std.specs.Prelude.{ℤ, ℕ, ◌≡◌, ◌<◌, All, List, [], ◌∷◌, if◌then◌else◌, Option, None, Some, Result, Ok, Err}
use Rattle.std.specs.Option.{option_or}
use Rattle.std.specs.Str.{bytes_eq}
use Rattle.es_model.specs.Values.{Id}
use Rattle.es_model.specs.declared.declaration.Otherwise.{Otherwise}
use Rattle.es_model.specs.declared.declaration.System.{System}
use Rattle.es_domain.specs.Decision.{Decided, IsNewEvent, after_change, after_effect, joined}
use Rattle.es_domain.specs.Effect.{effect, overflow_code}
use Rattle.es_domain.specs.Readings.{Readings, Reading, folded, unreadable, Told, AreReadings}
use Rattle.es_domain.specs.Steps.{HasItsFields}
use Rattle.es_domain.specs.declared.aggregate.Aggregate.{Aggregate}
use Rattle.es_domain.specs.declared.command.Command.{Command}
use Rattle.es_domain.specs.declared.command.Decision.TheVariants as decision
use Rattle.es_domain.specs.declared.effect.Effect.{Effect}
use Rattle.es_domain.specs.declared.effect.Effect.TheVariants.{Changed, Refused}
use Rattle.es_domain.specs.declared.find.FindFault.{FindFault}
use Rattle.es_domain.specs.declared.find.FindFault.TheVariants.{Unreadable, Failed, NoMemory}
use Rattle.es_domain.specs.declared.policy.Asked.{Asked}
use Rattle.es_domain.specs.declared.policy.Asked.TheVariants.{Nothing, Overflows, Asks}
use Rattle.es_domain.specs.declared.rules.Step.{Step}
use Rattle.es_domain.specs.declared.rules.Step.TheVariants.{Goes, Stops}

-- ---- aggregates that were changed, the oldest change first

abbrev pub overlaid : List Aggregate → Readings → Readings
overlaid [] readings = readings
overlaid (a ∷ changed) readings = overlaid changed (after_change readings a)

-- the last one of an id
abbrev pub latest : List Aggregate → Id → Option Aggregate
latest [] id = None
latest (a ∷ changed) id = option_or (latest changed id) (if bytes_eq a.id id then Some a else None)

-- an aggregate without pending events, of a version below a limit
pub record IsBelow (sys : System) (limit : ℕ) (a : Aggregate) : Type 0 where
  pub fields : HasItsFields sys a
  pub version : a.version < limit
  pub pending : a.pending ≡ []

abbrev pub AreBelow : System → ℕ → List Aggregate → Type 0
AreBelow sys limit [] = Unit {0}
AreBelow sys limit (a ∷ changed) = IsBelow sys limit a × AreBelow sys limit changed

-- the same of an aggregate that an effect changed, whose pending events are new ones
pub record IsChangedBelow (sys : System) (limit : ℕ) (a : Aggregate) : Type 0 where
  pub fields : HasItsFields sys a
  pub version : a.version < limit
  pub pending : All (IsNewEvent sys) a.pending

abbrev pub IsEffectBelow : System → ℕ → Option Effect → Type 0
IsEffectBelow sys limit None = Unit {0}
IsEffectBelow sys limit (Some (Changed a)) = IsChangedBelow sys limit a
IsEffectBelow sys limit (Some (Refused code)) = Unit {0}

-- ---- what is answered over all readings of what was told

abbrev pub Answers : {T : Type 0} → Result T FindFault → Result T FindFault → Type 0
Answers wanted (Ok x) = wanted ≡ Ok x
Answers wanted (Err (Unreadable id)) = wanted ≡ Err (Unreadable id)
Answers wanted (Err Failed) = Unit {0}
Answers wanted (Err NoMemory) = Unit {0}

abbrev pub AnswersTold : {T : Type 0} → System → Option Told → (Readings → Result T FindFault) → Result T FindFault → Type 0
AnswersTold sys None wanted result = Unit {0}
AnswersTold sys (Some told) wanted result = (readings : Readings) → AreReadings sys told readings → Answers (wanted readings) result

-- the aggregate that was read
abbrev pub found_of : Reading → Result (Option Aggregate) FindFault
found_of (folded found) = Ok found
found_of (unreadable id) = Err (Unreadable id)

-- ---- a rule

abbrev pub effect_by : System → Command → ℤ → Reading → Result (Option Effect) FindFault
effect_by sys c at (folded found) = Ok (Some (effect sys c at found))
effect_by sys c at (unreadable id) = Err (Unreadable id)

-- the effect of what a rule asks, if it asks anything
abbrev pub effect_asked : System → ℤ → Asked → Readings → Result (Option Effect) FindFault
effect_asked sys at Nothing readings = Ok None
effect_asked sys at Overflows readings = Ok (Some (Refused overflow_code))
effect_asked sys at (Asks c) readings = effect_by sys c at (readings c.id)

-- how a policy goes on after a rule with an effect, or with none
abbrev pub after_some : Otherwise → ℕ → Readings → Option Effect → (Readings → Decided) → Decided
after_some otherwise rule readings None rest = rest readings
after_some otherwise rule readings (Some e) rest = after_effect otherwise rule readings e rest

-- the same of an effect that was asked for
abbrev pub after_outcome : Otherwise → ℕ → Readings → Result (Option Effect) FindFault → (Readings → Decided) → Decided
after_outcome otherwise rule readings (Ok e) rest = after_some otherwise rule readings e rest
after_outcome otherwise rule readings (Err fault) rest = Err fault

-- a rule goes on with its new events, or stops the decision
abbrev pub after_step : ℕ → Step → Decided → Decided
after_step rule (Goes events) rest = joined events rest
after_step rule (Stops code) rest = Ok (decision.Refused code rule)

-- its new events are new ones
abbrev pub IsNewStep : System → Step → Type 0
IsNewStep sys (Goes events) = All (IsNewEvent sys) events
IsNewStep sys (Stops code) = Unit {0}

-- what a rule leaves is this, or an entry that it needs has no meaning, or the reader failed, or there was no memory
abbrev pub Leaves : Decided → (Step → Decided) → Result Step FindFault → Type 0
Leaves wanted left (Ok s) = wanted ≡ left s
Leaves wanted left (Err (Unreadable id)) = wanted ≡ Err (Unreadable id)
Leaves wanted left (Err Failed) = Unit {0}
Leaves wanted left (Err NoMemory) = Unit {0}

abbrev pub LeavesTold : System → Option Told → (Readings → Decided) → (Step → Readings → Decided) → Result Step FindFault → Type 0
LeavesTold sys None wanted left result = Unit {0}
LeavesTold sys (Some told) wanted left result = (readings : Readings) → AreReadings sys told readings → Leaves (wanted readings) (λ s. left s readings) result
