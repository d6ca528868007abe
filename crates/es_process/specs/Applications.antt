-- What an application has.
use Rattle.std.specs.Prelude.{◌≡◌, ℕ}
use Rattle.es_model.specs.Values.{Name}
use Rattle.es_process.specs.declared.application.Application.{Application}

-- the name by which it was opened
abbrev pub name_of : {R : Type 0} → Application R → Name
name_of a = a.name

abbrev pub recorder_of : {R : Type 0} → Application R → R
recorder_of a = a.recorder

-- how many notifications it may record
abbrev pub turns_of : {R : Type 0} → Application R → ℕ
turns_of a = a.turns

-- how many it has recorded since it was opened
abbrev pub used_of : {R : Type 0} → Application R → ℕ
used_of a = a.used

-- an application that was just opened by this name over this recorder, and may record so many notifications
pub record IsOpened {R : Type 0} (name : Name) (recorder : R) (turns : ℕ) (a : Application R) : Type 0 where
  pub named : name_of a ≡ name
  pub recorder_is : recorder_of a ≡ recorder
  pub may : turns_of a ≡ turns
  pub unused : used_of a ≡ 0
