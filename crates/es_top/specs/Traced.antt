-- The input and the readings of a run, where they may be untold.
use Rattle.std.specs.Prelude.{ℕ, List, Option}
use Rattle.es_io.specs.Readings.{Readings}
use Rattle.es_io.specs.Remains.{MayHold}

-- there are an input, what is left of it, and readings, of which this holds: those that are told, and any where none are told
pub record OfInput (old new : Option (List ℕ)) (clock : Option Readings) (P : List ℕ → List ℕ → Readings → Type 0) : Type 0 where
  pub input : List ℕ
  pub rest : List ℕ
  pub readings : Readings
  pub held : MayHold old input
  pub left : MayHold new rest
  pub told : MayHold clock readings
  pub holds : P input rest readings
