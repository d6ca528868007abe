-- What the lines and the clock may have held before a call, by what they may hold after it.
use Rattle.std.specs.Prelude.{ℕ, List, Option, Some}
use Rattle.es_io.specs.Readings.{Readings}
use Rattle.es_io.specs.Remains.{MayHold, MayHaveLeft}
use Rattle.es_io.specs.declared.lines.Lines.{Lines}

-- whatever may be left of the lines and the clock afterwards, there is something that may have been left before, and of these this holds
abbrev pub LinesTraced : {S : Type 0} → (S → Option (List ℕ)) → Lines S → Lines S → Option Readings → Option Readings → (List ℕ → List ℕ → Option Readings → Option Readings → Type 0) → Type 0
LinesTraced left old new old_clock new_clock P =
    (b : List ℕ) (after : Readings) → MayHaveLeft left new b → MayHold new_clock after → (a : List ℕ) × (before : Readings) × MayHaveLeft left old a × MayHold old_clock before × P a b (Some before) (Some after)
