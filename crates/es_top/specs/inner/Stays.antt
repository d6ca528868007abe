-- What every call leaves of a reader of lines.
use Rattle.std.specs.Prelude.{◌≡◌, ◌≤◌, ℕ, List, Option}
use Rattle.es_io.specs.declared.lines.Lines.{Lines}
use Rattle.es_io.specs.LinesLeft.{source_of, may_take, EndsRightly}
use Rattle.es_io.specs.Next.{TakesAtMost}

-- it reads the same source, of which no more was taken than might be and whose count of faults hasn't fallen, and where it knows the end no byte is left
pub record LinesStay {S : Type 0} (left : S → Option (List ℕ)) (faults : S → ℕ) (old new : Lines S) : Type 0 where
  pub source : (source_of new).ghost_name ≡ (source_of old).ghost_name
  pub bound : TakesAtMost (left (source_of old).now) (left (source_of new).now) (may_take old) (may_take new)
  pub later : faults (source_of old).now ≤ faults (source_of new).now
  pub ends : EndsRightly left new
