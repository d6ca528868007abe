-- What a run over stores leaves, before the end line.
use Rattle.std.specs.Prelude.{◌≡◌, ℕ, List, [], Option, Result, Ok, Err}
use Rattle.es_model.specs.declared.declaration.System.{System}
use Rattle.es_model.specs.declared.memory.Failed.{Failed}
use Rattle.es_process.specs.Contents.{Contents}
use Rattle.es_io.specs.Readings.{Readings}
use Rattle.es_lines.specs.declared.ends.End.{End}
use Rattle.es_process.specs.Standing.{IsFrontOf}
use Rattle.es_top.specs.Sorts.{unbegun, sort_of}
use Rattle.es_top.specs.Top.{Made, Follows}

-- an end that comes after the system was read
abbrev pub IsOfSystem : End → Type 0
IsOfSystem e = sort_of e ≡ unbegun → ⊥

-- first steps were made after which this end may come, or the sink failed in a text of the run
abbrev pub Stands : System → List ℕ → List ℕ → Readings → Contents → (Contents → Type 0) → Option (List ℕ) → Option (List ℕ) → Result End Failed → Type 0
Stands sys i unread r h left before now (Ok e) = (x : Made sys i r h left before now []) × Follows (Unit {0}) (Unit {0}) ⊥ sys i unread r h x.run x.done x.rest e
Stands sys i unread r h left before now (Err failed) = (front : List ℕ) × (x : Made sys i r h left before now front) × IsFrontOf front x.rest
