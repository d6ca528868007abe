-- What a run over opened applications leaves, before the end line.
use Rattle.es_io.specs.Readings.{Readings}
use Rattle.es_lines.specs.declared.ends.End.TheVariants as end
use Rattle.es_lines.specs.declared.ends.End.{End}
use Rattle.es_model.specs.Lines.{NoLineFeed}
use Rattle.es_model.specs.Values.{Name}
use Rattle.es_model.specs.declared.memory.Failed.{Failed}
use Rattle.es_process.specs.Contents.{Contents}
use Rattle.es_process.specs.SingleThread.{Step, Run, IsRunOver, left_by, written_by}
use Rattle.es_process.specs.Standing.{State, IsFrontOf}
use Rattle.es_process.specs.Terms.{Terms}
use Rattle.es_top.specs.Sorts.{BySort, sort_of}
use Rattle.es_top.specs.Limits.{lines_for}
use Rattle.std.specs.Io.KnownBytes.{Appends}
use Rattle.std.specs.Prelude.{◌≡◌, ◌⊎◌, ℕ, List, [], ◌∷◌, ◌++◌, Option, Some, Result, Ok, Err}

-- these are whole lines: none, or the last ends with its line feed
abbrev pub EndsLine : List ℕ → Type 0
EndsLine bytes = (bytes ≡ []) ⊎ ((front : List ℕ) × (bytes ≡ front ++ 10 ∷ []))

-- the state at this opening, before the run
abbrev pub state_of : Contents → Readings → State
state_of opening readings = record { contents = opening; readings = readings; used = λ app. 0 }

-- the run of an input over what is held at the opening
abbrev pub IsRunOf : Terms → List ℕ → Readings → Contents → Run → Type 0
IsRunOf t input readings opening run = IsRunOver t.rules t.options opening readings (lines_for t.rules input) run

-- the first steps of the run were made, with a front of the next text, and the applications keep what they leave
pub record PartRun (t : Terms) (opening : Contents) (readings : Readings) (input : List ℕ) (left : Contents → Type 0) (before now : Option (List ℕ)) (front : List ℕ) : Type 0 where
  pub run : Run
  pub done : List Step
  pub rest : List Step
  pub is : IsRunOf t input readings opening run
  pub parts : run.steps ≡ done ++ rest
  pub next : IsFrontOf front rest
  pub held : left (left_by done opening)
  pub written : Appends before now (written_by done ++ front)

-- all steps of the run were made, and it ended so
pub record WholeRun (t : Terms) (opening : Contents) (readings : Readings) (input : List ℕ) (left : Contents → Type 0) (before now : Option (List ℕ)) (e : End) : Type 0 where
  pub steps : List Step
  pub is : IsRunOf t input readings opening (record { steps = steps; end = e })
  pub held : left (left_by steps opening)
  pub written : Appends before now (written_by steps)

-- reading failed after these steps: they are all steps of the run of the lines that were taken whole, which were all answered; of the bytes that were taken after these no line feed is left
pub record ReadTo (t : Terms) (input : List ℕ) (readings : Readings) (opening : Contents) (unread : Option (List ℕ)) (done : List Step) : Type 0 where
  pub answered : List ℕ
  pub begun : List ℕ
  pub rest : List ℕ
  pub unread_is : unread ≡ Some rest
  pub parts : input ≡ answered ++ (begun ++ rest)
  pub unended : NoLineFeed begun
  pub ends : EndsLine answered
  pub run : Run
  pub is : IsRunOf t answered readings opening run
  pub steps : run.steps ≡ done
  pub ended : (added : List (Name × ℕ)) × (count : ℕ) × (run.end ≡ end.Ok added count)

-- reading cut the run short
abbrev pub ReadRun : Terms → Contents → Readings → List ℕ → Option (List ℕ) → (Contents → Type 0) → Option (List ℕ) → Option (List ℕ) → Type 0
ReadRun t opening readings input unread left before now = (x : PartRun t opening readings input left before now []) × ReadTo t input readings opening unread x.done

-- an end that comes of running lines
abbrev pub IsRunning : End → Type 0
IsRunning e = BySort (sort_of e) (Unit {0}) (Unit {0}) (Unit {0}) ⊥

-- what a run over applications leaves, by how it ended; or the sink failed in a text
abbrev pub Runs : Terms → Contents → Readings → List ℕ → Option (List ℕ) → (Contents → Type 0) → Option (List ℕ) → Option (List ℕ) → Result End Failed → Type 0
Runs t opening readings input unread left before now (Ok e) =
    BySort (sort_of e) (WholeRun t opening readings input left before now e) (PartRun t opening readings input left before now []) (ReadRun t opening readings input unread left before now) ⊥
Runs t opening readings input unread left before now (Err failed) = (front : List ℕ) × PartRun t opening readings input left before now front
