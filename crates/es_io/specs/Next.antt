-- What the next line of a source is, and what it takes.
use Rattle.std.specs.Prelude.{◌≡◌, ◌⊎◌, ℕ, ◌+◌, ◌<◌, ◌≤◌, Bool, IsTrue, List, [], ◌∷◌, ◌++◌, length, Option, Some, None}
use Rattle.es_model.specs.Lines.{Line, text, long, over, NoLineFeed}
use Rattle.es_io.specs.declared.lines.Step.{Step}
use Rattle.es_io.specs.declared.lines.Step.TheVariants as step

-- a step is the first of the lines before it, and leaves the others; at the end there is none, and where the input is over that stays so
abbrev pub IsFirst : List Line → List Line → Step → Type 0
IsFirst before after (step.Line line) = before ≡ text line ∷ after
IsFirst before after step.Long = before ≡ long ∷ after
IsFirst before after step.End = (before ≡ []) × (after ≡ [])
IsFirst before after step.Over = (before ≡ over ∷ []) × (after ≡ over ∷ [])

-- the same where the lines are told
abbrev pub IsNext : Option (List Line) → Option (List Line) → Step → Type 0
IsNext None after s = Unit {0}
IsNext (Some before) None s = ⊥
IsNext (Some before) (Some after) s = IsFirst before after s

-- a line takes some room
abbrev pub TakesRoom : ℕ → ℕ → Step → Type 0
TakesRoom before now (step.Line line) = now < before
TakesRoom before now step.Long = now < before
TakesRoom before now step.End = now ≡ before
TakesRoom before now step.Over = now ≤ before

-- of the bytes that weren't in a line before, those that the source hasn't left have no line feed
abbrev pub EndsUnended : Option (List ℕ) → Option (List ℕ) → Type 0
EndsUnended None left = Unit {0}
EndsUnended (Some bytes) None = ⊥
EndsUnended (Some bytes) (Some left) = (front : List ℕ) × (bytes ≡ front ++ left) × NoLineFeed front

-- of a source that had `may` bytes to give at most and has `still` now, no more than the difference was taken
abbrev pub TakesAtMost : Option (List ℕ) → Option (List ℕ) → ℕ → ℕ → Type 0
TakesAtMost None new may still = Unit {0}
TakesAtMost (Some old) None may still = ⊥
TakesAtMost (Some old) (Some new) may still = length old + still ≤ length new + may

-- what a step used of the bytes that weren't in a line before: a line and its line feed, or a last line without one, after which the source is at its end; what is passed over has no line feed
abbrev pub UsesLine : List ℕ → List ℕ → Bool → Type 0
UsesLine old new ended = (front : List ℕ) × NoLineFeed front × ((old ≡ front ++ 10 ∷ new) ⊎ ((old ≡ front) × (new ≡ []) × IsTrue ended))

abbrev pub UsesKnown : List ℕ → List ℕ → Bool → Step → Type 0
UsesKnown old new ended (step.Line line) = UsesLine old new ended
UsesKnown old new ended step.Long = UsesLine old new ended
UsesKnown old new ended step.End = (old ≡ []) × (new ≡ [])
UsesKnown old new ended step.Over = (front : List ℕ) × NoLineFeed front × (old ≡ front ++ new)

-- the same where they are told; at last the source may be known to be at its end
abbrev pub Uses : Option (List ℕ) → Option (List ℕ) → Bool → Step → Type 0
Uses None new ended s = Unit {0}
Uses (Some old) None ended s = ⊥
Uses (Some old) (Some new) ended s = UsesKnown old new ended s
