-- Which bytes of an input were taken in whole lines.
use Rattle.std.specs.Prelude.{◌≡◌, ◌⊎◌, ℕ, Bool, IsTrue, List, [], ◌++◌, length}
use Rattle.es_model.specs.Lines.{pieces_of, NoLineFeed}
use Rattle.es_io.specs.Next.{UsesLine}
use Rattle.es_top.specs.Runs.{EndsLine}

-- a turn used one line of the bytes to come, and at last the source may be known to be at its end
abbrev pub UsesSome : List ℕ → List ℕ → Bool → Type 0
UsesSome old new ended = (old ≡ [] → ⊥) × UsesLine old new ended

-- no line feed is in what was taken of these bytes
abbrev pub LeavesUnended : List ℕ → List ℕ → Type 0
LeavesUnended old new = (front : List ℕ) × (old ≡ front ++ new) × NoLineFeed front

-- of these bytes so many lines were answered, and these are to come; all were whole, or the source is known to be at its end
pub record Counted (bytes : List ℕ) (count : ℕ) (rest : List ℕ) (ended : Bool) : Type 0 where
  pub answered : List ℕ
  pub parts : bytes ≡ answered ++ rest
  pub pieces : pieces_of bytes ≡ pieces_of answered ++ pieces_of rest
  pub number : length (pieces_of answered) ≡ count
  pub ends : EndsLine answered ⊎ ((rest ≡ []) × IsTrue ended)

-- of these bytes so many whole lines were answered, and no line feed is in what was taken of the rest
pub record Taken (bytes : List ℕ) (count : ℕ) (rest : List ℕ) : Type 0 where
  pub answered : List ℕ
  pub begun : List ℕ
  pub parts : bytes ≡ answered ++ (begun ++ rest)
  pub unended : NoLineFeed begun
  pub pieces : pieces_of bytes ≡ pieces_of answered ++ pieces_of (begun ++ rest)
  pub number : length (pieces_of answered) ≡ count
  pub ends : EndsLine answered
