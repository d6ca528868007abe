-- What an object may hold, where it doesn't tell, and the bytes that a reader of lines may have left.
use Rattle.std.specs.Prelude.{◌≡◌, ℕ, IsTrue, List, [], ◌++◌, take, drop, Option, Some, None}
use Rattle.es_model.specs.Lines.{Line, lines_of, NoLineFeed}
use Rattle.es_io.specs.declared.lines.Ahead.{Ahead}
use Rattle.es_io.specs.declared.lines.Lines.{Lines}
use Rattle.es_io.specs.declared.lines.Step.{Step}
use Rattle.es_io.specs.Next.{IsFirst, UsesKnown}

-- it may hold this: where it tells what it holds, exactly that
abbrev pub MayHold : {A : Type 0} → Option A → A → Type 0
MayHold None a = Unit {0}
MayHold (Some told) a = a ≡ told

-- what was read ahead
abbrev pub ahead_of : {S : Type 0} → Ahead S → List ℕ
ahead_of a = drop a.start (take a.end a.piece.items)

-- these may be the bytes that haven't been handed on: what was read ahead, and then what the source may have left
abbrev pub MayRemain : {S : Type 0} → (S → Option (List ℕ)) → Ahead S → List ℕ → Type 0
MayRemain left a bytes = (rest : List ℕ) × (bytes ≡ ahead_of a ++ rest) × MayHold (left a.source.now) rest

-- these may be the bytes that aren't in a line yet; none, where the source was found at its end
pub record MayHaveLeft {S : Type 0} (left : S → Option (List ℕ)) (l : Lines S) (bytes : List ℕ) : Type 0 where
  pub unread : MayRemain left l.ahead bytes
  pub ended : IsTrue l.ended → bytes ≡ []

-- the lines to come, if these are the bytes
abbrev pub lines_from : {S : Type 0} → Lines S → List ℕ → List Line
lines_from l bytes = lines_of l.line_limit l.room bytes

-- if these bytes are left after a step, it was the first line of some that may have been left before
pub record StepOf {S : Type 0} (left : S → Option (List ℕ)) (old new : Lines S) (bytes : List ℕ) (s : Step) : Type 0 where
  pub before : List ℕ
  pub may : MayHaveLeft left old before
  pub first : IsFirst (lines_from old before) (lines_from new bytes) s
  pub uses : UsesKnown before bytes new.ended s

-- if these bytes are left after a fault, then some with a front more, which has no line feed, may have been left before
pub record FaultOf {S : Type 0} (left : S → Option (List ℕ)) (old : Lines S) (bytes : List ℕ) : Type 0 where
  pub before : List ℕ
  pub may : MayHaveLeft left old before
  pub front : List ℕ
  pub parts : before ≡ front ++ bytes
  pub unended : NoLineFeed front
