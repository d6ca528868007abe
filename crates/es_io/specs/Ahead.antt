-- The bytes of a source that haven't been handed on.
use Rattle.std.specs.Prelude.{ℕ, List, take, drop, Option}
use Rattle.std.specs.Io.KnownBytes.{prepend_known}
use Rattle.es_io.specs.declared.lines.Ahead.{Ahead}

-- what was read ahead, and what the source has left
abbrev pub unread : {S : Type 0} → (S → Option (List ℕ)) → Ahead S → Option (List ℕ)
unread left a = prepend_known (drop a.start (take a.end a.piece.items)) (left a.source.now)
