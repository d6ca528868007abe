-- Where a reader of lines stands.
use Rattle.std.specs.Prelude.{◌≡◌, ◌<◌, ℕ, ◌+◌, ◌-◌, Bool, IsTrue, List, Option}
use Rattle.std.specs.Option.{option_map}
use Rattle.std.specs.Borrow.{MutBor}
use Rattle.std.specs.Io.KnownBytes.{IsAtEnd}
use Rattle.es_model.specs.Lines.{Line, lines_of}
use Rattle.es_io.specs.declared.lines.Lines.{Lines}
use Rattle.es_io.specs.declared.lines.LinesFault.{LinesFault}
use Rattle.es_io.specs.Ahead.{unread}

-- the bytes that aren't in a line yet
abbrev pub unread_of : {S : Type 0} → (S → Option (List ℕ)) → Lines S → Option (List ℕ)
unread_of left l = unread left l.ahead

-- how many bytes the lines to come may have
abbrev pub room_of : {S : Type 0} → Lines S → ℕ
room_of l = l.room

-- how many bytes may still be taken from the source
abbrev pub may_take : {S : Type 0} → Lines S → ℕ
may_take l = (l.room + 1) - (l.ahead.end - l.ahead.start)

-- the fault that came, if one did
abbrev pub fault_of : {S : Type 0} → Lines S → Option LinesFault
fault_of l = l.fault

-- the source was found at its end
abbrev pub has_ended : {S : Type 0} → Lines S → Bool
has_ended l = l.ended

-- the source that was lent
abbrev pub source_of : {S : Type 0} → Lines S → MutBor S
source_of l = l.ahead.source

-- the lines to come, where the source tells what it has left
abbrev pub lines_left : {S : Type 0} → (S → Option (List ℕ)) → Lines S → Option (List Line)
lines_left left l = option_map (lines_of l.line_limit l.room) (unread left l.ahead)

-- all room is used up, and more follows
abbrev pub IsOver : {S : Type 0} → Lines S → Type 0
IsOver l = (l.room ≡ 0) × (l.ahead.start < l.ahead.end)

-- where the end was found, no byte is left
abbrev pub EndsRightly : {S : Type 0} → (S → Option (List ℕ)) → Lines S → Type 0
EndsRightly left l = IsTrue (has_ended l) → IsAtEnd (unread_of left l)
