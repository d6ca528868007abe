-- The lines of an input, which are its parts between line feeds.
use Rattle.std.specs.Prelude.{ℕ, ◌-◌, ◌==◌, ◌≢◌, nat_lt, List, [], ◌∷◌, length, if◌then◌else◌}

-- pieces, with one byte more at the front of the first
abbrev pub in_front : ℕ → List (List ℕ) → List (List ℕ)
in_front b [] = (b ∷ []) ∷ []
in_front b (piece ∷ pieces) = (b ∷ piece) ∷ pieces

-- the pieces of an input, each a line with the line feed, byte 10, that ends it; the last may end without one, and isn't empty then
abbrev pub pieces_of : List ℕ → List (List ℕ)
pieces_of [] = []
pieces_of (b ∷ bs) = if b == 10 then (10 ∷ []) ∷ pieces_of bs else in_front b (pieces_of bs)

-- a piece without its line feed
abbrev pub text_of : List ℕ → List ℕ
text_of [] = []
text_of (b ∷ bs) = if b == 10 then [] else b ∷ text_of bs

-- a line: its text, or that it is too long, or that the input is over before it ends
pub data Line : Type 0 where
  text : List ℕ → Line
  long : Line
  over : Line

-- the line of a piece, where a text may have `limit` bytes
abbrev pub line_of : ℕ → List ℕ → Line
line_of limit piece = if nat_lt limit (length (text_of piece)) then long else text (text_of piece)

-- the lines of some pieces, where the pieces may have `room` bytes together: the first that has more is over, and the last
abbrev pub lines_of_pieces : ℕ → ℕ → List (List ℕ) → List Line
lines_of_pieces limit room [] = []
lines_of_pieces limit room (piece ∷ pieces) =
    if nat_lt room (length piece) then over ∷ [] else line_of limit piece ∷ lines_of_pieces limit (room - length piece) pieces

-- the lines of an input
abbrev pub lines_of : ℕ → ℕ → List ℕ → List Line
lines_of limit room input = lines_of_pieces limit room (pieces_of input)

-- no byte of these is a line feed
abbrev pub NoLineFeed : List ℕ → Type 0
NoLineFeed [] = Unit {0}
NoLineFeed (b ∷ bs) = (b ≢ 10) × NoLineFeed bs
