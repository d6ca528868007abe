-- Pieces of an input, where a first part without a line feed is known.
use Rattle.std.proofs.Common.{◌≡◌, ◌≢◌, ◌<◌, ◌≤◌, ℕ, ◌-◌, List, [], ◌∷◌, ◌++◌, length, refl, ap, ◌∙◌, arith, nat_lt, true, false, if◌then◌else◌, inl, inr}
use Rattle.std.proofs.lemmas.Bool.{cases_eq}
use Rattle.std.proofs.lemmas.Bool.Decides.{nat_tests}
use Rattle.es_model.specs.Lines.{text, long, over, in_front, pieces_of, text_of, line_of, lines_of_pieces, lines_of, NoLineFeed}

pub NoLineFeed-push : (xs : List ℕ) (b : ℕ) → NoLineFeed xs → b ≢ 10 → NoLineFeed (xs ++ b ∷ [])
NoLineFeed-push [] b none other = (other, tt)
NoLineFeed-push (x ∷ xs) b none other = (none.0, NoLineFeed-push xs b none.1 other)

-- at a byte that is no line feed
pieces_of-other : (b : ℕ) (bs : List ℕ) → b ≢ 10 → pieces_of (b ∷ bs) ≡ in_front b (pieces_of bs)
pieces_of-other b bs other = grind (arith, nat_tests)

text_of-other : (b : ℕ) (bs : List ℕ) → b ≢ 10 → text_of (b ∷ bs) ≡ b ∷ text_of bs
text_of-other b bs other = grind (arith, nat_tests)

-- the first piece of an input, where there is one
pub record FirstPiece (input : List ℕ) : Type 0 where
  pub piece : List ℕ
  pub others : List (List ℕ)
  pub parts : pieces_of input ≡ piece ∷ others
  pub some : 0 < length piece

in_front-first : (b : ℕ) (pieces : List (List ℕ)) → (piece : List ℕ) × (others : List (List ℕ)) × (in_front b pieces ≡ piece ∷ others) × (0 < length piece)
in_front-first b [] = (b ∷ [], [], refl, omega arith)
in_front-first b (p ∷ ps) = (b ∷ p, ps, refl, omega arith)

pub first_piece : (b : ℕ) (bs : List ℕ) → FirstPiece (b ∷ bs)
first_piece b bs = elim (cases_eq b 10) [
  | inl is ↦ record { piece = 10 ∷ []; others = pieces_of bs; parts = grind (arith, nat_tests); some = omega arith }
  | inr other ↦
      let found = in_front-first b (pieces_of bs) in
      record { piece = found.0; others = found.1; parts = pieces_of-other b bs other ∙ found.2; some = found.3 }
]

-- a line feed ends the first piece
pub pieces_of-break : (front rest : List ℕ) → NoLineFeed front → pieces_of (front ++ 10 ∷ rest) ≡ (front ++ 10 ∷ []) ∷ pieces_of rest
pieces_of-break [] rest none = refl
pieces_of-break (b ∷ front) rest none = pieces_of-other b (front ++ 10 ∷ rest) none.0 ∙ ap (in_front b) (pieces_of-break front rest none.1)

-- so does the end of the input
pub pieces_of-end : (b : ℕ) (front : List ℕ) → NoLineFeed (b ∷ front) → pieces_of (b ∷ front) ≡ (b ∷ front) ∷ []
pieces_of-end b [] none = pieces_of-other b [] none.0
pieces_of-end b (c ∷ front) none = pieces_of-other b (c ∷ front) none.0 ∙ ap (in_front b) (pieces_of-end c front none.1)

-- bytes in front are in the first piece
pub pieces_of-parts : (front : List ℕ) (b : ℕ) (bs : List ℕ) → NoLineFeed front → (first : FirstPiece (b ∷ bs)) → pieces_of (front ++ b ∷ bs) ≡ (front ++ first.piece) ∷ first.others
pieces_of-parts [] b bs none first = first.parts
pieces_of-parts (x ∷ front) b bs none first = pieces_of-other x (front ++ b ∷ bs) none.0 ∙ ap (in_front x) (pieces_of-parts front b bs none.1 first)

pub text_of-break : (front : List ℕ) → NoLineFeed front → text_of (front ++ 10 ∷ []) ≡ front
text_of-break [] none = refl
text_of-break (b ∷ front) none = text_of-other b (front ++ 10 ∷ []) none.0 ∙ ap (λ (t : List ℕ). b ∷ t) (text_of-break front none.1)

pub text_of-end : (front : List ℕ) → NoLineFeed front → text_of front ≡ front
text_of-end [] none = refl
text_of-end (b ∷ front) none = text_of-other b front none.0 ∙ ap (λ (t : List ℕ). b ∷ t) (text_of-end front none.1)

not_below : (m n : ℕ) → n ≤ m → nat_lt m n ≡ false
not_below m n le = grind (arith, nat_tests)

is_below : (m n : ℕ) → m < n → nat_lt m n ≡ true
is_below m n lt = grind (arith, nat_tests)

-- the lines where the first piece fits, and where it doesn't
pub lines-fits : (limit room : ℕ) (input piece : List ℕ) (others : List (List ℕ)) → pieces_of input ≡ piece ∷ others → length piece ≤ room
    → lines_of limit room input ≡ line_of limit piece ∷ lines_of_pieces limit (room - length piece) others
lines-fits limit room input piece others parts fits =
    ap (λ (t : List (List ℕ)). lines_of_pieces limit room t) parts
    ∙ (λ i. if not_below room (length piece) fits i then over ∷ [] else line_of limit piece ∷ lines_of_pieces limit (room - length piece) others)

pub lines-over : (limit room : ℕ) (input piece : List ℕ) (others : List (List ℕ)) → pieces_of input ≡ piece ∷ others → room < length piece → lines_of limit room input ≡ over ∷ []
lines-over limit room input piece others parts past =
    ap (λ (t : List (List ℕ)). lines_of_pieces limit room t) parts
    ∙ (λ i. if is_below room (length piece) past i then over ∷ [] else line_of limit piece ∷ lines_of_pieces limit (room - length piece) others)

pub line-long : (limit : ℕ) (piece front : List ℕ) → text_of piece ≡ front → limit < length front → line_of limit piece ≡ long
line-long limit piece front is past = λ i. if is_below limit (length (text_of piece)) (omega (arith, ap length is)) i then long else text (text_of piece)

pub line-text : (limit : ℕ) (piece front : List ℕ) → text_of piece ≡ front → length front ≤ limit → line_of limit piece ≡ text front
line-text limit piece front is fits = (λ i. if not_below limit (length (text_of piece)) (omega (arith, ap length is)) i then long else text (text_of piece)) ∙ ap text is
