-- Lines that were taken whole.
use Rattle.std.proofs.Common.{◌≡◌, ◌⊎◌, inl, inr, ◌+◌, ◌-◌, ◌≤◌, ◌==◌, ◌≢◌, ℕ, Bool, IsTrue, true, false, nat_lt, List, [], ◌∷◌, ◌++◌, length, if◌then◌else◌, Option, Some, None, Result, Ok, Err, OnOk, refl, sym, ap, ◌∙◌, subst, append-nil, append_assoc, length-append, arith}
use Rattle.std.proofs.lemmas.Bool.Decides.{nat_tests}
use Rattle.es_model.specs.declared.limits.TheConstants.{MOST_INPUT_BYTES}
use Rattle.es_model.specs.Lines.{Line, over, in_front, pieces_of, line_of, lines_of_pieces, NoLineFeed}
use Rattle.es_io.specs.Next.{UsesLine, TakesAtMost}
use Rattle.es_io.proofs.LinesLemmas.{TakesAtMost-none}
use Rattle.es_top.specs.Limits.{TakesLines}
use Rattle.es_top.specs.inner.Serves.{NoneOver}
use Rattle.es_top.specs.Runs.{EndsLine}
use Rattle.es_top.specs.inner.Taken.{UsesSome, LeavesUnended, Counted, Taken}

-- a line with its line feed is the first piece
not_feed : (b : ℕ) → b ≢ 10 → (b == 10) ≡ false
not_feed b other = grind (arith, nat_tests)

pieces_line : (front more : List ℕ) → NoLineFeed front → pieces_of (front ++ 10 ∷ more) ≡ (front ++ 10 ∷ []) ∷ pieces_of more
pieces_line [] more none = refl
pieces_line (b ∷ front) more none =
    (λ i. if not_feed b none.0 i then (10 ∷ []) ∷ pieces_of (front ++ 10 ∷ more) else in_front b (pieces_of (front ++ 10 ∷ more))) ∙ ap (in_front b) (pieces_line front more none.1)

-- a last line without one is one piece
pieces_last : (b : ℕ) (front : List ℕ) → NoLineFeed (b ∷ front) → pieces_of (b ∷ front) ≡ (b ∷ front) ∷ []
pieces_last b [] none = λ i. if not_feed b none.0 i then (10 ∷ []) ∷ [] else (b ∷ []) ∷ []
pieces_last b (c ∷ front) none =
    (λ i. if not_feed b none.0 i then (10 ∷ []) ∷ pieces_of (c ∷ front) else in_front b (pieces_of (c ∷ front))) ∙ ap (in_front b) (pieces_last c front none.1)

-- there is a piece where there is a byte
in_front_some : (d : ℕ) (ps : List (List ℕ)) → in_front d ps ≡ [] → ⊥
in_front_some d [] is = absurd (cc is)
in_front_some d (p ∷ ps) is = absurd (cc is)

some_from : (y : ℕ) (qs : List (List ℕ)) (v : Bool) → (if v then (10 ∷ []) ∷ qs else in_front y qs) ≡ [] → ⊥
some_from y qs true is = absurd (cc is)
some_from y qs false is = in_front_some y qs is

some_piece : (ys : List ℕ) → pieces_of (ys ++ 10 ∷ []) ≡ [] → ⊥
some_piece [] is = absurd (cc is)
some_piece (y ∷ ys) is = some_from y (pieces_of (ys ++ 10 ∷ [])) (y == 10) is

front_of : (c : ℕ) (ps : List (List ℕ)) → (ps ≡ [] → ⊥) → (rs : List (List ℕ)) → in_front c (ps ++ rs) ≡ in_front c ps ++ rs
front_of c [] not rs = absurd (not refl)
front_of c (p ∷ ps) not rs = refl

-- whole lines, and what comes after them
ended_pieces : (front more : List ℕ) → pieces_of ((front ++ 10 ∷ []) ++ more) ≡ pieces_of (front ++ 10 ∷ []) ++ pieces_of more
ended_pieces [] more = refl
ended_pieces (b ∷ front) more =
    elim (b == 10) as (λ v. (if v then (10 ∷ []) ∷ pieces_of ((front ++ 10 ∷ []) ++ more) else in_front b (pieces_of ((front ++ 10 ∷ []) ++ more)))
    ≡ (if v then (10 ∷ []) ∷ pieces_of (front ++ 10 ∷ []) else in_front b (pieces_of (front ++ 10 ∷ []))) ++ pieces_of more) [
      | true ↦ ap (λ (ps : List (List ℕ)). (10 ∷ []) ∷ ps) (ended_pieces front more)
      | false ↦ ap (in_front b) (ended_pieces front more) ∙ front_of b (pieces_of (front ++ 10 ∷ [])) (some_piece front) (pieces_of more)
    ]

pieces_after : (answered more : List ℕ) → EndsLine answered → pieces_of (answered ++ more) ≡ pieces_of answered ++ pieces_of more
pieces_after answered more (inl none) = subst (λ a. pieces_of (a ++ more) ≡ pieces_of a ++ pieces_of more) (sym none) refl
pieces_after answered more (inr ends) = subst (λ a. pieces_of (a ++ more) ≡ pieces_of a ++ pieces_of more) (sym ends.1) (ended_pieces ends.0 more)

-- before the first line
pub counted_none : (bytes : List ℕ) (ended : Bool) → Counted bytes 0 bytes ended
counted_none bytes ended = record { answered = []; parts = refl; pieces = refl; number = refl; ends = inl (inl refl) }

-- one line more
module _ (bytes : List ℕ) (count : ℕ) (before : List ℕ) (was now : Bool) (x : Counted bytes count before was) where
  by_feed : (front rest : List ℕ) → NoLineFeed front → before ≡ front ++ 10 ∷ rest → EndsLine x.answered → Counted bytes (count + 1) rest now
  by_feed front rest none is whole =
      let line = front ++ 10 ∷ [] in
      let split : before ≡ line ++ rest = is ∙ sym (append_assoc front (10 ∷ []) rest) in
      let more : pieces_of (x.answered ++ line) ≡ pieces_of x.answered ++ line ∷ [] = pieces_after x.answered line whole ∙ ap (λ (ps : List (List ℕ)). pieces_of x.answered ++ ps) (pieces_line front [] none) in
      record {
        answered = x.answered ++ line;
        parts = x.parts ∙ ap (λ (r : List ℕ). x.answered ++ r) split ∙ sym (append_assoc x.answered line rest);
        pieces = x.pieces ∙ ap (λ (r : List ℕ). pieces_of x.answered ++ pieces_of r) is ∙ ap (λ (ps : List (List ℕ)). pieces_of x.answered ++ ps) (pieces_line front rest none)
            ∙ sym (append_assoc (pieces_of x.answered) (line ∷ []) (pieces_of rest)) ∙ ap (λ (ps : List (List ℕ)). ps ++ pieces_of rest) (sym more);
        number = ap length more ∙ omega (arith, x.number, length-append (pieces_of x.answered) (line ∷ []));
        ends = inl (inr (x.answered ++ front, sym (append_assoc x.answered front (10 ∷ []))));
      }

  by_end : (b : ℕ) (front : List ℕ) → NoLineFeed (b ∷ front) → before ≡ b ∷ front → IsTrue now → EndsLine x.answered → Counted bytes (count + 1) [] now
  by_end b front none is ended whole =
      let more : pieces_of (x.answered ++ b ∷ front) ≡ pieces_of x.answered ++ (b ∷ front) ∷ [] = pieces_after x.answered (b ∷ front) whole ∙ ap (λ (ps : List (List ℕ)). pieces_of x.answered ++ ps) (pieces_last b front none) in
      record {
        answered = x.answered ++ b ∷ front;
        parts = x.parts ∙ ap (λ (r : List ℕ). x.answered ++ r) is ∙ sym (append-nil (x.answered ++ b ∷ front));
        pieces = ap pieces_of (x.parts ∙ ap (λ (r : List ℕ). x.answered ++ r) is) ∙ sym (append-nil (pieces_of (x.answered ++ b ∷ front)));
        number = ap length more ∙ omega (arith, x.number, length-append (pieces_of x.answered) ((b ∷ front) ∷ []));
        ends = inr (refl, ended);
      }

  by_use : (new : List ℕ) → (before ≡ [] → ⊥) → UsesLine before new now → EndsLine x.answered ⊎ ((before ≡ []) × IsTrue was) → Counted bytes (count + 1) new now
  by_use new some used (inr nothing) = absurd (some nothing.0)
  by_use new some (front, none, inl is) (inl whole) = by_feed front new none is whole
  by_use new some ([], none, inr is) (inl whole) = absurd (some is.0)
  by_use new some (b ∷ front, none, inr is) (inl whole) = subst (λ t. Counted bytes (count + 1) t now) (sym is.1) (by_end b front none is.0 is.2 whole)

  pub counted_more : (after : List ℕ) → UsesSome before after now → Counted bytes (count + 1) after now
  counted_more after used = by_use after used.0 used.1 x.ends

-- a read failed, and the source wasn't known to be at its end
module _ (bytes : List ℕ) (count : ℕ) (before : List ℕ) (x : Counted bytes count before false) where
  whole_lines : EndsLine x.answered ⊎ ((before ≡ []) × IsTrue false) → EndsLine x.answered
  whole_lines (inl whole) = whole
  whole_lines (inr known) = absurd (cc known.1)

  pub counted_taken : (rest : List ℕ) → LeavesUnended before rest → Taken bytes count rest
  counted_taken rest left = record {
    answered = x.answered;
    begun = left.0;
    parts = x.parts ∙ ap (λ (r : List ℕ). x.answered ++ r) left.1;
    unended = left.2;
    pieces = x.pieces ∙ ap (λ (r : List ℕ). pieces_of x.answered ++ pieces_of r) left.1;
    number = x.number;
    ends = whole_lines x.ends;
  }

by_room : (b : Bool) (line : Line) (after taken : List Line) (first : Line) (others wanted : List Line) → (line ≡ over → ⊥) → (after ≡ others → taken ≡ wanted) → line ∷ after ≡ (if b then over ∷ [] else first ∷ others)
    → line ∷ taken ≡ (if b then over ∷ [] else first ∷ wanted)
by_room true line after taken first others wanted not so is = let clash : line ≡ over = cc is in absurd (not clash)
by_room false line after taken first others wanted not so is =
    let head : line ≡ first = cc is in
    let tail : after ≡ others = cc is in
    λ i. head i ∷ so tail i

-- the lines that were answered are those of the bytes that were answered
pub taken_lines : (limit room : ℕ) (ps qs : List (List ℕ)) (taken rest : List Line) → taken ++ rest ≡ lines_of_pieces limit room (ps ++ qs) → length taken ≡ length ps → NoneOver taken → taken ≡ lines_of_pieces limit room ps
taken_lines limit room [] qs [] rest is same none = refl
taken_lines limit room [] qs (line ∷ taken) rest is same none = absurd (omega (arith, same))
taken_lines limit room (p ∷ ps) qs [] rest is same none = absurd (omega (arith, same))
taken_lines limit room (p ∷ ps) qs (line ∷ taken) rest is same none =
    by_room (nat_lt room (length p)) line (taken ++ rest) taken (line_of limit p) (lines_of_pieces limit (room - length p) (ps ++ qs)) (lines_of_pieces limit (room - length p) ps) none.0
    (λ others. taken_lines limit (room - length p) ps qs taken rest others (omega (arith, same)) none.1) is

pub on_ok : {T E P : Type 0} → (r : Result T E) → P → OnOk r P
on_ok (Ok x) p = p
on_ok (Err e) p = tt

-- there is a first line only where there are bytes
pub some_bytes : (f : List ℕ → List Line) → f [] ≡ [] → (old : List ℕ) (line : Line) (after : List Line) → f old ≡ line ∷ after → old ≡ [] → ⊥
some_bytes f none old line after next is = let clash : [] ≡ line ∷ after = sym none ∙ ap f (sym is) ∙ next in absurd (cc clash)

-- no less was taken than more allows
pub takes_less : (v w : Option (List ℕ)) (most still less : ℕ) → TakesAtMost v w most still → less ≤ still → TakesAtMost v w most less
takes_less None w most still less so fewer = tt
takes_less (Some xs) None most still less so fewer = absurd so
takes_less (Some xs) (Some ys) most still less so fewer = omega (arith, so, fewer)

-- what a reader took that may take so much is what was taken of the source that it was lent
pub took_lines : (old lent left new : Option (List ℕ)) (may still : ℕ) → lent ≡ old → left ≡ new → may ≡ MOST_INPUT_BYTES + 1 → TakesAtMost lent left may still → TakesLines old new
took_lines old lent left new may still begun ended whole taken =
    takes_less old new (MOST_INPUT_BYTES + 1) still 0 (subst (λ m. TakesAtMost old new m still) whole (subst (λ u. TakesAtMost u new may still) begun (subst (λ w. TakesAtMost lent w may still) ended taken))) (omega arith)

-- nothing was taken
pub took_nothing : (old new : Option (List ℕ)) → new ≡ old → TakesLines old new
took_nothing old new same = took_lines old old old new (MOST_INPUT_BYTES + 1) (MOST_INPUT_BYTES + 1) refl (sym same) refl (TakesAtMost-none old (MOST_INPUT_BYTES + 1))
