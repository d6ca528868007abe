-- A line that is read byte by byte.
use Rattle.std.proofs.Common.{◌≡◌, ◌≢◌, ◌<◌, ◌≤◌, ℕ, zero, suc, ◌+◌, ◌-◌, Bool, true, false, List, [], ◌∷◌, ◌++◌, length, take, drop, Option, Some, None, refl, sym, ap, ◌∙◌, subst, append_assoc, append-nil, arith, length-append, length-drop, nat_lt, if◌then◌else◌, inl, inr}
use Rattle.std.specs.Option.{option_map}
use Rattle.std.proofs.lemmas.Bool.{cases_lt}
use Rattle.std.proofs.lemmas.Bool.Decides.{nat_tests}
use Rattle.std.proofs.lemmas.List.{take_all, take-append-le, length-take}
use Rattle.std.specs.Io.KnownBytes.{Consumes, Keeps, IsAtEnd, prepend_known}
use Rattle.es_model.specs.Lines.{Line, text, pieces_of, text_of, line_of, lines_of, NoLineFeed}
use Rattle.es_io.specs.Next.{IsNext, IsFirst, Uses, UsesKnown, UsesLine, EndsUnended, TakesAtMost}
use Rattle.es_io.specs.declared.lines.Step.{Step}
use Rattle.es_io.specs.declared.lines.Step.TheVariants as step
use Rattle.es_io.proofs.PiecesLemmas.{NoLineFeed-push, first_piece, pieces_of-break, pieces_of-end, pieces_of-parts, text_of-break, text_of-end, lines-fits, lines-over, line-long, line-text}

-- a line so far: of the bytes xs, all but ys are in it
pub record PartOf (limit count : ℕ) (line xs ys : List ℕ) : Type 0 where
  pub front : List ℕ
  pub parts : xs ≡ front ++ ys
  pub none : NoLineFeed front
  pub size : length front ≡ count
  pub kept : line ≡ take limit front

-- the same where the bytes are told
abbrev pub Part : ℕ → ℕ → List ℕ → Option (List ℕ) → Option (List ℕ) → Type 0
Part limit count line None v = Unit {0}
Part limit count line (Some xs) None = ⊥
Part limit count line (Some xs) (Some ys) = PartOf limit count line xs ys

pub Part-start : (limit : ℕ) (u : Option (List ℕ)) → Part limit 0 [] u u
Part-start limit None = tt
Part-start zero (Some xs) = record { front = []; parts = refl; none = tt; size = refl; kept = refl }
Part-start (suc n) (Some xs) = record { front = []; parts = refl; none = tt; size = refl; kept = refl }

pub Part-kept : (limit count : ℕ) (line : List ℕ) (u v w : Option (List ℕ)) → Part limit count line u v → Keeps v w → Part limit count line u w
Part-kept limit count line None v w so same = tt
Part-kept limit count line (Some xs) None w so same = absurd so
Part-kept limit count line (Some xs) (Some ys) None so same = absurd same
Part-kept limit count line (Some xs) (Some ys) (Some zs) so same = record { front = so.front; parts = so.parts ∙ ap (λ (t : List ℕ). so.front ++ t) (sym same); none = so.none; size = so.size; kept = so.kept }

take_push : (limit : ℕ) (xs : List ℕ) (b : ℕ) → length xs < limit → take limit xs ++ b ∷ [] ≡ take limit (xs ++ b ∷ [])
take_push limit xs b short = ap (λ (t : List ℕ). t ++ b ∷ []) (take_all limit xs (omega arith)) ∙ sym (take_all limit (xs ++ b ∷ []) (omega (arith, length-append xs (b ∷ []))))

-- one more byte, which is kept where there is room in the line
pub Part-push : (limit count : ℕ) (line new : List ℕ) (u v w : Option (List ℕ)) (b : ℕ) → new ≡ line ++ b ∷ [] → b ≢ 10 → count < limit → Part limit count line u v → Consumes v w (b ∷ []) → Part limit (count + 1) new u w
Part-push limit count line new None v w b is other short so goes = tt
Part-push limit count line new (Some xs) None w b is other short so goes = absurd so
Part-push limit count line new (Some xs) (Some ys) None b is other short so goes = absurd goes
Part-push limit count line new (Some xs) (Some ys) (Some zs) b is other short so goes = record {
  front = so.front ++ b ∷ [];
  parts = so.parts ∙ ap (λ (t : List ℕ). so.front ++ t) goes ∙ sym (append_assoc so.front (b ∷ []) zs);
  none = NoLineFeed-push so.front b so.none other;
  size = length-append so.front (b ∷ []) ∙ omega (arith, so.size);
  kept = is ∙ ap (λ (t : List ℕ). t ++ b ∷ []) so.kept ∙ take_push limit so.front b (omega (arith, so.size));
}

pub Part-pass : (limit count : ℕ) (line new : List ℕ) (u v w : Option (List ℕ)) (b : ℕ) → new ≡ line → b ≢ 10 → limit ≤ count → Part limit count line u v → Consumes v w (b ∷ []) → Part limit (count + 1) new u w
Part-pass limit count line new None v w b is other past so goes = tt
Part-pass limit count line new (Some xs) None w b is other past so goes = absurd so
Part-pass limit count line new (Some xs) (Some ys) None b is other past so goes = absurd goes
Part-pass limit count line new (Some xs) (Some ys) (Some zs) b is other past so goes = record {
  front = so.front ++ b ∷ [];
  parts = so.parts ∙ ap (λ (t : List ℕ). so.front ++ t) goes ∙ sym (append_assoc so.front (b ∷ []) zs);
  none = NoLineFeed-push so.front b so.none other;
  size = length-append so.front (b ∷ []) ∙ omega (arith, so.size);
  kept = is ∙ so.kept ∙ sym (take-append-le limit so.front (b ∷ []) (omega (arith, so.size)));
}

-- a line that has ended is a line of the input, by how much of it was kept
ended : (limit count : ℕ) (line front piece : List ℕ) (before after : List Line) (s : Step) → text_of piece ≡ front → length front ≡ count → line ≡ take limit front
    → before ≡ line_of limit piece ∷ after → s ≡ (if nat_lt limit count then step.Long else step.Line line) → IsFirst before after s
ended limit count line front piece before after s first size kept lines is = elim (cases_lt limit count) [
  | inl past ↦
      let long_is : s ≡ step.Long = is ∙ grind (arith, nat_tests) in
      subst (λ x. IsFirst before after x) (sym long_is) (lines ∙ ap (λ (l : Line). l ∷ after) (line-long limit piece front first (omega arith)))
  | inr fits ↦
      let line_is : s ≡ step.Line line = is ∙ grind (arith, nat_tests) in
      let whole : line ≡ front = kept ∙ take_all limit front (omega arith) in
      subst (λ x. IsFirst before after x) (sym line_is) (lines ∙ ap (λ (l : Line). l ∷ after) (line-text limit piece front first (omega arith) ∙ ap text (sym whole)))
]

-- the line ends at a line feed
pub next_at_break : (limit count room left : ℕ) (line : List ℕ) (u v w : Option (List ℕ)) (b : ℕ) (s : Step) → room ≡ left + count + 1 → b ≡ 10
    → s ≡ (if nat_lt limit count then step.Long else step.Line line) → Part limit count line u v → Consumes v w (b ∷ []) → IsNext (option_map (lines_of limit room) u) (option_map (lines_of limit left) w) s
next_at_break limit count room left line None v w b s sum ten is so goes = tt
next_at_break limit count room left line (Some xs) None w b s sum ten is so goes = absurd so
next_at_break limit count room left line (Some xs) (Some ys) None b s sum ten is so goes = absurd goes
next_at_break limit count room left line (Some xs) (Some ys) (Some zs) b s sum ten is so goes =
    let whole : xs ≡ so.front ++ 10 ∷ zs = so.parts ∙ ap (λ (t : List ℕ). so.front ++ t) goes ∙ (λ i. so.front ++ ten i ∷ zs) in
    let pieces : pieces_of xs ≡ (so.front ++ 10 ∷ []) ∷ pieces_of zs = ap pieces_of whole ∙ pieces_of-break so.front zs so.none in
    let size : length (so.front ++ 10 ∷ []) ≡ count + 1 = length-append so.front (10 ∷ []) ∙ omega (arith, so.size) in
    let rest : room - length (so.front ++ 10 ∷ []) ≡ left = omega (arith, size) in
    ended limit count line so.front (so.front ++ 10 ∷ []) (lines_of limit room xs) (lines_of limit left zs) s (text_of-break so.front so.none) so.size so.kept
    (lines-fits limit room xs (so.front ++ 10 ∷ []) (pieces_of zs) pieces (omega (arith, size)) ∙ ap (λ n. line_of limit (so.front ++ 10 ∷ []) ∷ lines_of limit n zs) rest) is

-- the line ends at the end of the input
at_end : (limit count room left : ℕ) (line xs front : List ℕ) (s : Step) → xs ≡ front → NoLineFeed front → length front ≡ count → line ≡ take limit front → room ≡ left + count → 0 < count
    → s ≡ (if nat_lt limit count then step.Long else step.Line line) → IsFirst (lines_of limit room xs) (lines_of limit left []) s
at_end limit count room left line xs [] s whole none size kept sum some is = absurd (omega arith)
at_end limit count room left line xs (b ∷ front) s whole none size kept sum some is =
    ended limit count line (b ∷ front) (b ∷ front) (lines_of limit room xs) [] s (text_of-end (b ∷ front) none) size kept
    (lines-fits limit room xs (b ∷ front) [] (ap pieces_of whole ∙ pieces_of-end b front none) (omega arith)) is

pub next_at_end : (limit count room left : ℕ) (line : List ℕ) (u v : Option (List ℕ)) (s : Step) → room ≡ left + count → 0 < count
    → s ≡ (if nat_lt limit count then step.Long else step.Line line) → Part limit count line u v → IsAtEnd v → IsNext (option_map (lines_of limit room) u) (option_map (lines_of limit left) v) s
next_at_end limit count room left line None v s sum some is so end = tt
next_at_end limit count room left line (Some xs) None s sum some is so end = absurd so
next_at_end limit count room left line (Some xs) (Some ys) s sum some is so end =
    let whole : xs ≡ so.front = so.parts ∙ ap (λ (t : List ℕ). so.front ++ t) end ∙ append-nil so.front in
    subst (λ (t : List ℕ). IsFirst (lines_of limit room xs) (lines_of limit left t) s) (sym end) (at_end limit count room left line xs so.front s whole so.none so.size so.kept sum some is)

-- the input is over before the line ends
over_here : (limit room left : ℕ) (xs front ys : List ℕ) → xs ≡ front ++ ys → NoLineFeed front → length front ≡ room → left ≡ 0 → 0 < length ys → IsFirst (lines_of limit room xs) (lines_of limit left ys) step.Over
over_here limit room left xs front [] whole none size used some = absurd (omega arith)
over_here limit room left xs front (b ∷ bs) whole none size used some =
    let first = first_piece b bs in (
      lines-over limit room xs (front ++ first.piece) first.others (ap pieces_of whole ∙ pieces_of-parts front b bs none first) (omega (arith, length-append front first.piece, first.some)),
      lines-over limit left (b ∷ bs) first.piece first.others first.parts (omega (arith, first.some)),
    )

-- something is left
abbrev pub IsMore : Option (List ℕ) → Type 0
IsMore None = Unit {0}
IsMore (Some xs) = 0 < length xs

pub next_at_over : (limit count room left : ℕ) (line : List ℕ) (u v : Option (List ℕ)) → room ≡ left + count → left ≡ 0 → Part limit count line u v → IsMore v → IsNext (option_map (lines_of limit room) u) (option_map (lines_of limit left) v) step.Over
next_at_over limit count room left line None v sum used so more = tt
next_at_over limit count room left line (Some xs) None sum used so more = absurd so
next_at_over limit count room left line (Some xs) (Some ys) sum used so more = over_here limit room left xs so.front ys so.parts so.none (omega (arith, so.size)) used more

-- a read that fails in the middle of a line
pub unended_at : (limit count : ℕ) (line : List ℕ) (u v w left : Option (List ℕ)) → Part limit count line u v → Keeps v w → w ≡ left → EndsUnended u left
unended_at limit count line None v w left so same is = tt
unended_at limit count line (Some xs) None w left so same is = absurd so
unended_at limit count line (Some xs) (Some ys) None left so same is = absurd same
unended_at limit count line (Some xs) (Some ys) (Some zs) left so same is =
    subst (λ o. EndsUnended (Some xs) o) is (so.front, so.parts ∙ ap (λ (t : List ℕ). so.front ++ t) (sym same), so.none)

-- bytes are taken in two goes
pub TakesAtMost-then : (u v w : Option (List ℕ)) (k m n : ℕ) → TakesAtMost u v k m → TakesAtMost v w m n → TakesAtMost u w k n
TakesAtMost-then None v w k m n x y = tt
TakesAtMost-then (Some a) None w k m n x y = absurd x
TakesAtMost-then (Some a) (Some b) None k m n x y = absurd y
TakesAtMost-then (Some a) (Some b) (Some c) k m n x y = omega arith

pub TakesAtMost-none : (u : Option (List ℕ)) (k : ℕ) → TakesAtMost u u k k
TakesAtMost-none None k = tt
TakesAtMost-none (Some a) k = omega arith

-- and nothing more is taken for a byte that was read ahead
pub TakesAtMost-same : (u v w x : Option (List ℕ)) (k m n o : ℕ) → TakesAtMost u v k m → TakesAtMost v w m n → x ≡ w → o ≡ n → TakesAtMost u x k o
TakesAtMost-same u v w x k m n o before more same_left same_count =
    subst (λ y. TakesAtMost u y k o) (sym same_left) (subst (λ y. TakesAtMost u w k y) (sym same_count) (TakesAtMost-then u v w k m n before more))

-- where something was read ahead, something is left
pub IsMore-ahead : (start end : ℕ) (items : List ℕ) (u : Option (List ℕ)) → start < end → end ≤ length items → IsMore (prepend_known (drop start (take end items)) u)
IsMore-ahead start end items None some inside = tt
IsMore-ahead start end items (Some xs) some inside =
    omega (arith, length-append (drop start (take end items)) xs, length-drop start (take end items), length-take end items)

-- the same lines under limits that are equal
pub same_limits : (limit before after room left : ℕ) (u w : Option (List ℕ)) (s : Step) → limit ≡ before → limit ≡ after
    → IsNext (option_map (lines_of limit room) u) (option_map (lines_of limit left) w) s → IsNext (option_map (lines_of before room) u) (option_map (lines_of after left) w) s
same_limits limit before after room left u w s same_before same_after next =
    subst (λ n. IsNext (option_map (lines_of n room) u) (option_map (lines_of after left) w) s) same_before
    (subst (λ n. IsNext (option_map (lines_of limit room) u) (option_map (lines_of n left) w) s) same_after next)

pub Part-limit : (limit now count : ℕ) (line : List ℕ) (u v w : Option (List ℕ)) → now ≡ limit → Part limit count line u v → Keeps v w → Part now count line u w
Part-limit limit now count line u v w same so kept = subst (λ n. Part n count line u w) (sym same) (Part-kept limit count line u v w so kept)

-- what is used of the bytes, at each exit
uses_line : (limit count : ℕ) (line old new : List ℕ) (ended : Bool) (s : Step) → s ≡ (if nat_lt limit count then step.Long else step.Line line) → UsesLine old new ended → UsesKnown old new ended s
uses_line limit count line old new ended s is used = subst (UsesKnown old new ended) (sym is) (by_test (nat_lt limit count))
  where
    by_test : (b : Bool) → UsesKnown old new ended (if b then step.Long else step.Line line)
    by_test true = used
    by_test false = used

pub uses_at_break : (limit count most : ℕ) (line : List ℕ) (u v w : Option (List ℕ)) (b : ℕ) (ended : Bool) (s : Step) → b ≡ 10 → s ≡ (if nat_lt most count then step.Long else step.Line line) → Part limit count line u v → Consumes v w (b ∷ []) → Uses u w ended s
uses_at_break limit count most line None v w b ended s ten is so goes = tt
uses_at_break limit count most line (Some xs) None w b ended s ten is so goes = absurd so
uses_at_break limit count most line (Some xs) (Some ys) None b ended s ten is so goes = absurd goes
uses_at_break limit count most line (Some xs) (Some ys) (Some zs) b ended s ten is so goes =
    uses_line most count line xs zs ended s is (so.front, so.none, inl (so.parts ∙ ap (λ (t : List ℕ). so.front ++ t) goes ∙ (λ i. so.front ++ ten i ∷ zs)))

pub uses_at_end : (limit count most : ℕ) (line : List ℕ) (u v : Option (List ℕ)) (s : Step) → s ≡ (if nat_lt most count then step.Long else step.Line line) → Part limit count line u v → IsAtEnd v → Uses u v true s
uses_at_end limit count most line None v s is so end = tt
uses_at_end limit count most line (Some xs) None s is so end = absurd so
uses_at_end limit count most line (Some xs) (Some ys) s is so end =
    uses_line most count line xs ys true s is (so.front, so.none, inr (so.parts ∙ ap (λ (t : List ℕ). so.front ++ t) end ∙ append-nil so.front, end, refl))

pub uses_at_none : (limit count : ℕ) (line : List ℕ) (u v : Option (List ℕ)) (ended : Bool) → count ≡ 0 → Part limit count line u v → IsAtEnd v → Uses u v ended step.End
uses_at_none limit count line None v ended nothing so end = tt
uses_at_none limit count line (Some xs) None ended nothing so end = absurd so
uses_at_none limit count line (Some xs) (Some ys) ended nothing so end =
    (so.parts ∙ (λ i. none_of so.front (so.size ∙ nothing) i ++ end i), end)
  where
    none_of : (zs : List ℕ) → length zs ≡ 0 → zs ≡ []
    none_of [] none = refl
    none_of (z ∷ zs) none = absurd (omega arith)

pub uses_at_over : (limit count : ℕ) (line : List ℕ) (u v : Option (List ℕ)) (ended : Bool) → Part limit count line u v → Uses u v ended step.Over
uses_at_over limit count line None v ended so = tt
uses_at_over limit count line (Some xs) None ended so = absurd so
uses_at_over limit count line (Some xs) (Some ys) ended so = (so.front, so.none, so.parts)

-- at the end there is no line, and nothing is used
pub next_at_none : (limit room : ℕ) (u : Option (List ℕ)) → IsAtEnd u → IsNext (option_map (lines_of limit room) u) (option_map (lines_of limit room) u) step.End
next_at_none limit room None end = tt
next_at_none limit room (Some xs) end = subst (λ (ys : List ℕ). IsFirst (lines_of limit room ys) (lines_of limit room ys) step.End) (sym end) (refl, refl)

pub uses_nothing : (u : Option (List ℕ)) (ended : Bool) → IsAtEnd u → Uses u u ended step.End
uses_nothing None ended end = tt
uses_nothing (Some xs) ended end = (end, end)
