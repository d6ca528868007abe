-- Known bytes that are read or written one text after another.
use Rattle.std.proofs.Common.{◌≡◌, ◌<◌, ◌≤◌, ℕ, ◌+◌, ◌-◌, min, List, [], ◌∷◌, ◌++◌, length, take, drop, Option, Some, None, refl, sym, ap, ◌∙◌, append_assoc, append-nil, take-append-drop, arith, length-drop, length-append}
use Rattle.std.proofs.lemmas.List.{take_at, take_all, drop_all, length-take, drop-drop}
use Rattle.std.specs.Io.KnownBytes.{Appends, Keeps, prepend_known}
use Rattle.es_io.specs.Front.{AppendsFront}

pub Appends-then : (u v w : Option (List ℕ)) (a b : List ℕ) → Appends u v a → Appends v w b → Appends u w (a ++ b)
Appends-then None v w a b x y = tt
Appends-then (Some xs) None w a b x y = absurd x
Appends-then (Some xs) (Some ys) None a b x y = y
Appends-then (Some xs) (Some ys) (Some zs) a b x y = y ∙ ap (λ (t : List ℕ). t ++ b) x ∙ append_assoc xs a b

pub Appends-nothing : (u : Option (List ℕ)) → Appends u u []
Appends-nothing None = tt
Appends-nothing (Some xs) = sym (append-nil xs)

pub Appends-kept : (u v w : Option (List ℕ)) (a : List ℕ) → Appends u v a → Keeps v w → Appends u w a
Appends-kept None v w a x y = tt
Appends-kept (Some xs) None w a x y = absurd x
Appends-kept (Some xs) (Some ys) None a x y = absurd y
Appends-kept (Some xs) (Some ys) (Some zs) a x y = y ∙ x

-- a slice from a place to the end
pub tail_is : (n : ℕ) (s : List ℕ) → take (length s - n) (drop n s) ≡ drop n s
tail_is n s = take_all (length s - n) (drop n s) (omega (arith, length-drop n s))

-- what is written in pieces
pub record Written (old new : Option (List ℕ)) (bytes rest : List ℕ) : Type 0 where
  pub front : List ℕ
  pub parts : bytes ≡ front ++ rest
  pub written : Appends old new front

pub Written-none : (old : Option (List ℕ)) (bytes : List ℕ) → Written old old bytes bytes
Written-none old bytes = record { front = []; parts = refl; written = Appends-nothing old }

pub Written-more : (u v w : Option (List ℕ)) (bytes rest : List ℕ) (n : ℕ) → Written u v bytes rest → Appends v w (take n rest) → Written u w bytes (take (length rest - n) (drop n rest))
Written-more u v w bytes rest n so more = rw (tail_is n rest) record {
  front = so.front ++ take n rest;
  parts = so.parts ∙ ap (λ (t : List ℕ). so.front ++ t) (sym (take-append-drop n rest)) ∙ sym (append_assoc so.front (take n rest) (drop n rest));
  written = Appends-then u v w so.front (take n rest) so.written more;
}

pub Written-all : (u v : Option (List ℕ)) (bytes rest : List ℕ) → Written u v bytes rest → length rest ≡ 0 → Appends u v bytes
Written-all u v bytes [] so none = let same : so.front ≡ bytes = sym (so.parts ∙ append-nil so.front) in rw (← same) so.written
Written-all u v bytes (x ∷ rest) so none = absurd (omega arith)

pub Written-front : (u v w : Option (List ℕ)) (bytes rest : List ℕ) → Written u v bytes rest → Keeps v w → AppendsFront u w bytes
Written-front u v w bytes rest so kept = record { front = so.front; rest = rest; parts = so.parts; written = Appends-kept u v w so.front so.written kept }

-- what was copied is the front of what was left
pub read_parts : (at n : ℕ) (bs tail rest : List ℕ) → tail ≡ drop at bs → n ≤ length tail → drop at bs ≡ take n (take n tail ++ rest) ++ drop (at + n) bs
read_parts at n bs tail rest is le =
    let size : length (take n tail) ≡ n = length-take n tail ∙ omega arith in
    let front : take n (take n tail ++ rest) ≡ take n tail = take_at (take n tail) rest n size in
    sym is ∙ sym (take-append-drop n tail) ∙ ap (λ (t : List ℕ). t ++ drop n tail) (sym front) ∙ ap (λ (t : List ℕ). take n (take n tail ++ rest) ++ t) (ap (λ (t : List ℕ). drop n t) is ∙ drop-drop n at bs)

-- a read of nothing with room for something leaves nothing
pub read_none : (at n room : ℕ) (bs tail : List ℕ) → tail ≡ drop at bs → n ≡ min (length tail) room → n ≡ 0 → 0 < room → drop (at + n) bs ≡ []
read_none at n room bs tail is count none some = drop_all (at + n) bs (omega (arith, ap length is, length-drop at bs))

-- what a read over memory does
pub read_gives : (at n : ℕ) (bs given new old : List ℕ) → given ≡ bs → n ≡ min (length (take (length given - at) (drop at given))) (length old)
    → new ≡ take n (take (length given - at) (drop at given)) ++ drop n old
    → (drop at bs ≡ take n new ++ drop (at + n) bs) × (n ≡ 0 → 0 < length new → drop (at + n) bs ≡ [])
read_gives at n bs given new old same count is =
    let tail = take (length given - at) (drop at given) in
    let tail_same : tail ≡ drop at bs = tail_is at given ∙ ap (λ (t : List ℕ). drop at t) same in
    let size : length new ≡ length old = ap length is ∙ length-append (take n tail) (drop n old) ∙ omega (arith, length-take n tail, length-drop n old) in
    (rw is (read_parts at n bs tail (drop n old) tail_same (omega arith)), λ none some. read_none at n (length old) bs tail tail_same count none (omega arith))

-- nothing in front of known bytes
pub prepend-nothing : (u : Option (List ℕ)) → prepend_known [] u ≡ u
prepend-nothing None = refl
prepend-nothing (Some xs) = refl
