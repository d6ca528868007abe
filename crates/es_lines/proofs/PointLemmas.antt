-- Laws of texts with exactly one point.
use Rattle.std.proofs.Common.{◌≡◌, ◌∙◌, ℕ, suc, ◌+◌, nat_lt, Bool, true, false, not, ◌&&◌, ◌||◌, IsTrue, cond, List, [], ◌∷◌, ◌++◌, length, take, drop, Some, None, if◌then◌else◌, refl, sym, ap, subst, arith}
use Rattle.std.proofs.Math.Seq.{take-append_seam, drop-append-add}
use Rattle.std.proofs.lemmas.Bool.{eqb-true, lt-ltb, ltb-true}
use Rattle.std.proofs.lemmas.List.{length-append}
use Rattle.std.specs.List.{list_any, list_all, position_or_len, before_first, after_first}
use Rattle.es_model.specs.Names.{halves, is_dot, is_digit, is_lower, is_upper, is_in_upper_name, has_upper_form, has_name_length, is_upper_name}
use Rattle.es_model.specs.Values.{Name}

-- ---- a text with one point is what stands around it

joined-step : (b : Bool) (x : ℕ) (s : List ℕ) → is_dot x ≡ b → nat_lt (cond (not b) (1 + position_or_len is_dot s) 0) (suc (length s)) ≡ true
    → (nat_lt (position_or_len is_dot s) (length s) ≡ true → s ≡ before_first is_dot s ++ 46 ∷ after_first is_dot s)
    → x ∷ s ≡ take (cond (not b) (1 + position_or_len is_dot s) 0) (x ∷ s) ++ 46 ∷ drop (cond (not b) (1 + position_or_len is_dot s) 0 + 1) (x ∷ s)
joined-step true x s dot within rest = ap (λ z. z ∷ s) (eqb-true x 46 dot)
joined-step false x s dot within rest =
    let k : ℕ = position_or_len is_dot s in
    let next : 1 + k ≡ suc k = omega arith in
    let after : 1 + k + 1 ≡ suc (k + 1) = omega arith in
    let inner : nat_lt k (length s) ≡ true = lt-ltb k (length s) (omega (arith, ltb-true (1 + k) (suc (length s)) within)) in
    ap (λ l. x ∷ l) (rest inner) ∙ (λ i. take (sym next i) (x ∷ s) ++ 46 ∷ drop (sym after i) (x ∷ s))

joined : (s : List ℕ) → nat_lt (position_or_len is_dot s) (length s) ≡ true → s ≡ before_first is_dot s ++ 46 ∷ after_first is_dot s
joined [] within = cc
joined (x ∷ s) within = joined-step (is_dot x) x s refl within (joined s)

chosen : {A : Type 0} (a b : Bool) (x z : A) → (if a && b then Some x else None) ≡ Some z → (a ≡ true) × (x ≡ z)
chosen true true x z h = (refl, cc)
chosen true false x z h = cc
chosen false b x z h = cc

pub halves-joined : (s : List ℕ) (a b : Name) → halves s ≡ Some (a, b) → s ≡ a ++ 46 ∷ b
halves-joined s a b is =
    let c = chosen (nat_lt (position_or_len is_dot s) (length s)) (not (list_any is_dot (after_first is_dot s))) (before_first is_dot s, after_first is_dot s) (a, b) is in
    joined s c.0 ∙ ap (λ p. p.0 ++ 46 ∷ p.1) c.1

-- ---- names have no point

no-point-byte : (b : ℕ) → is_in_upper_name b ≡ true → is_dot b ≡ false
no-point-byte b fits = no (is_dot b) refl
  where
    no : (c : Bool) → is_dot b ≡ c → c ≡ false
    no true dot = let there : is_in_upper_name 46 ≡ true = subst (λ z. is_in_upper_name z ≡ true) (eqb-true b 46 dot) fits in absurd (cc there)
    no false dot = refl

both-true : (a b : Bool) → IsTrue (a && b) → IsTrue a × IsTrue b
both-true true b h = (refl, h)
both-true false b h = absurd (cc h)

neither : (a b : Bool) → a ≡ false → b ≡ false → (a || b) ≡ false
neither true b h i = h
neither false b h i = i

all-without : (bs : List ℕ) → IsTrue (list_all is_in_upper_name bs) → list_any is_dot bs ≡ false
all-without [] all = refl
all-without (b ∷ bs) all =
    let parts = both-true (is_in_upper_name b) (list_all is_in_upper_name bs) all in
    neither (is_dot b) (list_any is_dot bs) (no-point-byte b parts.0) (all-without bs parts.1)

middle : (a b c : Bool) → b ≡ true → (a || b || c) ≡ true
middle true b c h = refl
middle false true c h = refl
middle false false c h = absurd (cc h)

upper-without : (name : Name) → IsTrue (has_upper_form name) → list_any is_dot name ≡ false
upper-without [] form = absurd (cc form)
upper-without (b ∷ bs) form =
    let parts = both-true (is_upper b) (list_all is_in_upper_name bs) form in
    neither (is_dot b) (list_any is_dot bs) (no-point-byte b (middle (is_lower b) (is_upper b) (is_digit b) parts.0)) (all-without bs parts.1)

pub name-without : (name : Name) → IsTrue (is_upper_name name) → list_any is_dot name ≡ false
name-without name is = upper-without name (both-true (has_name_length name) (has_upper_form name) is).1

-- ---- names without a point, and one between them

or-false : (a b : Bool) → (a || b) ≡ false → (a ≡ false) × (b ≡ false)
or-false true b h = absurd (cc h)
or-false false b h = (refl, h)

place : (a b : Name) → list_any is_dot a ≡ false → position_or_len is_dot (a ++ 46 ∷ b) ≡ length a
place [] b none = refl
place (x ∷ a) b none =
    let parts = or-false (is_dot x) (list_any is_dot a) none in
    let next : 1 + length a ≡ suc (length a) = omega arith in
    (λ i. cond (not (parts.0 i)) (1 + place a b parts.1 i) 0) ∙ next

pub halves-of : (a b : Name) → list_any is_dot a ≡ false → list_any is_dot b ≡ false → halves (a ++ 46 ∷ b) ≡ Some (a, b)
halves-of a b before after =
    let s : List ℕ = a ++ 46 ∷ b in
    let at : position_or_len is_dot s ≡ length a = place a b before in
    let inside : nat_lt (length a) (length s) ≡ true = lt-ltb (length a) (length s) (omega (arith, length-append a (46 ∷ b))) in
    let front : take (length a) s ≡ a = take-append_seam a (46 ∷ b) in
    let back : drop (length a + 1) s ≡ b = drop-append-add a (46 ∷ b) 1 in
    (λ i. if nat_lt (at i) (length s) && not (list_any is_dot (drop (at i + 1) s)) then Some (take (at i) s, drop (at i + 1) s) else None)
    ∙ (λ i. if inside i && not (list_any is_dot (back i)) then Some (front i, back i) else None)
    ∙ (λ i. if not (after i) then Some (a, b) else None)
