-- A list with one item changed.
use Rattle.std.proofs.Common.{◌≡◌, ℕ, zero, suc, List, [], ◌∷◌, Some, slice_get, slice_set, map, refl, sym, ap, ◌∙◌, subst, arith}

pub get-same : {A : Type 0} (xs : List A) (i : ℕ) (x y : A) → slice_get xs i ≡ Some y → slice_get (slice_set xs i x) i ≡ Some x
get-same [] i x y there = absurd (cc there)
get-same (z ∷ zs) zero x y there = refl
get-same (z ∷ zs) (suc i) x y there = get-same zs i x y there

pub map-set : {A B : Type 0} (f : A → B) (xs : List A) (i : ℕ) (x y : A) → slice_get xs i ≡ Some y → f x ≡ f y → map f (slice_set xs i x) ≡ map f xs
map-set f [] i x y there same = refl
map-set f (z ∷ zs) zero x y there same = let is : z ≡ y = cc in ap (λ b. b ∷ map f zs) (same ∙ ap f (sym is))
map-set f (z ∷ zs) (suc i) x y there same = ap (λ bs. f z ∷ bs) (map-set f zs i x y there same)

-- each item after a change is the changed one at its place, or one of the others
pub get-cases : {A : Type 0} (P : A → Type 0) (xs : List A) (i j : ℕ) (x y z : A) → slice_get xs i ≡ Some y → slice_get (slice_set xs i x) j ≡ Some z → P x → ((j ≡ i → ⊥) → slice_get xs j ≡ Some z → P z) → P z
get-cases P [] i j x y z there at here others = absurd (cc there)
get-cases P (w ∷ ws) zero zero x y z there at here others = subst P (let is : x ≡ z = cc in is) here
get-cases P (w ∷ ws) zero (suc j) x y z there at here others = others (λ e. absurd (cc e)) at
get-cases P (w ∷ ws) (suc i) zero x y z there at here others = others (λ e. absurd (cc e)) at
get-cases P (w ∷ ws) (suc i) (suc j) x y z there at here others = get-cases P ws i j x y z there at here (λ ne. others (λ e. ne (let f : j ≡ i = omega (arith, e) in f)))
