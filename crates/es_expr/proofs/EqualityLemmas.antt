-- The test of equality is true exactly of equal values.
use Rattle.std.proofs.Common.{◌≡◌, Bool, true, false, ◌&&◌, List, [], ◌∷◌, refl, ap, subst}
use Rattle.std.proofs.lemmas.Slice.Eq.{bytes_eq-Decides}
use Rattle.std.specs.Bool.{Decides}
use Rattle.std.specs.Cmp.{booleans_Decides, signed_Decides, unsigned_Decides}
use Rattle.std.specs.Ordering.{int_eq}
use Rattle.std.specs.Prelude.{nat_eq}
use Rattle.es_model.specs.Scaled.{Scaled}
use Rattle.es_model.specs.declared.value.Atom.{Atom}
use Rattle.es_model.specs.declared.value.Atom.TheVariants as atom
use Rattle.es_model.specs.declared.value.Value.{Value}
use Rattle.es_model.specs.declared.value.Value.TheVariants.{One, List as Many}
use Rattle.es_expr.specs.Operators.{are_equal, is_equal, is_equal_atom, is_equal_scaled}

left_true : (a b : Bool) → (a && b) ≡ true → a ≡ true
left_true true b e = refl
left_true false b e = cc

right_true : (a b : Bool) → (a && b) ≡ true → b ≡ true
right_true true b e = e
right_true false b e = cc

both_true : (a b : Bool) → a ≡ true → b ≡ true → (a && b) ≡ true
both_true true b e f = f
both_true false b e f = cc

same_scaled : (d e : Scaled) → is_equal_scaled d e ≡ true → d ≡ e
same_scaled d e h =
    let digits : d.digits ≡ e.digits = (signed_Decides d.digits e.digits).0 (left_true (int_eq d.digits e.digits) (nat_eq d.scale e.scale) h) in
    let scale : d.scale ≡ e.scale = (unsigned_Decides d.scale e.scale).0 (right_true (int_eq d.digits e.digits) (nat_eq d.scale e.scale) h) in
    λ i. record { digits = digits i; scale = scale i }

same_atom : (a b : Atom) → is_equal_atom a b ≡ true → a ≡ b
same_atom atom.Null atom.Null e = refl
same_atom (atom.Bool x) (atom.Bool y) e = ap atom.Bool ((booleans_Decides x y).0 e)
same_atom (atom.Int x) (atom.Int y) e = ap atom.Int ((signed_Decides x y).0 e)
same_atom (atom.Text x) (atom.Text y) e = ap atom.Text ((bytes_eq-Decides x y).0 e)
same_atom (atom.Uuid x) (atom.Uuid y) e = ap atom.Uuid ((bytes_eq-Decides x y).0 e)
same_atom (atom.Moment x) (atom.Moment y) e = ap atom.Moment ((signed_Decides x y).0 e)
same_atom (atom.Decimal x) (atom.Decimal y) e = ap atom.Decimal (same_scaled x y e)
same_atom _ _ e = cc

itself : (a : Atom) → is_equal_atom a a ≡ true
itself atom.Null = refl
itself (atom.Bool x) = (booleans_Decides x x).1 refl
itself (atom.Int x) = (signed_Decides x x).1 refl
itself (atom.Text x) = (bytes_eq-Decides x x).1 refl
itself (atom.Uuid x) = (bytes_eq-Decides x x).1 refl
itself (atom.Moment x) = (signed_Decides x x).1 refl
itself (atom.Decimal x) = both_true _ _ ((signed_Decides x.digits x.digits).1 refl) ((unsigned_Decides x.scale x.scale).1 refl)

same_items : (xs ys : List Atom) → are_equal xs ys ≡ true → xs ≡ ys
same_items [] [] e = refl
same_items (x ∷ xs) (y ∷ ys) e =
    let first : x ≡ y = same_atom x y (left_true (is_equal_atom x y) (are_equal xs ys) e) in
    let rest : xs ≡ ys = same_items xs ys (right_true (is_equal_atom x y) (are_equal xs ys) e) in
    λ i. first i ∷ rest i
same_items [] (y ∷ ys) e = cc
same_items (x ∷ xs) [] e = cc

items_themselves : (xs : List Atom) → are_equal xs xs ≡ true
items_themselves [] = refl
items_themselves (x ∷ xs) = both_true (is_equal_atom x x) (are_equal xs xs) (itself x) (items_themselves xs)

same : (a b : Value) → is_equal a b ≡ true → a ≡ b
same (One a) (One b) e = ap One (same_atom a b e)
same (Many xs) (Many ys) e = ap Many (same_items xs ys e)
same (One a) (Many ys) e = cc
same (Many xs) (One b) e = cc

value_itself : (a : Value) → is_equal a a ≡ true
value_itself (One a) = itself a
value_itself (Many xs) = items_themselves xs

pub is_equal-Decides : (a b : Value) → Decides (is_equal a b) (a ≡ b)
is_equal-Decides a b = (same a b, λ e. subst (λ c. is_equal a c ≡ true) e (value_itself a))
