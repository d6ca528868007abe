-- The names that a walk has seen of some classes.
use Rattle.std.proofs.Common.{◌≡◌, ℕ, zero, suc, ◌<◌, Bool, true, false, not, ◌||◌, List, [], ◌∷◌, take, length, get_or, Result, refl, sym, ap, subst, ◌∙◌, arith}
use Rattle.std.specs.List.{list_any}
use Rattle.std.specs.Str.{bytes_eq}
use Rattle.es_model.specs.declared.declaration.Class.{Class}
use Rattle.es_model.specs.declared.declaration.System.{System}
use Rattle.es_expr.specs.Misfits.{item, is_new, named_class_misfits, class_misfits}
use Rattle.es_expr.specs.declared.misfit.Halt.{Halt}
use Rattle.es_expr.specs.inner.Walks.{Finds}

swap : (a b c : Bool) → a || (b || c) ≡ b || (a || c)
swap true true c = refl
swap true false c = refl
swap false true c = refl
swap false false c = refl

-- one item more
pub any-step : {A : Type 0} (p : A → Bool) (xs : List A) (place : ℕ) (x : A) → place < length xs → x ≡ get_or xs place x
    → list_any p (take (suc place) xs) ≡ p x || list_any p (take place xs)
any-step p [] place x within is = absurd (omega arith)
any-step p (y ∷ xs) zero x within is = ap (λ z. p z || false) (sym is)
any-step p (y ∷ xs) (suc place) x within is =
    ap (λ b. p y || b) (any-step p xs place x (omega arith) is) ∙ swap (p y) (p x) (list_any p (take place xs))

-- the faults of a class, by whether its name was seen
pub class-found : (s : System) (path : List ℕ) (place : ℕ) (c : Class) (classes : List Class) (new seen : Bool) (r : Result (Unit {0}) Halt)
    → classes ≡ s.classes → new ≡ not seen → seen ≡ list_any (λ (d : Class). bytes_eq d.name c.name) (take place classes)
    → Finds (named_class_misfits new (item path place) c) r → Finds (class_misfits s path place c) r
class-found s path place c classes new seen r same is told found =
    subst (λ b. Finds (named_class_misfits b (item path place) c) r) (is ∙ ap not told ∙ ap (λ cs. is_new (λ (d : Class). d.name) (take place cs) c.name) same) found
