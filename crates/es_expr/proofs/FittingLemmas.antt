-- Where each name of some kinds is tested, all fit.
use Rattle.std.proofs.Common.{◌≡◌, Bool, true, false, ◌&&◌, cond, [], ◌∷◌, refl, subst, Option, None, Some}
use Rattle.std.proofs.lemmas.Slice.Eq.{bytes_eq-Decides}
use Rattle.std.specs.List.{find}
use Rattle.std.specs.Option.{option_map}
use Rattle.std.specs.Str.{bytes_eq}
use Rattle.es_model.specs.Rising.{item_of}
use Rattle.es_model.specs.Values.{Name, Record, fits}
use Rattle.es_model.specs.declared.value.Kind.{Kind}
use Rattle.es_model.specs.declared.value.Value.{Value}
use Rattle.es_expr.specs.Kinds.{Env}
use Rattle.es_expr.specs.Sound.{Fits, fit, has_fitting}

told : (o : Option Value) (k : Kind) → has_fitting o k ≡ true → (v : Value) × (o ≡ Some v) × (fits v k ≡ true)
told (Some v) k e = (v, refl, e)
told None k e = cc

left_true : (a b : Bool) → (a && b) ≡ true → a ≡ true
left_true true b e = refl
left_true false b e = cc

right_true : (a b : Bool) → (a && b) ≡ true → b ≡ true
right_true true b e = e
right_true false b e = cc

-- of the first name, or of the others
first_or_later : (b : Bool) (k : Kind) (found : Option (Name × Kind)) (x : Name × Kind) → option_map (λ x. x.1) (cond b (Some x) found) ≡ Some k
    → (P : Type 0) → (b ≡ true → x.1 ≡ k → P) → (option_map (λ x. x.1) found ≡ Some k → P) → P
first_or_later true k found x e P f g = f refl (cc e)
first_or_later false k found x e P f g = g e

pub all_fit : (env : Record) (kinds : Env) → fit env kinds ≡ true → Fits env kinds
all_fit env [] e name k found = cc
all_fit env (x ∷ kinds) e name k found =
    first_or_later (bytes_eq x.0 name) k (find (λ x. bytes_eq x.0 name) kinds) x found _
    (λ same is. subst (λ n. (v : Value) × (item_of env n ≡ Some v) × (fits v k ≡ true)) ((bytes_eq-Decides x.0 name).0 same)
    (subst (λ l. (v : Value) × (item_of env x.0 ≡ Some v) × (fits v l ≡ true)) is (told (item_of env x.0) x.1 (left_true (has_fitting (item_of env x.0) x.1) (fit env kinds) e))))
    (λ later. all_fit env kinds (right_true (has_fitting (item_of env x.0) x.1) (fit env kinds) e) name k later)
