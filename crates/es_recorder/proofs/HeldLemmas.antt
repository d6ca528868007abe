-- Maps of names that are changed at one name.
use Rattle.std.proofs.Common.{◌≡◌, Bool, true, false, if◌then◌else◌, Some, refl, sym, ap, subst}
use Rattle.std.specs.Str.{bytes_eq}
use Rattle.es_model.specs.Values.{Name}
use Rattle.es_recorder.specs.Held.{put, Closes}

put_put : {A : Type 0} (b : Bool) (x y z : A) → (if b then x else (if b then y else z)) ≡ (if b then x else z)
put_put true x y z = refl
put_put false x y z = refl

pub put-put : {A : Type 0} (h : Name → A) (name : Name) (x y : A) → put (put h name y) name x ≡ put h name x
put-put h name x y = λ i n. put_put (bytes_eq n name) x y (h n) i

-- what is out is put back
pub closes : {A : Type 0} (b : Bool) (h k : Name → A) (name : Name) (x : A) → b ≡ true → k ≡ put h name x → Closes b h name x (Some k)
closes b h k name x out is = subst (λ v. Closes v h name x (Some k)) (sym out) (ap Some is)
