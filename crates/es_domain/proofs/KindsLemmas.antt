-- Values of kinds, and the members of objects of expressions.
use Rattle.std.proofs.Common.{◌≡◌, IsTrue, true, false, Bool, ◌&&◌, List, [], ◌∷◌, ◌++◌, Option, None, Some, is_some, Ok, refl, sym, ap, subst, ◌∙◌}
use Rattle.std.proofs.lemmas.Slice.Eq.{bytes_eq-Decides}
use Rattle.std.specs.Str.{bytes_eq}
use Rattle.es_model.proofs.RisingLemmas.{before-trans, other, unlike, unlike-back}
use Rattle.es_model.specs.Rising.{IsRising, comes_first, is_before, item_of}
use Rattle.es_model.specs.Values.{Name, Record, are_of_kinds, fits}
use Rattle.es_model.specs.declared.expr.Expr.{Expr}
use Rattle.es_model.specs.declared.value.Kind.{Kind}
use Rattle.es_model.specs.declared.value.Value.{Value}
use Rattle.es_expr.specs.Environments.{prefixed}
use Rattle.es_expr.specs.Kinds.{Env, kind_of}
use Rattle.es_expr.specs.Misfits.{has_all}
use Rattle.es_expr.specs.Sound.{Fits}
use Rattle.es_expr.proofs.CheckedLemmas.{AreOfKinds, AreAllOfKinds}
use Rattle.es_domain.specs.inner.Evaluation.{AreChecked, AreAssignable}
use Rattle.es_domain.proofs.ToldLemmas.{item-cons}
use Rattle.es_domain.proofs.ValuesLemmas.{kinds-parts}

-- ---- records of kinds as environments

pub fits-env : (xs : Record) (ks : Env) → IsTrue (are_of_kinds xs ks) → Fits xs ks
fits-env [] [] are name k at = absurd (cc at)
fits-env [] (w ∷ ws) are name k at = absurd (cc are)
fits-env (x ∷ xs) [] are name k at = absurd (cc are)
fits-env (x ∷ xs) (w ∷ ws) are name k at =
    let p = kinds-parts x xs w ws are in
    elim (bytes_eq w.0 name) as (λ b. bytes_eq w.0 name ≡ b → (v : Value) × (item_of (x ∷ xs) name ≡ Some v) × (fits v k ≡ true)) [
      | true ↦ λ is.
          let same : w.1 ≡ k = cc (sym (item-cons w ws name true is) ∙ at) in
          (x.1, item-cons x xs name true (ap (λ (n : Name). bytes_eq n name) p.0 ∙ is), subst (λ j. fits x.1 j ≡ true) same p.1)
      | false ↦ λ is.
          let rest = fits-env xs ws p.2 name k (sym (item-cons w ws name false is) ∙ at) in
          (rest.0, item-cons x xs name false (ap (λ (n : Name). bytes_eq n name) p.0 ∙ is) ∙ rest.1, rest.2)
    ] refl

three-of : (a b c : Bool) → a ≡ true → b ≡ true → IsTrue c → IsTrue (a && b && c)
three-of a b c p q r = rw p (rw q r)

pub kinds-prefixed : (word : Name) (xs : Record) (ks : Env) → IsTrue (are_of_kinds xs ks) → IsTrue (are_of_kinds (prefixed word xs) (prefixed word ks))
kinds-prefixed word [] [] are = refl
kinds-prefixed word [] (w ∷ ws) are = cc
kinds-prefixed word (x ∷ xs) [] are = cc
kinds-prefixed word (x ∷ xs) (w ∷ ws) are =
    let p = kinds-parts x xs w ws are in
    three-of (bytes_eq (word ++ x.0) (word ++ w.0)) (fits x.1 w.1) (are_of_kinds (prefixed word xs) (prefixed word ws))
    ((bytes_eq-Decides (word ++ x.0) (word ++ w.0)).1 (ap (λ (n : Name). word ++ n) p.0)) p.1 (kinds-prefixed word xs ws p.2)

-- ---- members of rising names

-- a name that comes first is no other's
none-first : {A : Type 0} (xs : List (Name × A)) (name : Name) → IsRising xs → IsTrue (comes_first name xs) → item_of xs name ≡ None
none-first [] name rising first = refl
none-first (x ∷ []) name rising first = item-cons x [] name false (unlike-back x.0 name first)
none-first (x ∷ y ∷ xs) name rising first =
    item-cons x (y ∷ xs) name false (unlike-back x.0 name first) ∙ none-first (y ∷ xs) name rising.1 (before-trans name x.0 y.0 first rising.0)

-- the first names of two rising lists that have the same ones
compared : {A B : Type 0} (same early : Bool) (x : Name × A) (xs : List (Name × A)) (y : Name × B) (ys : List (Name × B)) (v : B) (u : A) → bytes_eq x.0 y.0 ≡ same → is_before x.0 y.0 ≡ early → IsRising (x ∷ xs) → IsRising (y ∷ ys)
    → item_of (y ∷ ys) x.0 ≡ Some v → item_of (x ∷ xs) y.0 ≡ Some u → x.0 ≡ y.0
compared true early x xs y ys v u is first rx ry there back = (bytes_eq-Decides x.0 y.0).0 is
compared false true x xs y ys v u is first rx ry there back = absurd (cc (sym (none-first (y ∷ ys) x.0 ry first) ∙ there))
compared false false x xs y ys v u is first rx ry there back = absurd (cc (sym (none-first (x ∷ xs) y.0 rx (other x.0 y.0 first is)) ∙ back))

-- ---- the members of an object of expressions

first-trans : {A : Type 0} (a b : Name) (xs : List (Name × A)) → IsTrue (is_before a b) → IsTrue (comes_first b xs) → IsTrue (comes_first a xs)
first-trans a b [] h first = refl
first-trans a b (x ∷ xs) h first = before-trans a b x.0 h first

-- each member is wanted, and has the wanted kind
abbrev pub EachMember : Env → Env → List (Name × Expr) → Type 0
EachMember wanted env [] = Unit {0}
EachMember wanted env (x ∷ xs) = ((k : Kind) × (item_of wanted x.0 ≡ Some k) × (kind_of x.1 env ≡ Ok k)) × EachMember wanted env xs

-- each wanted name has a member
abbrev EachWanted : List (Name × Expr) → Env → Type 0
EachWanted members [] = Unit {0}
EachWanted members (w ∷ ws) = ((e : Expr) × (item_of members w.0 ≡ Some e)) × EachWanted members ws

some-is : {A : Type 0} (o : Option A) → is_some o ≡ true → (x : A) × (o ≡ Some x)
some-is None is = absurd (cc is)
some-is (Some x) is = (x, refl)

pub both : (a b : Bool) → a && b ≡ true → (a ≡ true) × (b ≡ true)
both true true is = (refl, refl)
both false b is = absurd (cc is)
both true false is = absurd (cc is)

each-wanted : (wanted : Env) (members : List (Name × Expr)) → has_all wanted members ≡ true → EachWanted members wanted
each-wanted [] members is = tt
each-wanted (w ∷ ws) members is =
    let p = both (is_some (item_of members w.0)) (has_all ws members) is in
    (some-is (item_of members w.0) p.0, each-wanted ws members p.1)

drop-wanted : (w : Name × Kind) (ws env : Env) (xs : List (Name × Expr)) → IsTrue (comes_first w.0 xs) → IsRising xs → EachMember (w ∷ ws) env xs → EachMember ws env xs
drop-wanted w ws env [] first rising each = tt
drop-wanted w ws env (y ∷ ys) first rising (m, ms) =
    ((m.0, sym (item-cons w ws y.0 false (unlike w.0 y.0 first)) ∙ m.1, m.2), drop-wanted w ws env ys (first-trans w.0 y.0 ys first rising.0) rising.1 ms)

drop-member : (x : Name × Expr) (xs : List (Name × Expr)) (ws : Env) → IsTrue (comes_first x.0 ws) → IsRising ws → EachWanted (x ∷ xs) ws → EachWanted xs ws
drop-member x xs [] first rising each = tt
drop-member x xs (w ∷ ws) first rising (h, hs) =
    ((h.0, sym (item-cons x xs w.0 false (unlike x.0 w.0 first)) ∙ h.1), drop-member x xs ws (first-trans x.0 w.0 ws first rising.0) rising.1 hs)

own-item : {A : Type 0} (x : Name × A) (xs : List (Name × A)) → item_of (x ∷ xs) x.0 ≡ Some x.1
own-item x xs = item-cons x xs x.0 true ((bytes_eq-Decides x.0 x.0).1 refl)

aligned : (wanted env : Env) (members : List (Name × Expr)) (values : Record) → Fits values env → IsRising wanted → IsRising members → EachMember wanted env members → EachWanted members wanted → AreChecked wanted members values
aligned [] env [] values fits rw rm m h = tt
aligned [] env (x ∷ xs) values fits rw rm (m, ms) h = absurd (cc m.1)
aligned (w ∷ ws) env [] values fits rw rm m (h, hs) = absurd (cc h.1)
aligned (w ∷ ws) env (x ∷ xs) values fits rw rm (m, ms) (h, hs) =
    let same : x.0 ≡ w.0 = compared (bytes_eq x.0 w.0) (is_before x.0 w.0) x xs w ws m.0 h.0 refl refl rm rw m.1 h.1 in
    let wanted : Some w.1 ≡ Some m.0 = sym (own-item w ws) ∙ ap (item_of (w ∷ ws)) (sym same) ∙ m.1 in
    let k : w.1 ≡ m.0 = cc wanted in (
      same,
      record { kinds = env; fits = fits; checks = m.2 ∙ ap Ok (sym k) },
      aligned ws env xs values fits rw.1 rm.1
          (drop-wanted w ws env xs (subst (λ n. IsTrue (comes_first n xs)) same rm.0) rm.1 ms)
          (drop-member x xs ws (subst (λ n. IsTrue (comes_first n ws)) (sym same) rw.0) rw.1 hs),
    )

more-member : (x : Name × Expr) (xs : List (Name × Expr)) (name : Name) (e : Expr) → IsTrue (comes_first x.0 xs) → IsRising xs → item_of xs name ≡ Some e → item_of (x ∷ xs) name ≡ Some e
more-member x xs name e first rising at = elim (bytes_eq x.0 name) as (λ b. bytes_eq x.0 name ≡ b → item_of (x ∷ xs) name ≡ Some e) [
  | true ↦ λ is. absurd (cc (sym (none-first xs x.0 rising first) ∙ ap (item_of xs) ((bytes_eq-Decides x.0 name).0 is) ∙ at))
  | false ↦ λ is. item-cons x xs name false is ∙ at
] refl

by-place : (wanted env : Env) (members : List (Name × Expr)) → IsRising members → AreOfKinds wanted env members → EachMember wanted env members
by-place wanted env [] rising are = tt
by-place wanted env (x ∷ xs) rising are = (
  are x.0 x.1 (own-item x xs),
  by-place wanted env xs rising.1 (λ name e at. are name e (more-member x xs name e rising.0 rising.1 at)),
)

-- all wanted members are there, each of its kind
pub all_named_checked : (wanted env : Env) (members : List (Name × Expr)) (values : Record) → Fits values env → IsRising wanted → IsRising members → AreAllOfKinds wanted env members → AreChecked wanted members values
all_named_checked wanted env members values fits rw rm are =
    aligned wanted env members values fits rw rm (by-place wanted env members rm are.kinds) (each-wanted wanted members are.all)

-- some entries of a list are found in it
abbrev EachIn : Env → Env → Type 0
EachIn all [] = Unit {0}
EachIn all (w ∷ ws) = (item_of all w.0 ≡ Some w.1) × EachIn all ws

in-more : (x : Name × Kind) (all ws : Env) → IsTrue (comes_first x.0 ws) → IsRising ws → EachIn all ws → EachIn (x ∷ all) ws
in-more x all [] first rising each = tt
in-more x all (w ∷ ws) first rising (h, hs) = (item-cons x all w.0 false (unlike x.0 w.0 first) ∙ h, in-more x all ws (first-trans x.0 w.0 ws first rising.0) rising.1 hs)

each-in : (ws : Env) → IsRising ws → EachIn ws ws
each-in [] rising = tt
each-in (w ∷ ws) rising = (own-item w ws, in-more w ws ws rising.0 rising.1 (each-in ws rising.1))

assigned-some : (all env ws : Env) (members : List (Name × Expr)) (values : Record) → Fits values env → AreOfKinds all env members → EachIn all ws → AreAssignable ws members values
assigned-some all env [] members values fits are in_all = tt
assigned-some all env (w ∷ ws) members values fits are (h, hs) = (
  λ e at.
      let m = are w.0 e at in
      let wanted : Some w.1 ≡ Some m.0 = sym h ∙ m.1 in
      let k : w.1 ≡ m.0 = cc wanted in
      record { kinds = env; fits = fits; checks = m.2 ∙ ap Ok (sym k) },
  assigned-some all env ws members values fits are hs,
)

-- what is assigned to is of its kind
pub some-assignable : (wanted env : Env) (members : List (Name × Expr)) (values : Record) → Fits values env → IsRising wanted → AreOfKinds wanted env members → AreAssignable wanted members values
some-assignable wanted env members values fits rising are = assigned-some wanted env wanted members values fits are (each-in wanted rising)

first-alike : (xs : Record) (ks : Env) (a b : Name) → IsTrue (are_of_kinds xs ks) → a ≡ b → IsTrue (comes_first a xs) → IsTrue (comes_first b ks)
first-alike [] [] a b are same first = refl
first-alike [] (w ∷ ws) a b are same first = absurd (cc are)
first-alike (x ∷ xs) [] a b are same first = absurd (cc are)
first-alike (x ∷ xs) (w ∷ ws) a b are same first =
    let p = kinds-parts x xs w ws are in
    subst IsTrue (λ i. is_before (same i) (p.0 i)) first

-- names of the same kinds rise alike
pub rising-kinds : (xs : Record) (ks : Env) → IsTrue (are_of_kinds xs ks) → IsRising xs → IsRising ks
rising-kinds [] [] are rising = tt
rising-kinds [] (w ∷ ws) are rising = absurd (cc are)
rising-kinds (x ∷ xs) [] are rising = absurd (cc are)
rising-kinds (x ∷ xs) (w ∷ ws) are rising =
    let p = kinds-parts x xs w ws are in
    (first-alike xs ws x.0 w.0 p.2 p.0 rising.0, rising-kinds xs ws p.2 rising.1)
