-- Whether a snapshot is kept, by the newest one up to its version.
use Rattle.std.proofs.Common.{◌≡◌, ◌∙◌, ◌≤◌, ◌<◌, ◌==◌, ℕ, zero, suc, Bool, true, false, ◌&&◌, ◌||◌, nat_le, List, [], ◌∷◌, get_or, length, if◌then◌else◌, Option, None, Some, IfSome, refl, sym, ap, subst, arith}
use Rattle.std.specs.Prelude.{All, AllPairs, Contains}
use Rattle.std.specs.Str.{bytes_eq}
use Rattle.std.proofs.lemmas.Bool.Decides.{nat_tests}
use Rattle.std.proofs.lemmas.List.Elements.{All-nil, All-cons, All-head, All-tail, All-same, All-contains, filter_passes}
use Rattle.std.proofs.lemmas.Slice.Eq.{bytes_eq-Decides}
use Rattle.es_model.specs.Snapshots.{is_same, AreSnapshots}
use Rattle.es_model.specs.declared.snapshot.Snapshot.{Snapshot}
use Rattle.es_model.proofs.HistoryLemmas.{both_true}
use Rattle.es_recorder.specs.Selections.{is_upto, snapshots_upto, IsNewest}
use Rattle.es_repo.specs.Snapshots.{is_there}
use Rattle.es_repo.specs.inner.Snapshots.{is_alike}

-- ---- snapshots of one aggregate at one version

-- what a test says of a snapshot, in numbers and ids
record AreSame (a b : Snapshot) : Type 0 where
  pub id : a.originator_id ≡ b.originator_id
  pub version : a.originator_version ≡ b.originator_version

same-parts : (a b : Snapshot) → is_same a b ≡ true → AreSame a b
same-parts a b is =
    let parts = both_true (bytes_eq a.originator_id b.originator_id) (a.originator_version == b.originator_version) is in
    record { id = (bytes_eq-Decides a.originator_id b.originator_id).0 parts.0; version = grind (arith, nat_tests, parts.1) }

same-made : (a b : Snapshot) → AreSame a b → is_same a b ≡ true
same-made a b are =
    let id : bytes_eq a.originator_id b.originator_id ≡ true = (bytes_eq-Decides a.originator_id b.originator_id).1 are.id in
    let version : (a.originator_version == b.originator_version) ≡ true = let v = are.version in grind (arith, nat_tests) in
    rw id version

flipped : (a b : Snapshot) → is_same a b ≡ false → is_same b a ≡ false
flipped a b differs = by-test (is_same b a) refl
  where
    by-test : (t : Bool) → is_same b a ≡ t → t ≡ false
    by-test false is = refl
    by-test true is =
        let p = same-parts b a is in
        let same = same-made a b (record { id = sym p.id; version = sym p.version }) in
        cc

or-false : (b : Bool) → (b || false) ≡ b
or-false true = refl
or-false false = refl

-- ---- where none is of the aggregate and version, and where one is

module _ (s : Snapshot) where
  none-there : (ss : List Snapshot) → All (λ x. is_same x s ≡ false) ss → is_there ss s ≡ false
  none-there [] none = refl
  none-there (x ∷ ss) none = rw (All-head (λ y. is_same y s ≡ false) x ss none) (none-there ss (All-tail (λ y. is_same y s ≡ false) x ss none))

  -- what isn't the same as one that is, isn't
  other-step : (x y : Snapshot) (b : Bool) → is_same y s ≡ b → is_same x s ≡ true → is_same x y ≡ false → b ≡ false
  other-step x y false is here other = refl
  other-step x y true is here other =
      let p = same-parts x s here in
      let q = same-parts y s is in
      let id : x.originator_id ≡ y.originator_id = cc (p.id, q.id) in
      let version : x.originator_version ≡ y.originator_version = cc (p.version, q.version) in
      let same = same-made x y (record { id = id; version = version }) in
      cc

  other : (x y : Snapshot) → is_same x s ≡ true → is_same x y ≡ false → is_same y s ≡ false
  other x y here differs = other-step x y (is_same y s) refl here differs

  -- where one of them is in a list in which each stands once, its class version tells
  one-there : (x : Snapshot) (ss : List Snapshot) (k : ℕ) → is_same x s ≡ true → AllPairs (λ a b. is_same a b ≡ false) ss → k < length ss → get_or ss k x ≡ x → is_there ss s ≡ (x.class_version == s.class_version)
  one-there x [] k here once within at = absurd (omega arith)
  one-there x (y ∷ ss) zero here once within at =
      let first : y ≡ x = at in
      let here_y : is_same y s ≡ true = subst (λ z. is_same z s ≡ true) (sym first) here in
      let none = none-there ss (λ i d in_it. other y (get_or ss i d) here_y (once 0 (suc i) d (omega arith) (omega arith))) in
      let version : (y.class_version == s.class_version) ≡ (x.class_version == s.class_version) = ap (λ (z : Snapshot). z.class_version == s.class_version) first in
      rw (here_y, none, version) (or-false (x.class_version == s.class_version))
  one-there x (y ∷ ss) (suc k) here once within at =
      let differs : is_same y x ≡ false = subst (λ z. is_same y z ≡ false) at (once 0 (suc k) x (omega arith) (omega arith)) in
      let is : is_same y s ≡ false = other x y here (flipped y x differs) in
      rw is (one-there x ss k here (λ i j d before in_it. once (suc i) (suc j) d (omega arith) (omega arith)) (omega arith) at)

  -- ---- by the newest one up to the version

  -- the snapshots of its aggregate up to its version
  abbrev upto : List Snapshot → List Snapshot
  upto ss = snapshots_upto ss s.originator_id (Some s.originator_version)

  -- a snapshot is one of those
  abbrev is_upto_it : Snapshot → Bool
  is_upto_it x = bytes_eq x.originator_id s.originator_id && is_upto (Some s.originator_version) x.originator_version

  passes : (x : Snapshot) → is_same x s ≡ true → is_upto_it x ≡ true
  passes x is =
      let p = same-parts x s is in
      let id : bytes_eq x.originator_id s.originator_id ≡ true = (bytes_eq-Decides x.originator_id s.originator_id).1 p.id in
      let version : nat_le x.originator_version s.originator_version ≡ true = let v = p.version in grind (arith, nat_tests) in
      rw id version

  -- none of the list is the same, where none is of those up to its version
  none-step : (P : Snapshot → Type 0) (x : Snapshot) (ss : List Snapshot) (b : Bool) → is_upto_it x ≡ b → ((y : Snapshot) → P y → is_same y s ≡ false) → (All P (upto ss) → All (λ y. is_same y s ≡ false) ss) → All P (if b then x ∷ upto ss else upto ss)
      → All (λ y. is_same y s ≡ false) (x ∷ ss)
  none-step P x ss true test differ rest all = All-cons (λ y. is_same y s ≡ false) x ss (differ x (All-head P x (upto ss) all)) (rest (All-tail P x (upto ss) all))
  none-step P x ss false test differ rest all = All-cons (λ y. is_same y s ≡ false) x ss (by-test (is_same x s) refl) (rest all)
    where
      by-test : (t : Bool) → is_same x s ≡ t → t ≡ false
      by-test false is = refl
      by-test true is = let passed = passes x is in cc

  none-upto : (P : Snapshot → Type 0) (ss : List Snapshot) → ((y : Snapshot) → P y → is_same y s ≡ false) → All P (upto ss) → All (λ y. is_same y s ≡ false) ss
  none-upto P [] differ all = All-nil (λ y. is_same y s ≡ false)
  none-upto P (x ∷ ss) differ all = none-step P x ss (is_upto_it x) refl differ (none-upto P ss differ) all

  -- where there is none up to the version, none is there
  pub none-newest : (ss : List Snapshot) → upto ss ≡ [] → is_there ss s ≡ false
  none-newest ss none = none-there ss (none-upto (λ y. ⊥) ss (λ y no. absurd no) (All-same (λ y. ⊥) (upto ss) [] none (All-nil (λ y. ⊥))))

  -- what is among those up to the version is in the list
  found-step : (x y : Snapshot) (ss : List Snapshot) (b : Bool) → is_upto_it y ≡ b → (Contains (upto ss) x → Contains ss x) → Contains (if b then y ∷ upto ss else upto ss) x → Contains (y ∷ ss) x
  found-step x y ss true test rest (zero, within, at) = (zero, omega arith, at)
  found-step x y ss true test rest (suc k, within, at) = let r = rest (k, omega arith, at) in (suc r.0, omega (arith, r.1), r.2)
  found-step x y ss false test rest there = let r = rest there in (suc r.0, omega (arith, r.1), r.2)

  found-there : (x : Snapshot) (ss : List Snapshot) → Contains (upto ss) x → Contains ss x
  found-there x [] there = there
  found-there x (y ∷ ss) there = found-step x y ss (is_upto_it y) refl (found-there x ss) there

  older : (x y : Snapshot) → x.originator_version < s.originator_version → y.originator_version ≤ x.originator_version → is_same y s ≡ false
  older x y below most = by-test (is_same y s) refl
    where
      by-test : (t : Bool) → is_same y s ≡ t → t ≡ false
      by-test false is = refl
      by-test true is = let v = (same-parts y s is).version in absurd (omega arith)

  by-version : (x : Snapshot) (ss : List Snapshot) (b : Bool) → (x.originator_version == s.originator_version) ≡ b → x.originator_id ≡ s.originator_id → x.originator_version ≤ s.originator_version → AllPairs (λ a b. is_same a b ≡ false) ss
      → Contains ss x → All (λ y. y.originator_version ≤ x.originator_version) (upto ss) → (b && (x.class_version == s.class_version)) ≡ is_there ss s
  by-version x ss true version id most once there newest =
      let same : x.originator_version ≡ s.originator_version = grind (arith, nat_tests, version) in
      sym (one-there x ss there.0 (same-made x s (record { id = id; version = same })) once there.1 there.2)
  by-version x ss false version id most once there newest =
      let below : x.originator_version < s.originator_version = grind (arith, nat_tests, version) in
      sym (none-there ss (none-upto (λ y. y.originator_version ≤ x.originator_version) ss (λ y le. older x y below le) newest))

  -- the newest one tells whether it is there
  pub by-newest : (x : Snapshot) (ss : List Snapshot) → AreSnapshots ss → IsNewest (upto ss) (Some x) → is_alike x s ≡ is_there ss s
  by-newest x ss are newest =
      let test = All-contains (λ y. is_upto_it y ≡ true) (upto ss) x (filter_passes is_upto_it ss) newest.0 in
      let parts = both_true (bytes_eq x.originator_id s.originator_id) (nat_le x.originator_version s.originator_version) test in
      let most : x.originator_version ≤ s.originator_version = grind (arith, nat_tests, parts.1) in
      by-version x ss (x.originator_version == s.originator_version) refl ((bytes_eq-Decides x.originator_id s.originator_id).0 parts.0) most are.once (found-there x ss newest.0) newest.1

  -- the same where the snapshots are told
  pub kept-told : (told : Option (List Snapshot)) (o : Option Snapshot) (x : Snapshot) (kept : Bool) → o ≡ Some x → IfSome told AreSnapshots → IfSome told (λ ss. IsNewest (upto ss) o) → kept ≡ is_alike x s → IfSome told (λ ss. kept ≡ is_there ss s)
  kept-told None o x kept is are newest alike = tt
  kept-told (Some ss) o x kept is are newest alike = alike ∙ by-newest x ss are (subst (IsNewest (upto ss)) is newest)

  pub none-told : (told : Option (List Snapshot)) (o : Option Snapshot) → o ≡ None → IfSome told (λ ss. IsNewest (upto ss) o) → IfSome told (λ ss. false ≡ is_there ss s)
  none-told None o is newest = tt
  none-told (Some ss) o is newest = sym (none-newest ss (subst (IsNewest (upto ss)) is newest))
