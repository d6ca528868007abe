-- Snapshots with one more.
use Rattle.std.proofs.Common.{◌≡◌, inl, inr, Bool, true, false, not, List, [], ◌∷◌, ◌++◌, length, get_or, refl, sym, subst, arith}
use Rattle.std.specs.Prelude.{All, AllPairs, filter, Result, Ok, Err, OnOk, OnErr}
use Rattle.std.proofs.lemmas.Bool.{cases_eq}
use Rattle.std.proofs.lemmas.List.{get_or_append_left, get_or_push, length_push}
use Rattle.std.proofs.lemmas.List.Elements.{All-push, All-filter, All-weaker, filter_passes}
use Rattle.std.proofs.lemmas.List.Kept.{AllPairs-filter}
use Rattle.es_model.specs.declared.snapshot.Snapshot.{Snapshot}
use Rattle.es_model.specs.Snapshots.{is_same, put_snapshot, IsSmallSnapshot, AreSnapshots}

AllPairs-push : {X : Type 0} (R : X → X → Type 0) (xs : List X) (y : X) → AllPairs R xs → All (λ x. R x y) xs → AllPairs R (xs ++ y ∷ [])
AllPairs-push R xs y pairs all i j d before within =
    let long = length_push xs y in
    elim (cases_eq j (length xs)) [
      | inl last ↦
          subst (λ z. R (get_or (xs ++ y ∷ []) i d) z) (sym (get_or_push xs y d j (sym last)))
          (subst (λ x. R x y) (sym (get_or_append_left xs (y ∷ []) d i (omega arith))) (all i d (omega arith)))
      | inr earlier ↦
          subst (λ z. R (get_or (xs ++ y ∷ []) i d) z) (sym (get_or_append_left xs (y ∷ []) d j (omega arith)))
          (subst (λ x. R x (get_or xs j d)) (sym (get_or_append_left xs (y ∷ []) d i (omega arith))) (pairs i j d before (omega arith)))
    ]

pub AreSnapshots-push : (ss : List Snapshot) (s : Snapshot) → AreSnapshots ss → All (λ x. is_same x s ≡ false) ss → IsSmallSnapshot s → AreSnapshots (ss ++ s ∷ [])
AreSnapshots-push ss s are new small = record {
  once = AllPairs-push (λ a b. is_same a b ≡ false) ss s are.once new;
  small = All-push IsSmallSnapshot ss s are.small small;
}

not_true : (b : Bool) → not b ≡ true → b ≡ false
not_true true is = absurd (cc is)
not_true false is = refl

pub AreSnapshots-put : (ss : List Snapshot) (s : Snapshot) → AreSnapshots ss → IsSmallSnapshot s → AreSnapshots (put_snapshot ss s)
AreSnapshots-put ss s are small =
    let other : Snapshot → Bool = λ x. not (is_same x s) in
    AreSnapshots-push (filter other ss) s
    (record { once = AllPairs-filter (λ a b. is_same a b ≡ false) other ss are.once; small = All-filter other IsSmallSnapshot ss are.small })
    (All-weaker (λ x. other x ≡ true) (λ x. is_same x s ≡ false) (λ x is. not_true (is_same x s) is) (filter other ss) (filter_passes other ss))
    small

-- the same after a call that puts it, or leaves all as it was
pub AreSnapshots-after : {E : Type 0} (r : Result (Unit {0}) E) (ss : List Snapshot) (s : Snapshot) (new : List Snapshot)
    → AreSnapshots ss → IsSmallSnapshot s → OnOk r (new ≡ put_snapshot ss s) → OnErr r (new ≡ ss) → AreSnapshots new
AreSnapshots-after (Ok done) ss s new are small ok err = subst AreSnapshots (sym ok) (AreSnapshots-put ss s are small)
AreSnapshots-after (Err e) ss s new are small ok err = subst AreSnapshots (sym err) are
