-- The newest snapshot among some, with one more.
use Rattle.std.proofs.Common.{◌≡◌, ◌≤◌, ◌<◌, ◌+◌, ◌&&◌, Bool, true, false, List, [], ◌∷◌, ◌++◌, length, take, get_or, if◌then◌else◌, Option, Some, None, sym, ap, ◌∙◌, subst, append-nil, arith}
use Rattle.std.specs.Prelude.{ℕ}
use Rattle.std.specs.Str.{bytes_eq}
use Rattle.std.proofs.lemmas.List.{take_more}
use Rattle.std.proofs.lemmas.List.Elements.{filter-append, All-push, All-weaker, Contains-push, Contains-append_left}
use Rattle.es_model.specs.declared.snapshot.Snapshot.{Snapshot}
use Rattle.es_model.specs.Values.{Id}
use Rattle.es_recorder.specs.Selections.{is_upto, snapshots_upto, IsNewest}

-- a snapshot is of this aggregate at a version up to this bound
abbrev pub is_one : Id → Option ℕ → Snapshot → Bool
is_one id lte s = bytes_eq s.originator_id id && is_upto lte s.originator_version

pub upto-other : (ss : List Snapshot) (s : Snapshot) (id : Id) (lte : Option ℕ) → is_one id lte s ≡ false → snapshots_upto (ss ++ s ∷ []) id lte ≡ snapshots_upto ss id lte
upto-other ss s id lte other = filter-append (is_one id lte) ss (s ∷ []) ∙ (λ i. snapshots_upto ss id lte ++ (if other i then s ∷ [] else [])) ∙ append-nil (snapshots_upto ss id lte)

pub upto-one : (ss : List Snapshot) (s : Snapshot) (id : Id) (lte : Option ℕ) → is_one id lte s ≡ true → snapshots_upto (ss ++ s ∷ []) id lte ≡ snapshots_upto ss id lte ++ s ∷ []
upto-one ss s id lte one = filter-append (is_one id lte) ss (s ∷ []) ∙ (λ i. snapshots_upto ss id lte ++ (if one i then s ∷ [] else []))

pub newest-other : (ss : List Snapshot) (s : Snapshot) (id : Id) (lte : Option ℕ) (o : Option Snapshot) → is_one id lte s ≡ false → IsNewest (snapshots_upto ss id lte) o → IsNewest (snapshots_upto (ss ++ s ∷ []) id lte) o
newest-other ss s id lte o other newest = subst (λ (xs : List Snapshot). IsNewest xs o) (sym (upto-other ss s id lte other)) newest

pub newest-first : (ss : List Snapshot) (s : Snapshot) (id : Id) (lte : Option ℕ) → is_one id lte s ≡ true → IsNewest (snapshots_upto ss id lte) None → IsNewest (snapshots_upto (ss ++ s ∷ []) id lte) (Some s)
newest-first ss s id lte one none =
    subst (λ (xs : List Snapshot). IsNewest xs (Some s)) (sym (upto-one ss s id lte one ∙ ap (λ (xs : List Snapshot). xs ++ s ∷ []) none))
    (Contains-push [] s, All-push (λ x. x.originator_version ≤ s.originator_version) [] s (λ k d within. absurd (omega arith)) (omega arith))

pub newest-newer : (ss : List Snapshot) (s m : Snapshot) (id : Id) (lte : Option ℕ) → is_one id lte s ≡ true → m.originator_version < s.originator_version → IsNewest (snapshots_upto ss id lte) (Some m) → IsNewest (snapshots_upto (ss ++ s ∷ []) id lte) (Some s)
newest-newer ss s m id lte one newer newest =
    subst (λ (xs : List Snapshot). IsNewest xs (Some s)) (sym (upto-one ss s id lte one)) (
      Contains-push (snapshots_upto ss id lte) s,
      All-push (λ x. x.originator_version ≤ s.originator_version) (snapshots_upto ss id lte) s
          (All-weaker (λ x. x.originator_version ≤ m.originator_version) (λ x. x.originator_version ≤ s.originator_version) (λ x below. omega arith) (snapshots_upto ss id lte) newest.1) (omega arith),
    )

pub newest-older : (ss : List Snapshot) (s m : Snapshot) (id : Id) (lte : Option ℕ) → is_one id lte s ≡ true → s.originator_version ≤ m.originator_version → IsNewest (snapshots_upto ss id lte) (Some m) → IsNewest (snapshots_upto (ss ++ s ∷ []) id lte) (Some m)
newest-older ss s m id lte one older newest =
    subst (λ (xs : List Snapshot). IsNewest xs (Some m)) (sym (upto-one ss s id lte one))
    (Contains-append_left (snapshots_upto ss id lte) (s ∷ []) m newest.0, All-push (λ x. x.originator_version ≤ m.originator_version) (snapshots_upto ss id lte) s newest.1 older)

-- the snapshots up to a place, with the one there
pub take-place : (ss : List Snapshot) (i : ℕ) (s : Snapshot) → i < length ss → s ≡ get_or ss i s → take (i + 1) ss ≡ take i ss ++ s ∷ []
take-place ss i s within is = take_more ss i s within ∙ (λ k. take i ss ++ sym is k ∷ [])
