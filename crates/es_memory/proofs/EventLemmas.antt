-- What selections by places give.
use Rattle.std.proofs.Common.{◌≡◌, ◌<◌, ◌≤◌, ◌+◌, ◌-◌, ◌==◌, ◌&&◌, ◌⊎◌, inl, inr, ℕ, zero, suc, Bool, true, false, nat_le, List, [], ◌∷◌, ◌++◌, length, slice_get, if◌then◌else◌, Option, Some, None, refl, sym, ap, ◌∙◌, subst, arith}
use Rattle.std.specs.Prelude.{All, option_map}
use Rattle.std.specs.List.{position_from}
use Rattle.std.specs.Str.{bytes_eq}
use Rattle.std.proofs.lemmas.Bool.{cases_lt}
use Rattle.std.proofs.lemmas.Bool.Decides.{nat_tests}
use Rattle.std.proofs.lemmas.List.Elements.{All-nil, All-cons, All-weaker}
use Rattle.std.proofs.lemmas.Slice.Eq.{bytes_eq-Decides}
use Rattle.es_model.specs.declared.event.StoredEvent.{StoredEvent}
use Rattle.es_model.specs.History.{own, latest, versions_follow}
use Rattle.es_model.specs.Values.{Id}
use Rattle.es_model.proofs.HistoryLemmas.{both_true, latest-append}
use Rattle.es_recorder.specs.Selections.{is_version, notification_of}
use Rattle.es_memory.specs.inner.Index.{places_from}

-- the versions are this one, the next and so on
abbrev pub AreCounted : ℕ → List StoredEvent → Type 0
AreCounted first [] = Unit {0}
AreCounted first (e ∷ es) = (e.originator_version ≡ first) × AreCounted (first + 1) es

-- what an event that follows does to the latest version of an originator
abbrev Next : List StoredEvent → StoredEvent → List StoredEvent → Id → Type 0
Next before e es id = (versions_follow (before ++ e ∷ []) es ≡ true)
    × (((bytes_eq e.originator_id id ≡ false) × (latest (before ++ e ∷ []) id ≡ latest before id))
    ⊎ ((bytes_eq e.originator_id id ≡ true) × (latest (before ++ e ∷ []) id ≡ latest before id + 1) × (e.originator_version ≡ latest before id + 1)))

next : (before : List StoredEvent) (e : StoredEvent) (es : List StoredEvent) (id : Id) → versions_follow before (e ∷ es) ≡ true → Next before e es id
next before e es id follow = (parts.1, chosen (bytes_eq e.originator_id id) refl)
  where
    parts : ((e.originator_version == latest before e.originator_id + 1) ≡ true) × (versions_follow (before ++ e ∷ []) es ≡ true)
    parts = both_true (e.originator_version == latest before e.originator_id + 1) (versions_follow (before ++ e ∷ []) es) follow

    chosen : (b : Bool) → bytes_eq e.originator_id id ≡ b → ((bytes_eq e.originator_id id ≡ false) × (latest (before ++ e ∷ []) id ≡ latest before id))
        ⊎ ((bytes_eq e.originator_id id ≡ true) × (latest (before ++ e ∷ []) id ≡ latest before id + 1) × (e.originator_version ≡ latest before id + 1))
    chosen true is =
        let one : latest (e ∷ []) id ≡ 1 = λ i. length (if is i then e ∷ [] else []) in
        let version : e.originator_version ≡ latest before e.originator_id + 1 = grind (arith, nat_tests, parts.0) in
        inr (is, omega (arith, latest-append before (e ∷ []) id, one), version ∙ ap (λ x. latest before x + 1) ((bytes_eq-Decides e.originator_id id).0 is))
    chosen false is =
        let none : latest (e ∷ []) id ≡ 0 = λ i. length (if is i then e ∷ [] else []) in
        inl (is, omega (arith, latest-append before (e ∷ []) id, none))

-- the versions of an originator's events
own-counted : (before es : List StoredEvent) (id : Id) → versions_follow before es ≡ true → AreCounted (latest before id + 1) (own es id)
own-counted before [] id follow = tt
own-counted before (e ∷ es) id follow =
    let step = next before e es id follow in
    let rest = own-counted (before ++ e ∷ []) es id step.0 in
    elim step.1 [
      | inl other ↦ subst (λ b. AreCounted (latest before id + 1) (if b then e ∷ own es id else own es id)) (sym other.0) (subst (λ n. AreCounted (n + 1) (own es id)) other.1 rest)
      | inr same ↦ subst (λ b. AreCounted (latest before id + 1) (if b then e ∷ own es id else own es id)) (sym same.0) (same.2, subst (λ n. AreCounted (n + 1) (own es id)) same.1 rest)
    ]

pub events-counted : (es : List StoredEvent) (id : Id) → versions_follow [] es ≡ true → AreCounted 1 (own es id)
events-counted es id follow = own-counted [] es id follow

-- the notification id of a version
abbrev place_from : ℕ → List ℕ → ℕ → Option ℕ
place_from newest places version = if nat_le version newest then None else option_map (λ p. p + 1) (slice_get places (version - (newest + 1)))

place_low : (newest version : ℕ) (places : List ℕ) → version ≤ newest → place_from newest places version ≡ None
place_low newest version places low = let t : nat_le version newest ≡ true = grind (arith, nat_tests) in λ i. if t i then None else option_map (λ p. p + 1) (slice_get places (version - (newest + 1)))

place_here : (newest version n : ℕ) (places : List ℕ) → version ≡ newest + 1 → place_from newest (n ∷ places) version ≡ Some (n + 1)
place_here newest version n places is =
    let t : nat_le version newest ≡ false = grind (arith, nat_tests) in
    let at : version - (newest + 1) ≡ zero = omega (arith, is) in
    λ i. if t i then None else option_map (λ p. p + 1) (slice_get (n ∷ places) (at i))

place_past : (newest version n : ℕ) (places : List ℕ) → newest + 1 < version → place_from newest (n ∷ places) version ≡ place_from (newest + 1) places version
place_past newest version n places past =
    let t : nat_le version newest ≡ false = grind (arith, nat_tests) in
    let u : nat_le version (newest + 1) ≡ false = grind (arith, nat_tests) in
    let at : version - (newest + 1) ≡ suc (version - (newest + 1 + 1)) = omega (arith, past) in
    (λ i. if t i then None else option_map (λ p. p + 1) (slice_get (n ∷ places) (at i))) ∙ (λ i. if sym u i then None else option_map (λ p. p + 1) (slice_get places (version - (newest + 1 + 1))))

none_twice : (b : Bool) → ◌≡◌ {A = Option ℕ} None (if b then None else None)
none_twice true = refl
none_twice false = refl

place_of : (n : ℕ) (before es : List StoredEvent) (id : Id) (version : ℕ) → versions_follow before es ≡ true → position_from (is_version id version) (n + 1) es ≡ place_from (latest before id) (places_from n es id) version
place_of n before [] id version follow = none_twice (nat_le version (latest before id))
place_of n before (e ∷ es) id version follow =
    let step = next before e es id follow in
    let rest : position_from (is_version id version) (n + 1 + 1) es ≡ place_from (latest (before ++ e ∷ []) id) (places_from (n + 1) es id) version = place_of (n + 1) (before ++ e ∷ []) es id version step.0 in
    elim step.1 [
      | inl other ↦
          (λ i. if (other.0 i && (e.originator_version == version)) then Some (n + 1) else position_from (is_version id version) (n + 1 + 1) es)
          ∙ rest
          ∙ (λ i. place_from (other.1 i) (places_from (n + 1) es id) version)
          ∙ (λ i. place_from (latest before id) (if sym other.0 i then n ∷ places_from (n + 1) es id else places_from (n + 1) es id) version)
      | inr same ↦
          (λ i. if (same.0 i && (e.originator_version == version)) then Some (n + 1) else position_from (is_version id version) (n + 1 + 1) es)
          ∙ of_own (e.originator_version == version) refl (latest before id) same.2 (rest ∙ (λ i. place_from (same.1 i) (places_from (n + 1) es id) version))
          ∙ (λ i. place_from (latest before id) (if sym same.0 i then n ∷ places_from (n + 1) es id else places_from (n + 1) es id) version)
    ]
  where
    of_own : (b : Bool) → (e.originator_version == version) ≡ b → (newest : ℕ) → e.originator_version ≡ newest + 1 → position_from (is_version id version) (n + 1 + 1) es ≡ place_from (newest + 1) (places_from (n + 1) es id) version
        → (if b then Some (n + 1) else position_from (is_version id version) (n + 1 + 1) es) ≡ place_from newest (n ∷ places_from (n + 1) es id) version
    of_own true is newest here rest = let same : version ≡ newest + 1 = grind (arith, nat_tests, is, here) in sym (place_here newest version n (places_from (n + 1) es id) same)
    of_own false is newest here rest = elim (cases_lt (newest + 1) version) [
      | inl past ↦ rest ∙ sym (place_past newest version n (places_from (n + 1) es id) past)
      | inr upto ↦ let low : version ≤ newest = grind (arith, nat_tests, is, here, upto) in rest ∙ place_low (newest + 1) version (places_from (n + 1) es id) (omega (arith, low)) ∙ sym (place_low newest version (n ∷ places_from (n + 1) es id) low)
    ]

pub place-version : (es : List StoredEvent) (id : Id) (version : ℕ) (places : List ℕ) → versions_follow [] es ≡ true → places ≡ places_from 0 es id → (if version == 0 then None else option_map (λ p. p + 1) (slice_get places (version - 1))) ≡ notification_of es id version
place-version es id version places follow is =
    let zero_test : (version == 0) ≡ nat_le version 0 = grind (arith, nat_tests) in
    (λ i. if zero_test i then None else option_map (λ p. p + 1) (slice_get (is i) (version - 1))) ∙ sym (place_of 0 [] es id version follow)

-- places are within the log
pub places-small : (n : ℕ) (es : List StoredEvent) (id : Id) → All (λ p. p < n + length es) (places_from n es id)
places-small n [] id = All-nil (λ p. p < n + 0)
places-small n (e ∷ es) id =
    let rest = All-weaker (λ p. p < n + 1 + length es) (λ p. p < n + length (e ∷ es)) (λ p small. omega arith) (places_from (n + 1) es id) (places-small (n + 1) es id) in
    elim (bytes_eq e.originator_id id) as (λ b. All (λ p. p < n + length (e ∷ es)) (if b then n ∷ places_from (n + 1) es id else places_from (n + 1) es id)) [
      | true ↦ All-cons (λ p. p < n + length (e ∷ es)) n (places_from (n + 1) es id) (omega arith) rest
      | false ↦ rest
    ]
