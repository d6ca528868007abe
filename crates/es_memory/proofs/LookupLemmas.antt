-- What is counted and tracked by an index.
use Rattle.std.proofs.Common.{◌≡◌, ◌<◌, ◌≤◌, ◌+◌, ◌-◌, ◌==◌, ◌&&◌, ◌||◌, ◌⊎◌, inl, inr, ℕ, zero, suc, Bool, true, false, max, List, [], ◌∷◌, ◌++◌, length, slice_get, get_or, if◌then◌else◌, Result, Ok, Err, is_ok, refl, sym, ap, ◌∙◌, subst, arith, unwrap_or}
use Rattle.std.specs.List.{list_any}
use Rattle.std.specs.List.Sorted.{IsBinarySearchResult}
use Rattle.std.specs.Ordering.{nat_cmp}
use Rattle.std.specs.Str.{bytes_eq}
use Rattle.std.proofs.lemmas.Bool.{cases_lt}
use Rattle.std.proofs.lemmas.Bool.Decides.{nat_tests}
use Rattle.std.proofs.lemmas.List.{get_or_default}
use Rattle.std.proofs.lemmas.List.Folds.{list_any-append, list_any_at, list_any_none}
use Rattle.std.proofs.lemmas.List.Sorted.{searched}
use Rattle.std.proofs.lemmas.Slice.Eq.{bytes_eq-Decides}
use Rattle.es_model.specs.declared.event.Cause.{Cause}
use Rattle.es_model.specs.declared.event.Cause.TheVariants.{Command, Notification}
use Rattle.es_model.specs.declared.event.Recording.{Recording}
use Rattle.es_model.specs.declared.event.StoredEvent.{StoredEvent}
use Rattle.es_model.specs.History.{own, latest, causes_follow, cause_follows}
use Rattle.es_model.specs.Tracking.{tracked_in, id_from}
use Rattle.es_model.specs.Values.{Id, Name}
use Rattle.es_model.proofs.HistoryLemmas.{both_true, tracked_in-push}
use Rattle.es_recorder.specs.Selections.{is_notification, tracks}
use Rattle.es_memory.specs.inner.Index.{places_from, id_in, ids_in, Rises}

-- an originator has as many places as events
pub places-count : (n : ℕ) (es : List StoredEvent) (id : Id) → length (places_from n es id) ≡ latest es id
places-count n [] id = refl
places-count n (e ∷ es) id = elim (bytes_eq e.originator_id id) as (λ b. length (if b then n ∷ places_from (n + 1) es id else places_from (n + 1) es id) ≡ length (if b then e ∷ own es id else own es id)) [
  | true ↦ ap suc (places-count (n + 1) es id)
  | false ↦ places-count (n + 1) es id
]

-- the last of some numbers, or what stands for none
abbrev last_or : ℕ → List ℕ → ℕ
last_or none [] = none
last_or none (n ∷ ns) = last_or n ns

last_at : (n : ℕ) (ns : List ℕ) → unwrap_or (slice_get (n ∷ ns) (length ns)) 0 ≡ last_or n ns
last_at n [] = refl
last_at n (m ∷ ns) = last_at m ns

last_is : (ns : List ℕ) → unwrap_or (slice_get ns (length ns - 1)) 0 ≡ last_or 0 ns
last_is [] = refl
last_is (n ∷ ns) = let same : length (n ∷ ns) - 1 ≡ length ns = omega arith in (λ i. unwrap_or (slice_get (n ∷ ns) (same i)) 0) ∙ last_at n ns

-- what a cause that follows adds to what is tracked
cause_last : (before : List Recording) (cause : Cause) (leader : Name) (ns : List ℕ) → cause_follows before cause ≡ true → last_or (max (tracked_in before leader) (id_from cause leader)) ns ≡ last_or (tracked_in before leader) (id_in cause leader ++ ns)
cause_last before (Command text) leader ns follows = let same : max (tracked_in before leader) 0 ≡ tracked_in before leader = omega arith in λ i. last_or (same i) ns
cause_last before (Notification from id) leader ns follows = chosen (bytes_eq from leader) refl
  where
    above : tracked_in before from < id
    above = grind (arith, nat_tests, follows)

    chosen : (b : Bool) → bytes_eq from leader ≡ b → last_or (max (tracked_in before leader) (if b then id else 0)) ns ≡ last_or (tracked_in before leader) ((if b then id ∷ [] else []) ++ ns)
    chosen true is =
        let same : tracked_in before from ≡ tracked_in before leader = ap (tracked_in before) ((bytes_eq-Decides from leader).0 is) in
        let greatest : max (tracked_in before leader) id ≡ id = omega (arith, above, same) in
        λ i. last_or (greatest i) ns
    chosen false is = let same : max (tracked_in before leader) 0 ≡ tracked_in before leader = omega arith in λ i. last_or (same i) ns

tracked_last : (before h : List Recording) (leader : Name) → causes_follow before h ≡ true → max (tracked_in before leader) (tracked_in h leader) ≡ last_or (tracked_in before leader) (ids_in h leader)
tracked_last before [] leader follow = omega arith
tracked_last before (r ∷ h) leader follow =
    let parts = both_true (cause_follows before r.cause) (causes_follow (before ++ r ∷ []) h) follow in
    let pushed : tracked_in (before ++ r ∷ []) leader ≡ max (tracked_in before leader) (id_from r.cause leader) = tracked_in-push before r leader in
    let whole : max (tracked_in before leader) (max (id_from r.cause leader) (tracked_in h leader)) ≡ max (tracked_in (before ++ r ∷ []) leader) (tracked_in h leader) = omega (arith, pushed) in
    whole ∙ tracked_last (before ++ r ∷ []) h leader parts.1 ∙ (λ i. last_or (pushed i) (ids_in h leader)) ∙ cause_last before r.cause leader (ids_in h leader) parts.0

-- the last notification id of a leader is the greatest
pub last-tracked : (h : List Recording) (leader : Name) → causes_follow [] h ≡ true → unwrap_or (slice_get (ids_in h leader) (length (ids_in h leader) - 1)) 0 ≡ tracked_in h leader
last-tracked h leader follow =
    let whole : max 0 (tracked_in h leader) ≡ tracked_in h leader = omega arith in
    last_is (ids_in h leader) ∙ sym (tracked_last [] h leader follow) ∙ whole

or-false : (b : Bool) → (b || false) ≡ b
or-false true = refl
or-false false = refl

-- a cause is a notification where its id is among these
cause_any : (cause : Cause) (leader : Name) (id : ℕ) → list_any (λ n. n == id) (id_in cause leader) ≡ is_notification leader id cause
cause_any (Command text) leader id = refl
cause_any (Notification from n) leader id = elim (bytes_eq from leader) as (λ b. list_any (λ m. m == id) (if b then n ∷ [] else []) ≡ (b && (n == id))) [
  | true ↦ or-false (n == id)
  | false ↦ refl
]

any-tracks : (h : List Recording) (leader : Name) (id : ℕ) → list_any (λ n. n == id) (ids_in h leader) ≡ tracks h leader id
any-tracks [] leader id = refl
any-tracks (r ∷ h) leader id = list_any-append (λ n. n == id) (id_in r.cause leader) (ids_in h leader) ∙ (λ i. cause_any r.cause leader id i || any-tracks h leader id i)

pub is-tracked : (h : List Recording) (leader : Name) (id : ℕ) (ids : List ℕ) (found : Bool) → ids ≡ ids_in h leader → found ≡ list_any (λ n. n == id) ids → found ≡ tracks h leader id
is-tracked h leader id ids found is any = any ∙ ap (list_any (λ n. n == id)) is ∙ any-tracks h leader id

-- the notification ids of a leader rise
cause_rises : (before : List Recording) (cause : Cause) (leader : Name) (ns : List ℕ) → cause_follows before cause ≡ true → Rises (max (tracked_in before leader) (id_from cause leader)) ns → Rises (tracked_in before leader) (id_in cause leader ++ ns)
cause_rises before (Command text) leader ns follows rise = let same : max (tracked_in before leader) 0 ≡ tracked_in before leader = omega arith in subst (λ n. Rises n ns) same rise
cause_rises before (Notification from id) leader ns follows rise = chosen (bytes_eq from leader) refl rise
  where
    above : tracked_in before from < id
    above = grind (arith, nat_tests, follows)

    chosen : (b : Bool) → bytes_eq from leader ≡ b → Rises (max (tracked_in before leader) (if b then id else 0)) ns → Rises (tracked_in before leader) ((if b then id ∷ [] else []) ++ ns)
    chosen true is rest =
        let same : tracked_in before from ≡ tracked_in before leader = ap (tracked_in before) ((bytes_eq-Decides from leader).0 is) in
        let greatest : max (tracked_in before leader) id ≡ id = omega (arith, above, same) in
        (omega (arith, above, same), subst (λ n. Rises n ns) greatest rest)
    chosen false is rest = let same : max (tracked_in before leader) 0 ≡ tracked_in before leader = omega arith in subst (λ n. Rises n ns) same rest

ids_rise : (before h : List Recording) (leader : Name) → causes_follow before h ≡ true → Rises (tracked_in before leader) (ids_in h leader)
ids_rise before [] leader follow = tt
ids_rise before (r ∷ h) leader follow =
    let parts = both_true (cause_follows before r.cause) (causes_follow (before ++ r ∷ []) h) follow in
    cause_rises before r.cause leader (ids_in h leader) parts.0 (subst (λ n. Rises n (ids_in h leader)) (tracked_in-push before r leader) (ids_rise (before ++ r ∷ []) h leader parts.1))

pub ids-rise : (h : List Recording) (leader : Name) → causes_follow [] h ≡ true → Rises 0 (ids_in h leader)
ids-rise h leader follow = ids_rise [] h leader follow

-- whether a number is among rising ones, by a search
above : (low : ℕ) (ns : List ℕ) (j : ℕ) → Rises low ns → j < length ns → low < get_or ns j 0
above low [] j rise within = absurd (omega (arith, within))
above low (n ∷ ns) zero rise within = rise.0
above low (n ∷ ns) (suc j) rise within = omega (arith, rise.0, above n ns j rise.1 (omega (arith, within)))

in_order : (low : ℕ) (ns : List ℕ) → Rises low ns → (i j : ℕ) → i ≤ j → j < length ns → get_or ns i 0 ≤ get_or ns j 0
in_order low [] rise i j upto within = absurd (omega (arith, within))
in_order low (n ∷ ns) rise zero zero upto within = omega arith
in_order low (n ∷ ns) rise zero (suc j) upto within = omega (arith, above n ns j rise.1 (omega (arith, within)))
in_order low (n ∷ ns) rise (suc i) zero upto within = absurd (omega (arith, upto))
in_order low (n ∷ ns) rise (suc i) (suc j) upto within = in_order n ns rise.1 i j (omega (arith, upto)) (omega (arith, within))

pub is-among : (ns : List ℕ) (n : ℕ) (r : Result ℕ ℕ) → Rises 0 ns → IsBinarySearchResult (λ y. nat_cmp y n) ns r → is_ok r ≡ list_any (λ m. m == n) ns
is-among ns n (Ok i) rise at =
    let found = searched ns n (Ok i) at (in_order 0 ns rise) in
    sym (list_any_at (λ m. m == n) ns i 0 found.0 (grind (arith, nat_tests, found.1)))
is-among ns n (Err i) rise at = sym (list_any_none (λ m. m == n) ns (λ k d within. other k d within (cases_lt k i)))
  where
    apart : (k d : ℕ) → k < length ns → (k < i) ⊎ (i ≤ k) → (get_or ns k 0 < n) ⊎ (n < get_or ns k 0)
    apart k d within (inl before) = inl ((searched ns n (Err i) at (in_order 0 ns rise)).1 k before)
    apart k d within (inr past) = inr ((searched ns n (Err i) at (in_order 0 ns rise)).2 k past within)

    other : (k d : ℕ) → k < length ns → (k < i) ⊎ (i ≤ k) → (get_or ns k d == n) ≡ false
    other k d within place = let same : get_or ns k d ≡ get_or ns k 0 = get_or_default ns k d 0 within in elim (apart k d within place) [
      | inl below ↦ grind (arith, nat_tests, same, below)
      | inr over ↦ grind (arith, nat_tests, same, over)
    ]
