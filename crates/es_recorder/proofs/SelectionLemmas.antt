-- Selections of events, notifications and snapshots.
use Rattle.std.proofs.Common.{◌≡◌, ◌≤◌, ◌<◌, ◌^◌, ◌==◌, ℕ, zero, suc, ◌+◌, ◌-◌, max, Bool, true, false, ◌&&◌, nat_le, List, [], ◌∷◌, ◌++◌, length, reverse, take, drop, slice_get, if◌then◌else◌, Option, Some, None, refl, sym, ap, ◌∙◌, subst, length-append, length-take, arith}
use Rattle.std.specs.Prelude.{All, IfSome}
use Rattle.std.specs.List.{position_from}
use Rattle.std.specs.Str.{bytes_eq}
use Rattle.std.proofs.lemmas.Bool.Decides.{nat_tests}
use Rattle.std.proofs.lemmas.List.{drop_all, get_or-reverse, length-reverse}
use Rattle.std.proofs.lemmas.List.Elements.{filter-append, All-nil, All-cons, All-head, All-tail, All-take, All-filter, All-weaker, All-contains}
use Rattle.es_model.specs.declared.event.Notification.{Notification}
use Rattle.es_model.specs.declared.event.Recording.{Recording}
use Rattle.es_model.specs.declared.event.StoredEvent.{StoredEvent}
use Rattle.es_model.specs.declared.snapshot.Snapshot.{Snapshot}
use Rattle.es_model.specs.History.{log, own, latest, versions_follow, IsFormed}
use Rattle.es_model.specs.Snapshots.{AreSnapshots, IsSmallSnapshot}
use Rattle.es_model.specs.Values.{Id}
use Rattle.es_model.proofs.HistoryLemmas.{latest-length, both_true}
use Rattle.es_recorder.specs.Selections.{is_above, is_upto, first_of, events_between, select_events, IsWithin, AreVersions, numbered_from, notifications, ids_from, select_notifications, AreNumbered, AreSelected, is_version, notification_of, snapshots_upto, IsNewest}

-- an event with its notification id
abbrev pub notification : ℕ → StoredEvent → Notification
notification id e = record { id = id; event = e }

-- the numbering of two lists
pub numbered_from-append : (first : ℕ) (a b : List StoredEvent) → numbered_from first (a ++ b) ≡ numbered_from first a ++ numbered_from (first + length a) b
numbered_from-append first [] b = let same : first ≡ first + 0 = omega arith in λ i. numbered_from (same i) b
numbered_from-append first (e ∷ a) b =
    let same : first + 1 + length a ≡ first + length (e ∷ a) = omega arith in
    ap (λ ns. notification first e ∷ ns) (numbered_from-append (first + 1) a b ∙ (λ i. numbered_from (first + 1) a ++ numbered_from (same i) b))

pub ids_from-append : (start first : ℕ) (a b : List StoredEvent) → ids_from start (numbered_from first (a ++ b)) ≡ ids_from start (numbered_from first a) ++ ids_from start (numbered_from (first + length a) b)
ids_from-append start first a b =
    ap (ids_from start) (numbered_from-append first a b) ∙ filter-append (λ n. nat_le start n.id) (numbered_from first a) (numbered_from (first + length a) b)

-- one event that is before the start, and one that isn't
pub ids_from-early : (start first : ℕ) (e : StoredEvent) (es : List StoredEvent) → first < start → ids_from start (numbered_from first (e ∷ es)) ≡ ids_from start (numbered_from (first + 1) es)
ids_from-early start first e es early =
    let t : nat_le start first ≡ false = grind (arith, nat_tests) in
    λ i. if t i then notification first e ∷ ids_from start (numbered_from (first + 1) es) else ids_from start (numbered_from (first + 1) es)

pub ids_from-in : (start first : ℕ) (e : StoredEvent) (es : List StoredEvent) → start ≤ first → ids_from start (numbered_from first (e ∷ es)) ≡ notification first e ∷ ids_from start (numbered_from (first + 1) es)
ids_from-in start first e es reached =
    let t : nat_le start first ≡ true = grind (arith, nat_tests) in
    λ i. if t i then notification first e ∷ ids_from start (numbered_from (first + 1) es) else ids_from start (numbered_from (first + 1) es)

-- past the start all are selected
all_in : (start first : ℕ) (es : List StoredEvent) → start ≤ first → ids_from start (numbered_from first es) ≡ numbered_from first es
all_in start first [] reached = refl
all_in start first (e ∷ es) reached = ids_from-in start first e es reached ∙ ap (λ ns. notification first e ∷ ns) (all_in start (first + 1) es (omega arith))

ids_from-drop : (first k : ℕ) (es : List StoredEvent) → ids_from (first + k) (numbered_from first es) ≡ numbered_from (first + k) (drop k es)
ids_from-drop first zero es =
    let same : first ≡ first + zero = omega arith in
    all_in (first + zero) first es (omega arith) ∙ (λ i. numbered_from (same i) es)
ids_from-drop first (suc k) [] = refl
ids_from-drop first (suc k) (e ∷ es) =
    let same : first + 1 + k ≡ first + suc k = omega arith in
    ids_from-early (first + suc k) first e es (omega arith)
    ∙ (λ i. ids_from (sym same i) (numbered_from (first + 1) es))
    ∙ ids_from-drop (first + 1) k es
    ∙ (λ i. numbered_from (same i) (drop k es))

-- the selection from an id on is what is left of the log there, numbered
pub select-drop : (events : List StoredEvent) (n limit : ℕ) → select_notifications events (n + 1) limit ≡ take limit (numbered_from (n + 1) (drop n events))
select-drop events n limit =
    let same : 1 + n ≡ n + 1 = omega arith in
    ap (take limit) ((λ i. ids_from (sym same i) (numbered_from 1 events)) ∙ ids_from-drop 1 n events ∙ (λ i. numbered_from (same i) (drop n events)))

rest_at : {X : Type 0} → (xs : List X) (n : ℕ) (x : X) → slice_get xs n ≡ Some x → drop n xs ≡ x ∷ drop (suc n) xs
rest_at [] n x is = absurd (cc is)
rest_at (y ∷ ys) zero x is = let same : y ≡ x = cc is in ap (λ z. z ∷ ys) same
rest_at (y ∷ ys) (suc n) x is = rest_at ys n x is

none_at : {X : Type 0} → (xs : List X) (n : ℕ) → slice_get xs n ≡ None → length xs ≤ n
none_at [] n is = omega arith
none_at (y ∷ ys) zero is = absurd (cc is)
none_at (y ∷ ys) (suc n) is = omega (arith, none_at ys n is)

-- from past the end nothing is selected
pub select-past : (events : List StoredEvent) (n limit : ℕ) → length events ≤ n → select_notifications events (n + 1) limit ≡ []
select-past events n limit past =
    select-drop events n limit ∙ (λ i. take limit (numbered_from (n + 1) (drop_all n events past i))) ∙ take-nil limit
  where
    take-nil : (m : ℕ) → take m (numbered_from (n + 1) []) ≡ []
    take-nil zero = refl
    take-nil (suc m) = refl

-- the entry after n is selected alone, or nothing
pub select-next : (events : List StoredEvent) (n : ℕ) (e : StoredEvent) → slice_get events n ≡ Some e → select_notifications events (n + 1) 1 ≡ notification (n + 1) e ∷ []
select-next events n e is = select-drop events n 1 ∙ (λ i. take 1 (numbered_from (n + 1) (rest_at events n e is i)))

pub select-none : (events : List StoredEvent) (n : ℕ) → slice_get events n ≡ None → select_notifications events (n + 1) 1 ≡ []
select-none events n is = select-past events n 1 (none_at events n is)

-- the numbers of a selection
AreNumbered-take : (limit first : ℕ) (es : List StoredEvent) → AreNumbered first (take limit (numbered_from first es))
AreNumbered-take zero first es = tt
AreNumbered-take (suc limit) first [] = tt
AreNumbered-take (suc limit) first (e ∷ es) = (refl, AreNumbered-take limit (first + 1) es)

select-numbered : (events : List StoredEvent) (start limit : ℕ) → AreNumbered (max start 1) (select_notifications events start limit)
select-numbered events zero limit =
    subst (AreNumbered 1) (sym (ap (take limit) (all_in 0 1 events (omega arith)))) (AreNumbered-take limit 1 events)
select-numbered events (suc n) limit =
    let same : n + 1 ≡ suc n = omega arith in
    let first : n + 1 ≡ max (suc n) 1 = omega arith in
    let whole : select_notifications events (suc n) limit ≡ take limit (numbered_from (n + 1) (drop n events)) = (λ i. select_notifications events (sym same i) limit) ∙ select-drop events n limit in
    let P : ℕ → Type 0 = λ m. AreNumbered m (select_notifications events (suc n) limit) in
    subst P first (subst (AreNumbered (n + 1)) (sym whole) (AreNumbered-take limit (n + 1) (drop n events)))

ids-small : (first : ℕ) (es : List StoredEvent) → first + length es ≤ 2 ^ 62 → All (λ n. n.id < 2 ^ 62) (numbered_from first es)
ids-small first [] few = All-nil (λ n. n.id < 2 ^ 62)
ids-small first (e ∷ es) few = All-cons (λ n. n.id < 2 ^ 62) (notification first e) (numbered_from (first + 1) es) (omega arith) (ids-small (first + 1) es (omega arith))

-- versions that follow are at most the number of events
pub versions-bound : (before es : List StoredEvent) → versions_follow before es ≡ true → All (λ e. e.originator_version ≤ length before + length es) es
versions-bound before [] follow = All-nil (λ e. e.originator_version ≤ length before + 0)
versions-bound before (e ∷ es) follow =
    let parts = both_true (e.originator_version == latest before e.originator_id + 1) (versions_follow (before ++ e ∷ []) es) follow in
    let is : e.originator_version ≡ latest before e.originator_id + 1 = grind (arith, nat_tests, parts.0) in
    let longer : length (before ++ e ∷ []) ≡ length before + 1 = length-append before (e ∷ []) in
    All-cons (λ x. x.originator_version ≤ length before + length (e ∷ es)) e es
    (omega (arith, latest-length before e.originator_id))
    (All-weaker (λ x. x.originator_version ≤ length (before ++ e ∷ []) + length es) (λ x. x.originator_version ≤ length before + length (e ∷ es)) (λ x bound. omega arith) es (versions-bound (before ++ e ∷ []) es parts.1))

-- the versions of a formed history are small
pub versions-small : (h : List Recording) → IsFormed h → All (λ e. e.originator_version < 2 ^ 62) (log h)
versions-small h formed =
    All-weaker (λ e. e.originator_version ≤ length {A = StoredEvent} [] + length (log h)) (λ e. e.originator_version < 2 ^ 62) (λ e bound. omega (arith, formed.few_events)) (log h) (versions-bound [] (log h) formed.versions)

All-numbered : (P : StoredEvent → Type 0) (first : ℕ) (es : List StoredEvent) → All P es → All (λ n. P n.event) (numbered_from first es)
All-numbered P first [] all = All-nil (λ n. P n.event)
All-numbered P first (e ∷ es) all = All-cons (λ n. P n.event) (notification first e) (numbered_from (first + 1) es) (All-head P e es all) (All-numbered P (first + 1) es (All-tail P e es all))

All-selected : (P : Notification → Type 0) (events : List StoredEvent) (start limit : ℕ) → All P (notifications events) → All P (select_notifications events start limit)
All-selected P events start limit all = All-take P limit (ids_from start (notifications events)) (All-filter (λ n. nat_le start n.id) P (notifications events) all)

-- what is told of a selection, told or not
pub selected : (h : List Recording) (start limit : ℕ) → IsFormed h → AreSelected start limit (select_notifications (log h) start limit)
selected h start limit formed = record {
  few = omega (arith, length-take limit (ids_from start (notifications (log h))));
  numbered = select-numbered (log h) start limit;
  ids = All-selected (λ n. n.id < 2 ^ 62) (log h) start limit (ids-small 1 (log h) (omega (arith, formed.few_events)));
  versions = All-selected (λ n. n.event.originator_version < 2 ^ 62) (log h) start limit (All-numbered (λ e. e.originator_version < 2 ^ 62) 1 (log h) (versions-small h formed));
}

-- reversed lists
pub All-reverse : {A : Type 0} (P : A → Type 0) (xs : List A) → All P xs → All P (reverse xs)
All-reverse P xs all k d within =
    let size : length (reverse xs) ≡ length xs = length-reverse xs in
    subst P (sym (get_or-reverse xs k d (omega arith))) (all (length xs - 1 - k) d (omega arith))

-- what holds of all events of a log holds of those selected
pub All-select_events : (P : StoredEvent → Type 0) (events : List StoredEvent) (id : Id) (gt lte : Option ℕ) (desc : Bool) (limit : Option ℕ) → All P events → All P (select_events events id gt lte desc limit)
All-select_events P events id gt lte desc limit all =
    let between = All-filter (λ e. is_above gt e.originator_version && is_upto lte e.originator_version) P (own events id) (All-filter (λ e. bytes_eq e.originator_id id) P events all) in
    cut limit (if desc then reverse (events_between events id gt lte) else events_between events id gt lte)
    (elim desc as (λ b. All P (if b then reverse (events_between events id gt lte) else events_between events id gt lte)) [ true ↦ All-reverse P (events_between events id gt lte) between | false ↦ between ])
  where
    cut : (l : Option ℕ) (xs : List StoredEvent) → All P xs → All P (first_of l xs)
    cut None xs each = each
    cut (Some n) xs each = All-take P n xs each

first-few : (limit : Option ℕ) (xs : List StoredEvent) → IsWithin limit (length (first_of limit xs))
first-few None xs = tt
first-few (Some n) xs = omega (arith, length-take n xs)

-- the numbers of a selection of events
pub AreVersions-select : (h : List Recording) (id : Id) (gt lte : Option ℕ) (desc : Bool) (limit : Option ℕ) → IsFormed h → AreVersions limit (select_events (log h) id gt lte desc limit)
AreVersions-select h id gt lte desc limit formed = record {
  few = first-few limit (if desc then reverse (events_between (log h) id gt lte) else events_between (log h) id gt lte);
  versions = All-select_events (λ e. e.originator_version < 2 ^ 62) (log h) id gt lte desc limit (versions-small h formed);
}

-- a place that is found is within the list
position-within : {A : Type 0} (p : A → Bool) (first : ℕ) (xs : List A) → IfSome (position_from p first xs) (λ n. n < first + length xs)
position-within p first [] = tt
position-within p first (x ∷ xs) = elim (p x) as (λ b. IfSome (if b then Some first else position_from p (first + 1) xs) (λ n. n < first + length (x ∷ xs))) [
  | true ↦ omega arith
  | false ↦ below (position_from p (first + 1) xs) (position-within p (first + 1) xs)
]
  where
    below : (o : Option ℕ) → IfSome o (λ n. n < first + 1 + length xs) → IfSome o (λ n. n < first + length (x ∷ xs))
    below None within = tt
    below (Some n) within = omega arith

-- the notification id of an event of a formed history is small
pub notification_of-small : (h : List Recording) (id : Id) (version : ℕ) → IsFormed h → IfSome (notification_of (log h) id version) (λ n. n < 2 ^ 62)
notification_of-small h id version formed = small (notification_of (log h) id version) (position-within (is_version id version) 1 (log h))
  where
    small : (o : Option ℕ) → IfSome o (λ n. n < 1 + length (log h)) → IfSome o (λ n. n < 2 ^ 62)
    small None within = tt
    small (Some n) within = omega (arith, formed.few_events)

-- the numbers of a snapshot that is selected
pub IsNewest-small : (ss : List Snapshot) (id : Id) (lte : Option ℕ) (o : Option Snapshot) → AreSnapshots ss → IsNewest (snapshots_upto ss id lte) o → IfSome o IsSmallSnapshot
IsNewest-small ss id lte None are newest = tt
IsNewest-small ss id lte (Some s) are newest =
    All-contains IsSmallSnapshot (snapshots_upto ss id lte) s (All-filter (λ x. bytes_eq x.originator_id id && is_upto lte x.originator_version) IsSmallSnapshot ss are.small) newest.0
