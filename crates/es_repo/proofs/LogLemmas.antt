-- The notifications of an originator in a log.
use Rattle.std.proofs.Common.{◌≡◌, ◌∙◌, ◌+◌, ◌<◌, ◌≤◌, ◌^◌, ◌==◌, ℕ, Bool, true, false, List, [], ◌∷◌, ◌++◌, map, Option, None, Some, refl, sym, ap, subst, arith}
use Rattle.std.specs.Prelude.{All, filter}
use Rattle.std.specs.List.{position_from}
use Rattle.std.specs.Str.{bytes_eq}
use Rattle.std.proofs.lemmas.Bool.Decides.{nat_tests, Decides-eqb}
use Rattle.std.proofs.lemmas.List.Elements.{All-nil, All-cons, All-head, All-tail}
use Rattle.std.proofs.lemmas.Slice.Eq.{bytes_eq-Decides}
use Rattle.es_model.specs.History.{log, own, latest, versions_follow, IsFormed}
use Rattle.es_model.specs.Values.{Id}
use Rattle.es_model.specs.declared.event.Notification.{Notification}
use Rattle.es_model.specs.declared.event.Recording.{Recording}
use Rattle.es_model.specs.declared.event.StoredEvent.{StoredEvent}
use Rattle.es_model.proofs.HistoryLemmas.{latest-append, both_true}
use Rattle.es_domain.specs.Readings.{IsOwn}
use Rattle.es_recorder.specs.Selections.{is_upto, select_events, numbered_from, is_version, notification_of}
use Rattle.es_recorder.proofs.SelectionLemmas.{versions-small}
use Rattle.es_repo.specs.Readings.{notifications_of, notifications_upto}

-- ---- the notifications of an originator up to a version

all-kept : (ns : List Notification) → filter (λ n. true) ns ≡ ns
all-kept [] = refl
all-kept (n ∷ ns) = ap (λ ms. n ∷ ms) (all-kept ns)

-- up to the latest version they are all
pub upto-latest : (events : List StoredEvent) (id : Id) → notifications_upto events id None ≡ notifications_of events id
upto-latest events id = all-kept (notifications_of events id)

-- the notifications of an originator among numbered events
abbrev pub entries : Id → ℕ → List StoredEvent → List Notification
entries id first es = filter (λ n. bytes_eq n.event.originator_id id) (numbered_from first es)

module _ (id : Id) where
  events-step : (b : Bool) (first : ℕ) (e : StoredEvent) (es : List StoredEvent) → bytes_eq e.originator_id id ≡ b → map (λ n. n.event) (entries id (first + 1) es) ≡ own es id → map (λ n. n.event) (entries id first (e ∷ es)) ≡ own (e ∷ es) id
  events-step true first e es is rest = rw is (ap (λ xs. e ∷ xs) rest)
  events-step false first e es is rest = rw is rest

  events-from : (first : ℕ) (es : List StoredEvent) → map (λ n. n.event) (entries id first es) ≡ own es id
  events-from first [] = refl
  events-from first (e ∷ es) = events-step (bytes_eq e.originator_id id) first e es refl (events-from (first + 1) es)

  -- their events are those of the originator
  pub events-of : (events : List StoredEvent) → map (λ n. n.event) (notifications_of events id) ≡ own events id
  events-of events = events-from 1 events

  test-step : (p : StoredEvent → Bool) (b : Bool) (n : Notification) (ns : List Notification) → p n.event ≡ b → map (λ m. m.event) (filter (λ m. p m.event) ns) ≡ filter p (map (λ m. m.event) ns)
      → map (λ m. m.event) (filter (λ m. p m.event) (n ∷ ns)) ≡ filter p (map (λ m. m.event) (n ∷ ns))
  test-step p true n ns is rest = rw is (ap (λ es. n.event ∷ es) rest)
  test-step p false n ns is rest = rw is rest

  tested : (p : StoredEvent → Bool) (ns : List Notification) → map (λ n. n.event) (filter (λ n. p n.event) ns) ≡ filter p (map (λ n. n.event) ns)
  tested p [] = refl
  tested p (n ∷ ns) = test-step p (p n.event) n ns refl (tested p ns)

  -- the events of those up to a version are the selected ones
  pub events-upto : (events : List StoredEvent) (version : Option ℕ) → map (λ n. n.event) (notifications_upto events id version) ≡ select_events events id None version false None
  events-upto events version =
      tested (λ e. is_upto version e.originator_version) (notifications_of events id) ∙ ap (filter (λ e. is_upto version e.originator_version)) (events-of events)

  own-step : (b : Bool) (first : ℕ) (e : StoredEvent) (es : List StoredEvent) → bytes_eq e.originator_id id ≡ b → e.originator_version < 2 ^ 62 → All (IsOwn id) (entries id (first + 1) es) → All (IsOwn id) (entries id first (e ∷ es))
  own-step true first e es is small rest =
      let n : Notification = record { id = first; event = e } in
      rw is (All-cons (IsOwn id) n (entries id (first + 1) es) (record { originator_id = (bytes_eq-Decides e.originator_id id).0 is; version = small }) rest)
  own-step false first e es is small rest = rw is rest

  own-from : (first : ℕ) (es : List StoredEvent) → All (λ e. e.originator_version < 2 ^ 62) es → All (IsOwn id) (entries id first es)
  own-from first [] small = All-nil (IsOwn id)
  own-from first (e ∷ es) small =
      own-step (bytes_eq e.originator_id id) first e es refl (All-head (λ x. x.originator_version < 2 ^ 62) e es small) (own-from (first + 1) es (All-tail (λ x. x.originator_version < 2 ^ 62) e es small))

  -- each is of the originator, and its version is small
  pub all-own : (h : List Recording) → IsFormed h → All (IsOwn id) (notifications_of (log h) id)
  all-own h formed = own-from 1 (log h) (versions-small h formed)

  -- ---- the versions of an originator are one after the other

  abbrev AreConsecutive : ℕ → List Notification → Type 0
  AreConsecutive version [] = Unit {0}
  AreConsecutive version (n ∷ ns) = (n.event.originator_version ≡ version) × AreConsecutive (version + 1) ns

  entries-own : (first : ℕ) (e : StoredEvent) (es : List StoredEvent) → bytes_eq e.originator_id id ≡ true → entries id first (e ∷ es) ≡ record { id = first; event = e } ∷ entries id (first + 1) es
  entries-own first e es is = rw is refl

  entries-other : (first : ℕ) (e : StoredEvent) (es : List StoredEvent) → bytes_eq e.originator_id id ≡ false → entries id first (e ∷ es) ≡ entries id (first + 1) es
  entries-other first e es is = rw is refl

  pub latest-own : (before : List StoredEvent) (e : StoredEvent) → bytes_eq e.originator_id id ≡ true → latest (before ++ e ∷ []) id ≡ latest before id + 1
  latest-own before e is = let one : latest (e ∷ []) id ≡ 1 = rw is refl in latest-append before (e ∷ []) id ∙ ap (λ n. latest before id + n) one

  pub latest-other : (before : List StoredEvent) (e : StoredEvent) → bytes_eq e.originator_id id ≡ false → latest (before ++ e ∷ []) id ≡ latest before id
  latest-other before e is = let none : latest (e ∷ []) id ≡ 0 = rw is refl in latest-append before (e ∷ []) id ∙ ap (λ n. latest before id + n) none ∙ omega arith

  consecutive-step : (b : Bool) (first : ℕ) (before : List StoredEvent) (e : StoredEvent) (es : List StoredEvent) → bytes_eq e.originator_id id ≡ b → e.originator_version ≡ latest before e.originator_id + 1
      → AreConsecutive (latest (before ++ e ∷ []) id + 1) (entries id (first + 1) es) → AreConsecutive (latest before id + 1) (entries id first (e ∷ es))
  consecutive-step true first before e es is next rest =
      let same : e.originator_id ≡ id = (bytes_eq-Decides e.originator_id id).0 is in
      subst (AreConsecutive (latest before id + 1)) (sym (entries-own first e es is))
      (next ∙ ap (λ i. latest before i + 1) same, subst (λ n. AreConsecutive (n + 1) (entries id (first + 1) es)) (latest-own before e is) rest)
  consecutive-step false first before e es is next rest =
      subst (AreConsecutive (latest before id + 1)) (sym (entries-other first e es is)) (subst (λ n. AreConsecutive (n + 1) (entries id (first + 1) es)) (latest-other before e is) rest)

  consecutive : (first : ℕ) (before es : List StoredEvent) → versions_follow before es ≡ true → AreConsecutive (latest before id + 1) (entries id first es)
  consecutive first before [] follow = tt
  consecutive first before (e ∷ es) follow =
      let parts = both_true (e.originator_version == latest before e.originator_id + 1) (versions_follow (before ++ e ∷ []) es) follow in
      consecutive-step (bytes_eq e.originator_id id) first before e es refl ((Decides-eqb e.originator_version (latest before e.originator_id + 1)).0 parts.0) (consecutive (first + 1) (before ++ e ∷ []) es parts.1)

  at-least : (version : ℕ) (before : List Notification) (n : Notification) (after : List Notification) → AreConsecutive version (before ++ n ∷ after) → version ≤ n.event.originator_version
  at-least version [] n after are = omega (arith, are.0)
  at-least version (m ∷ before) n after are = omega (arith, at-least (version + 1) before n after are.1)

  -- ---- the place of an event

  found-here : (first version : ℕ) (e : StoredEvent) (es : List StoredEvent) → bytes_eq e.originator_id id ≡ true → (e.originator_version == version) ≡ true → position_from (is_version id version) first (e ∷ es) ≡ Some first
  found-here first version e es is same = rw (is, same) refl

  found-later : (first version : ℕ) (e : StoredEvent) (es : List StoredEvent) → bytes_eq e.originator_id id ≡ true → (e.originator_version == version) ≡ false → position_from (is_version id version) first (e ∷ es) ≡ position_from (is_version id version) (first + 1) es
  found-later first version e es is other = rw (is, other) refl

  found-past : (first version : ℕ) (e : StoredEvent) (es : List StoredEvent) → bytes_eq e.originator_id id ≡ false → position_from (is_version id version) first (e ∷ es) ≡ position_from (is_version id version) (first + 1) es
  found-past first version e es is = rw is refl

  head-is : (x y : Notification) (xs ys : List Notification) → x ∷ xs ≡ y ∷ ys → x ≡ y
  head-is x y xs ys is = cc

  tail-is : (x y : Notification) (xs ys : List Notification) → x ∷ xs ≡ y ∷ ys → xs ≡ ys
  tail-is x y xs ys is = cc

  -- an event of the originator is found by its version
  abbrev IsPlaced : ℕ → ℕ → List StoredEvent → Type 0
  IsPlaced version first es = (before : List Notification) (n : Notification) (after : List Notification) → AreConsecutive version (entries id first es) → entries id first es ≡ before ++ n ∷ after
      → position_from (is_version id n.event.originator_version) first es ≡ Some n.id

  place-own : (version first : ℕ) (e : StoredEvent) (es : List StoredEvent) (before : List Notification) (n : Notification) (after : List Notification) → bytes_eq e.originator_id id ≡ true → IsPlaced (version + 1) (first + 1) es
      → AreConsecutive version (record { id = first; event = e } ∷ entries id (first + 1) es) → record { id = first; event = e } ∷ entries id (first + 1) es ≡ before ++ n ∷ after → position_from (is_version id n.event.originator_version) first (e ∷ es) ≡ Some n.id
  place-own version first e es [] n after is rest are parts =
      let m : Notification = record { id = first; event = e } in
      let here : m ≡ n = head-is m n (entries id (first + 1) es) after parts in
      let same : e.originator_version ≡ n.event.originator_version = ap (λ (x : Notification). x.event.originator_version) here in
      found-here first n.event.originator_version e es is ((Decides-eqb e.originator_version n.event.originator_version).1 same) ∙ ap (λ (x : Notification). Some x.id) here
  place-own version first e es (m ∷ before) n after is rest are parts =
      let later : entries id (first + 1) es ≡ before ++ n ∷ after = tail-is (record { id = first; event = e }) m (entries id (first + 1) es) (before ++ n ∷ after) parts in
      let above : version + 1 ≤ n.event.originator_version = at-least (version + 1) before n after (subst (AreConsecutive (version + 1)) later are.1) in
      let other : (e.originator_version == n.event.originator_version) ≡ false = grind (arith, nat_tests, above, are.0) in
      found-later first n.event.originator_version e es is other ∙ rest before n after are.1 later

  place-step : (b : Bool) (version first : ℕ) (e : StoredEvent) (es : List StoredEvent) → bytes_eq e.originator_id id ≡ b → IsPlaced (version + 1) (first + 1) es → IsPlaced version (first + 1) es → IsPlaced version first (e ∷ es)
  place-step true version first e es is rest same = λ before n after are parts.
      place-own version first e es before n after is rest (subst (AreConsecutive version) (entries-own first e es is) are) (sym (entries-own first e es is) ∙ parts)
  place-step false version first e es is rest same = λ before n after are parts.
      found-past first n.event.originator_version e es is ∙ same before n after (subst (AreConsecutive version) (entries-other first e es is) are) (sym (entries-other first e es is) ∙ parts)

  no-parts : (before : List Notification) (n : Notification) (after : List Notification) → [] ≡ before ++ n ∷ after → ⊥
  no-parts [] n after is = cc
  no-parts (m ∷ before) n after is = cc

  placed : (version first : ℕ) (es : List StoredEvent) → IsPlaced version first es
  placed version first [] = λ before n after are parts. absurd (no-parts before n after parts)
  placed version first (e ∷ es) = place-step (bytes_eq e.originator_id id) version first e es refl (placed (version + 1) (first + 1) es) (placed version (first + 1) es)

  -- what is part of some of a list is part of all of it
  abbrev AreParts : List Notification → Notification → Type 0
  AreParts ns n = (before : List Notification) × (after : List Notification) × (ns ≡ before ++ n ∷ after)

  part-behind : (m n : Notification) (ns : List Notification) → AreParts ns n → AreParts (m ∷ ns) n
  part-behind m n ns parts = (m ∷ parts.0, parts.1, ap (λ ms. m ∷ ms) parts.2)

  part-kept : (m n : Notification) (ns kept before after : List Notification) → m ∷ kept ≡ before ++ n ∷ after → ((front : List Notification) → kept ≡ front ++ n ∷ after → AreParts ns n) → AreParts (m ∷ ns) n
  part-kept m n ns kept [] after is rest = ([], ns, ap (λ x. x ∷ ns) (head-is m n kept after is))
  part-kept m n ns kept (b ∷ before) after is rest = part-behind m n ns (rest before (tail-is m b kept (before ++ n ∷ after) is))

  pub part-of-all : (p : Notification → Bool) (n : Notification) (after ns before : List Notification) → filter p ns ≡ before ++ n ∷ after → AreParts ns n
  part-of-all p n after [] before is = absurd (no-parts before n after is)
  part-of-all p n after (m ∷ ns) before is = by-test (p m) refl (λ front rest. part-of-all p n after ns front rest)
    where
      by-test : (b : Bool) → p m ≡ b → ((front : List Notification) → filter p ns ≡ front ++ n ∷ after → AreParts ns n) → AreParts (m ∷ ns) n
      by-test true test rest = part-kept m n ns (filter p ns) before after (sym (kept-step true test) ∙ is) rest
        where
          kept-step : (b : Bool) → p m ≡ true → filter p (m ∷ ns) ≡ m ∷ filter p ns
          kept-step b t = rw t refl
      by-test false test rest = part-behind m n ns (rest before (sym (left-step test) ∙ is))
        where
          left-step : p m ≡ false → filter p (m ∷ ns) ≡ filter p ns
          left-step t = rw t refl

  -- the notification id of an event of the originator is its place in the log
  pub place-of : (h : List Recording) (before : List Notification) (n : Notification) (after : List Notification) → IsFormed h → notifications_of (log h) id ≡ before ++ n ∷ after → notification_of (log h) id n.event.originator_version ≡ Some n.id
  place-of h before n after formed parts = placed 1 1 (log h) before n after (consecutive 1 [] (log h) formed.versions) parts
