-- An aggregate that is read of a log stands at the number of its events.
use Rattle.std.proofs.Common.{◌≡◌, ◌∙◌, ◌+◌, ℕ, Bool, true, false, List, [], ◌∷◌, map, Option, None, Some, length, refl, sym, ap, subst, arith}
use Rattle.std.specs.Prelude.{filter}
use Rattle.std.specs.Str.{bytes_eq}
use Rattle.std.proofs.lemmas.Slice.Eq.{bytes_eq-Decides}
use Rattle.es_model.specs.History.{latest}
use Rattle.es_model.specs.Values.{Id}
use Rattle.es_model.specs.declared.declaration.System.{System}
use Rattle.es_model.specs.declared.domain_event.DomainEvent.{DomainEvent}
use Rattle.es_model.specs.declared.event.Notification.{Notification}
use Rattle.es_model.specs.declared.event.StoredEvent.{StoredEvent}
use Rattle.es_mapper.specs.Mapped.{event_of}
use Rattle.es_mapper.proofs.MappedLemmas.{is-event}
use Rattle.es_domain.specs.Fold.{advanced}
use Rattle.es_domain.specs.Readings.{folded}
use Rattle.es_domain.specs.declared.aggregate.Aggregate.{Aggregate}
use Rattle.es_domain.proofs.NextLemmas.{IsMade, next_version, new_events, made-by, made-is, StandsAs, StandsAt}
use Rattle.es_recorder.specs.Selections.{is_upto}
use Rattle.es_repo.specs.Readings.{notifications_of, notifications_upto, advanced_by, after_entry, read_from, readings_of, reading_at}
use Rattle.es_repo.proofs.LogLemmas.{entries, events-of}

-- the same by a stored event
pub advanced-made : (sys : System) (found : Option Aggregate) (s : StoredEvent) (b : Aggregate) → advanced_by sys found (event_of sys s) ≡ Some b → (e : DomainEvent) × (e.originator_id ≡ s.originator_id) × (e.originator_version ≡ s.originator_version) × IsMade found e b
advanced-made sys found s b is = by-event (event_of sys s) refl is
  where
    by-event : (o : Option DomainEvent) → event_of sys s ≡ o → advanced_by sys found o ≡ Some b → (e : DomainEvent) × (e.originator_id ≡ s.originator_id) × (e.originator_version ≡ s.originator_version) × IsMade found e b
    by-event None named h = absurd (cc h)
    by-event (Some e) named h =
        let event = is-event sys s e named in
        (e, event.originator_id, event.originator_version, made-by sys found e b (made-is (advanced sys found e) b h))

-- ---- where an aggregate stands

abbrev AreOf : Id → List Notification → Type 0
AreOf id [] = Unit {0}
AreOf id (n ∷ ns) = (n.event.originator_id ≡ id) × AreOf id ns

of-step : (id : Id) (b : Bool) (first : ℕ) (e : StoredEvent) (es : List StoredEvent) → bytes_eq e.originator_id id ≡ b → AreOf id (entries id (first + 1) es) → AreOf id (entries id first (e ∷ es))
of-step id true first e es is rest = rw is ((bytes_eq-Decides e.originator_id id).0 is, rest)
of-step id false first e es is rest = rw is rest

entries-of : (id : Id) (first : ℕ) (es : List StoredEvent) → AreOf id (entries id first es)
entries-of id first [] = tt
entries-of id first (e ∷ es) = of-step id (bytes_eq e.originator_id id) first e es refl (entries-of id (first + 1) es)

-- some of them
some-step : (id : Id) (p : Notification → Bool) (b : Bool) (n : Notification) (ns : List Notification) → p n ≡ b → n.event.originator_id ≡ id → AreOf id (filter p ns) → AreOf id (filter p (n ∷ ns))
some-step id p true n ns is of rest = rw is (of, rest)
some-step id p false n ns is of rest = rw is rest

some-of : (id : Id) (p : Notification → Bool) (ns : List Notification) → AreOf id ns → AreOf id (filter p ns)
some-of id p [] are = tt
some-of id p (n ∷ ns) are = some-step id p (p n) n ns refl are.0 (some-of id p ns are.1)

next-stands : (id : Id) (version : ℕ) (found : Option Aggregate) → StandsAt id version found → (next_version found ≡ version + 1) × (new_events found ≡ [])
next-stands id version None none = (omega (arith, none), refl)
next-stands id version (Some a) is = (omega (arith, is.version_is), is.pending)

stands-next : (sys : System) (id : Id) (version : ℕ) (found : Option Aggregate) (s : StoredEvent) (b : Aggregate) → s.originator_id ≡ id → StandsAt id version found → advanced_by sys found (event_of sys s) ≡ Some b → StandsAs id (version + 1) b
stands-next sys id version found s b of stands is =
    let m = advanced-made sys found s b is in
    let next = next-stands id version found stands in
    record {
      id_is = m.3.id_is ∙ m.1 ∙ of;
      version_is = m.3.version_is ∙ m.3.next ∙ next.0;
      pending = m.3.pending ∙ next.1;
    }

stands-read : (sys : System) (id : Id) (version : ℕ) (found : Option Aggregate) (ns : List Notification) (now : Option Aggregate) → AreOf id ns → StandsAt id version found → read_from sys found ns ≡ folded now → StandsAt id (version + length ns) now
stands-read sys id version found [] now are stands is =
    let same : found ≡ now = cc in
    let zero-more : version ≡ version + 0 = omega arith in
    subst (λ v. StandsAt id v now) zero-more (subst (StandsAt id version) same stands)
stands-read sys id version found (n ∷ ns) now are stands is =
    by-step (advanced_by sys found (event_of sys n.event)) refl (λ a here. stands-read sys id (version + 1) (Some a) ns now are.1 here) is
  where
    by-step : (o : Option Aggregate) → advanced_by sys found (event_of sys n.event) ≡ o → ((a : Aggregate) → StandsAs id (version + 1) a → read_from sys (Some a) ns ≡ folded now → StandsAt id (version + 1 + length ns) now)
        → after_entry n.id o (λ a. read_from sys (Some a) ns) ≡ folded now → StandsAt id (version + length (n ∷ ns)) now
    by-step None made_is rest h = absurd (cc h)
    by-step (Some a) made_is rest h =
        let longer : version + 1 + length ns ≡ version + length (n ∷ ns) = omega arith in
        subst (λ v. StandsAt id v now) longer (rest a (stands-next sys id version found n.event a are.0 stands made_is) h)

length-map : {A B : Type 0} (f : A → B) (xs : List A) → length (map f xs) ≡ length xs
length-map f [] = refl
length-map f (x ∷ xs) = let rest = length-map f xs in omega (arith, rest)

-- an aggregate that is read stands at the number of its events
pub standing : (sys : System) (events : List StoredEvent) (id : Id) (now : Option Aggregate) → readings_of sys events id ≡ folded now → StandsAt id (latest events id) now
standing sys events id now is =
    let ns = notifications_of events id in
    let count : length ns ≡ latest events id = sym (length-map (λ (n : Notification). n.event) ns) ∙ ap length (events-of id events) in
    let from-none : 0 + length ns ≡ latest events id = omega (arith, count) in
    subst (λ v. StandsAt id v now) from-none (stands-read sys id 0 None ns now (entries-of id 1 events) refl is)

-- one that is read at a version is the originator's
pub standing-at : (sys : System) (events : List StoredEvent) (id : Id) (version : Option ℕ) (a : Aggregate) → reading_at sys events id version ≡ folded (Some a) → a.id ≡ id
standing-at sys events id version a is =
    let stands = stands-read sys id 0 None (notifications_upto events id version) (Some a) (some-of id (λ n. is_upto version n.event.originator_version) (notifications_of events id) (entries-of id 1 events)) refl is in
    stands.id_is
