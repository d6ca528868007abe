-- What events make, one after the other, is what is read of their notifications.
use Rattle.std.proofs.Common.{◌≡◌, ◌∙◌, ◌<◌, ◌^◌, ℕ, false, List, [], ◌∷◌, ◌++◌, map, Option, None, Some, Result, Ok, IfSome, refl, sym, ap, subst}
use Rattle.es_model.specs.History.{log, IsFormed}
use Rattle.es_model.specs.Values.{Id}
use Rattle.es_model.specs.declared.declaration.System.{System}
use Rattle.es_model.specs.declared.domain_event.DomainEvent.{DomainEvent}
use Rattle.es_model.specs.declared.event.Notification.{Notification}
use Rattle.es_model.specs.declared.event.Recording.{Recording}
use Rattle.es_model.specs.declared.event.StoredEvent.{StoredEvent}
use Rattle.es_mapper.specs.Mapped.{event_of}
use Rattle.es_domain.proofs.NextLemmas.{new_events}
use Rattle.es_domain.specs.inner.Overlay.{IsBelow}
use Rattle.es_domain.specs.Readings.{folded, unreadable}
use Rattle.es_domain.specs.Steps.{HasItsFields}
use Rattle.es_domain.specs.declared.aggregate.Aggregate.{Aggregate}
use Rattle.es_domain.specs.declared.find.FindFault.{FindFault}
use Rattle.es_recorder.specs.Selections.{is_upto, notification_of, select_events}
use Rattle.es_repo.specs.inner.Reader.{after_event, folded_from, Reads}
use Rattle.es_repo.specs.Readings.{notifications_of, notifications_upto, advanced_by, after_entry, read_from, reading_at}
use Rattle.es_repo.specs.declared.folding.Folded.{Folded}
use Rattle.es_repo.specs.declared.folding.Folded.TheVariants.{Whole, Stuck}
use Rattle.es_repo.proofs.LogLemmas.{events-upto, part-of-all, place-of}
use Rattle.es_repo.proofs.StandingLemmas.{advanced-made, standing-at}

abbrev event : Notification → StoredEvent
event n = n.event

-- the events that are selected of an originator up to a version
abbrev pub events_upto : List Recording → Id → Option ℕ → List StoredEvent
events_upto h id upto = select_events (log h) id None upto false None

-- the first entry without a meaning is an entry of this version
pub record IsStuck (sys : System) (found : Option Aggregate) (ns : List Notification) (version : ℕ) : Type 0 where
  pub before : List Notification
  pub entry : Notification
  pub after : List Notification
  pub parts : ns ≡ before ++ entry ∷ after
  pub version_is : entry.event.originator_version ≡ version
  pub reading : read_from sys found ns ≡ unreadable entry.id

-- what is read of notifications, by what their events make
abbrev pub IsReadAs : System → Option Aggregate → List Notification → Folded → Type 0
IsReadAs sys found ns (Whole now) = read_from sys found ns ≡ folded now
IsReadAs sys found ns (Stuck version) = IsStuck sys found ns version

module _ (sys : System) where
  -- one entry in front
  in-front : (found : Option Aggregate) (n : Notification) (ns : List Notification) (a : Aggregate) (f : Folded) → advanced_by sys found (event_of sys n.event) ≡ Some a → IsReadAs sys (Some a) ns f → IsReadAs sys found (n ∷ ns) f
  in-front found n ns a (Whole now) is rest = ap (λ o. after_entry n.id o (λ b. read_from sys (Some b) ns)) is ∙ rest
  in-front found n ns a (Stuck version) is rest = record {
    before = n ∷ rest.before;
    entry = rest.entry;
    after = rest.after;
    parts = ap (λ ms. n ∷ ms) rest.parts;
    version_is = rest.version_is;
    reading = ap (λ o. after_entry n.id o (λ b. read_from sys (Some b) ns)) is ∙ rest.reading;
  }

  read-step : (found : Option Aggregate) (n : Notification) (ns : List Notification) (o : Option Aggregate) → advanced_by sys found (event_of sys n.event) ≡ o → ((a : Aggregate) → IsReadAs sys (Some a) ns (folded_from sys (Some a) (map event ns)))
      → IsReadAs sys found (n ∷ ns) (after_event n.event.originator_version o (λ a. folded_from sys (Some a) (map event ns)))
  read-step found n ns None is rest = record {
    before = [];
    entry = n;
    after = ns;
    parts = refl;
    version_is = refl;
    reading = ap (λ o. after_entry n.id o (λ b. read_from sys (Some b) ns)) is;
  }
  read-step found n ns (Some a) is rest = in-front found n ns a (folded_from sys (Some a) (map event ns)) is (rest a)

  read-as : (found : Option Aggregate) (ns : List Notification) → IsReadAs sys found ns (folded_from sys found (map event ns))
  read-as found [] = refl
  read-as found (n ∷ ns) = read-step found n ns (advanced_by sys found (event_of sys n.event)) refl (λ a. read-as (Some a) ns)

  -- what is read of an originator at a version, by what its events make
  pub read-of : (h : List Recording) (id : Id) (upto : Option ℕ) (f : Folded) → f ≡ folded_from sys None (events_upto h id upto) → IsReadAs sys None (notifications_upto (log h) id upto) f
  read-of h id upto f is =
      subst (IsReadAs sys None (notifications_upto (log h) id upto)) (ap (folded_from sys None) (events-upto id (log h) upto) ∙ sym is) (read-as None (notifications_upto (log h) id upto))

  pub stuck-reads : (h : List Recording) (id : Id) (upto : Option ℕ) (version : ℕ) (result : Result (Option Aggregate) FindFault) → IsFormed h → Stuck version ≡ folded_from sys None (events_upto h id upto)
      → ((n : ℕ) → notification_of (log h) id version ≡ Some n → Reads (unreadable n) result) → Reads (reading_at sys (log h) id upto) result
  stuck-reads h id upto version result formed is answers =
      let s = read-of h id upto (Stuck version) is in
      let all = part-of-all id (λ n. is_upto upto n.event.originator_version) s.entry s.after (notifications_of (log h) id) s.before s.parts in
      let place = place-of id h all.0 s.entry all.1 formed all.2 in
      subst (λ r. Reads r result) (sym s.reading) (answers s.entry.id (ap (notification_of (log h) id) (sym s.version_is) ∙ place))

-- ---- what is known of an aggregate that is made

made-below : (sys : System) (found : Option Aggregate) (s : StoredEvent) (b : Aggregate) → s.originator_version < 2 ^ 62 → IfSome found (IsBelow sys (2 ^ 62)) → HasItsFields sys b → advanced_by sys found (event_of sys s) ≡ Some b → IsBelow sys (2 ^ 62) b
made-below sys found s b small below fields is =
    let m = advanced-made sys found s b is in
    record {
      fields = fields;
      version = subst (λ v. v < 2 ^ 62) (sym (m.3.version_is ∙ m.2)) small;
      pending = m.3.pending ∙ none found below;
    }
  where
    none : (o : Option Aggregate) → IfSome o (IsBelow sys (2 ^ 62)) → new_events o ≡ []
    none None h = refl
    none (Some a) h = h.pending

pub after-below : (sys : System) (found now : Option Aggregate) (e : Option DomainEvent) (s : StoredEvent) → s.originator_version < 2 ^ 62 → IfSome found (IsBelow sys (2 ^ 62)) → IfSome now (HasItsFields sys) → e ≡ event_of sys s → now ≡ advanced_by sys found e
    → IfSome now (IsBelow sys (2 ^ 62))
after-below sys found None e s small below fields named is = tt
after-below sys found (Some b) e s small below fields named is = made-below sys found s b small below fields (ap (advanced_by sys found) (sym named) ∙ sym is)

-- ---- what is answered

whole-of : (sys : System) (h : List Recording) (id : Id) (upto : Option ℕ) (found : Option Aggregate) → Whole found ≡ folded_from sys None (events_upto h id upto) → IfSome found (λ a. a.id ≡ id)
whole-of sys h id upto None is = tt
whole-of sys h id upto (Some a) is = standing-at sys (log h) id upto a (read-of sys h id upto (Whole (Some a)) is)

-- an aggregate of the id is answered
pub whole-reads : (sys : System) (h : List Recording) (id : Id) (upto : Option ℕ) (found : Option Aggregate) (result : Result (Option Aggregate) FindFault) → (IfSome found (λ a. a.id ≡ id) → result ≡ Ok found) → Whole found ≡ folded_from sys None (events_upto h id upto)
    → Reads (reading_at sys (log h) id upto) result
whole-reads sys h id upto found result answers is =
    subst (Reads (reading_at sys (log h) id upto)) (sym (answers (whole-of sys h id upto found is))) (read-of sys h id upto (Whole found) is)

-- the same where the history is told
abbrev AnswersTold : System → Option (List Recording) → Id → Option ℕ → Folded → Result (Option Aggregate) FindFault → Type 0
AnswersTold sys history id upto f result = IfSome history (λ h. f ≡ folded_from sys None (events_upto h id upto) → Reads (reading_at sys (log h) id upto) result)

pub whole-told : (sys : System) (history : Option (List Recording)) (id : Id) (upto : Option ℕ) (f : Folded) (found : Option Aggregate) (result : Result (Option Aggregate) FindFault) → f ≡ Whole found → (IfSome found (λ a. a.id ≡ id) → result ≡ Ok found)
    → AnswersTold sys history id upto f result
whole-told sys None id upto f found result is answers = tt
whole-told sys (Some h) id upto f found result is answers = λ folds. whole-reads sys h id upto found result answers (sym is ∙ folds)

pub stuck-told : (sys : System) (history : Option (List Recording)) (id : Id) (upto : Option ℕ) (f : Folded) (version : ℕ) (result : Result (Option Aggregate) FindFault) → IfSome history IsFormed → f ≡ Stuck version
    → IfSome history (λ h. (n : ℕ) → notification_of (log h) id version ≡ Some n → Reads (unreadable n) result) → AnswersTold sys history id upto f result
stuck-told sys None id upto f version result formed is answers = tt
stuck-told sys (Some h) id upto f version result formed is answers = λ folds. stuck-reads sys h id upto version result formed (sym is ∙ folds) answers

-- what is selected and folded is read
pub selected-told : (sys : System) (history now : Option (List Recording)) (id : Id) (upto : Option ℕ) (es : List StoredEvent) (f : Folded) (result : Result (Option Aggregate) FindFault) → now ≡ history → IfSome history (λ h. es ≡ events_upto h id upto)
    → f ≡ folded_from sys None es → AnswersTold sys now id upto f result → IfSome history (λ h. Reads (reading_at sys (log h) id upto) result)
selected-told sys None now id upto es f result same are folds reads = tt
selected-told sys (Some h) now id upto es f result same are folds reads =
    subst (λ o. AnswersTold sys o id upto f result) same reads (folds ∙ ap (folded_from sys None) are)
