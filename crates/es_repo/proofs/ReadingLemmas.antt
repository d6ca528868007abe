-- What is read of a log is the one reading of its notifications.
use Rattle.std.proofs.Common.{◌≡◌, ◌∙◌, ℕ, List, [], ◌∷◌, ◌++◌, Option, None, Some, Result, Ok, Err, refl, sym, ap, subst, append-nil, append_assoc}
use Rattle.es_model.specs.declared.declaration.System.{System}
use Rattle.es_model.specs.declared.domain_event.DomainEvent.{DomainEvent}
use Rattle.es_model.specs.declared.event.Notification.{Notification}
use Rattle.es_mapper.specs.Mapping.{IsEvent}
use Rattle.es_mapper.specs.Mapped.{event_of}
use Rattle.es_mapper.proofs.MappedLemmas.{event-of, is-event}
use Rattle.es_domain.specs.Effect.{made}
use Rattle.es_domain.specs.Fold.{advanced, and_then, fold_from}
use Rattle.es_domain.specs.Readings.{AreEvents, FoldsTo, IsFirstUnreadable, Reading, folded, unreadable, IsReading}
use Rattle.es_domain.specs.declared.aggregate.Aggregate.{Aggregate}
use Rattle.es_domain.specs.declared.aggregate.ApplyFault.{ApplyFault}
use Rattle.es_repo.specs.Readings.{advanced_by, after_entry, read_from}

-- ---- events of notifications

module _ (sys : System) where
  are-push : (ns : List Notification) (es : List DomainEvent) (n : Notification) (e : DomainEvent) → AreEvents sys ns es → IsEvent sys n.event e → AreEvents sys (ns ++ n ∷ []) (es ++ e ∷ [])
  are-push [] [] n e are is = (is, tt)
  are-push [] (x ∷ es) n e are is = absurd are
  are-push (m ∷ ns) [] n e are is = absurd are
  are-push (m ∷ ns) (x ∷ es) n e are is = (are.0, are-push ns es n e are.1 is)

  -- the events of one notification more: those before, and one
  are-last : (ns : List Notification) (n : Notification) (es : List DomainEvent) → AreEvents sys (ns ++ n ∷ []) es → (before : List DomainEvent) × (e : DomainEvent) × AreEvents sys ns before × IsEvent sys n.event e × (es ≡ before ++ e ∷ [])
  are-last [] n [] are = absurd are
  are-last [] n (e ∷ []) are = ([], e, tt, are.0, refl)
  are-last [] n (e ∷ x ∷ es) are = absurd are.1
  are-last (m ∷ ns) n [] are = absurd are
  are-last (m ∷ ns) n (x ∷ es) are =
      let rest = are-last ns n es are.1 in
      (x ∷ rest.0, rest.1, (are.0, rest.2), rest.3, ap (λ ys. x ∷ ys) rest.4)

  -- ---- folds

  fold-step : (es : List DomainEvent) (now : Option Aggregate) (e : DomainEvent) (r : Result Aggregate ApplyFault) → ((a : Aggregate) → fold_from sys (Some a) es ≡ Ok now → fold_from sys (Some a) (es ++ e ∷ []) ≡ and_then (advanced sys now e) (λ b. Ok (Some b)))
      → and_then r (λ a. fold_from sys (Some a) es) ≡ Ok now → and_then r (λ a. fold_from sys (Some a) (es ++ e ∷ [])) ≡ and_then (advanced sys now e) (λ a. Ok (Some a))
  fold-step es now e (Ok a) rest h = rest a h
  fold-step es now e (Err f) rest h = absurd (cc h)

  fold-then : (found : Option Aggregate) (es : List DomainEvent) (now : Option Aggregate) (e : DomainEvent) → fold_from sys found es ≡ Ok now → fold_from sys found (es ++ e ∷ []) ≡ and_then (advanced sys now e) (λ a. Ok (Some a))
  fold-then found [] now e is = let same : found ≡ now = cc in ap (λ o. and_then (advanced sys o e) (λ a. Ok (Some a))) same
  fold-then found (x ∷ es) now e is = fold-step es now e (advanced sys found x) (λ a. fold-then (Some a) es now e) is

  read-step : (id : ℕ) (es : List DomainEvent) (now : Option Aggregate) (ns rest : List Notification) (r : Result Aggregate ApplyFault) → ((a : Aggregate) → fold_from sys (Some a) es ≡ Ok now → read_from sys (Some a) ns ≡ read_from sys now rest)
      → and_then r (λ a. fold_from sys (Some a) es) ≡ Ok now → after_entry id (made r) (λ a. read_from sys (Some a) ns) ≡ read_from sys now rest
  read-step id es now ns rest (Ok a) more h = more a h
  read-step id es now ns rest (Err f) more h = absurd (cc h)

  -- the events of notifications that fold are read to the same
  read-fold : (found : Option Aggregate) (ns : List Notification) (es : List DomainEvent) (now : Option Aggregate) (rest : List Notification) → AreEvents sys ns es → fold_from sys found es ≡ Ok now → read_from sys found (ns ++ rest) ≡ read_from sys now rest
  read-fold found [] [] now rest are is = let same : found ≡ now = cc in ap (λ o. read_from sys o rest) same
  read-fold found [] (e ∷ es) now rest are is = absurd are
  read-fold found (n ∷ ns) [] now rest are is = absurd are
  read-fold found (n ∷ ns) (e ∷ es) now rest are is =
      ap (λ o. after_entry n.id (advanced_by sys found o) (λ a. read_from sys (Some a) (ns ++ rest))) (event-of sys n.event e are.0)
      ∙ read-step n.id es now (ns ++ rest) rest (advanced sys found e) (λ a. read-fold (Some a) ns es now rest are.1) is

  -- ---- one entry more

  -- two lists of events of the same notifications are equal
  same-events : (ns : List Notification) (es fs : List DomainEvent) → AreEvents sys ns es → AreEvents sys ns fs → es ≡ fs
  same-events [] [] [] are so = refl
  same-events [] [] (f ∷ fs) are so = absurd so
  same-events [] (e ∷ es) fs are so = absurd are
  same-events (n ∷ ns) [] fs are so = absurd are
  same-events (n ∷ ns) (e ∷ es) [] are so = absurd so
  same-events (n ∷ ns) (e ∷ es) (f ∷ fs) are so =
      let both : Some e ≡ Some f = sym (event-of sys n.event e are.0) ∙ event-of sys n.event f so.0 in
      let first : e ≡ f = cc in
      let rest = same-events ns es fs are.1 so.1 in
      λ i. first i ∷ rest i

  -- an entry with a meaning makes an aggregate of what was there
  folds-push : (ns : List Notification) (found : Option Aggregate) (n : Notification) (a : Aggregate) → FoldsTo sys ns found → advanced_by sys found (event_of sys n.event) ≡ Some a → FoldsTo sys (ns ++ n ∷ []) (Some a)
  folds-push ns found n a folds is = by-event (event_of sys n.event) refl is
    where
      by-step : (e : DomainEvent) → IsEvent sys n.event e → (r : Result Aggregate ApplyFault) → advanced sys found e ≡ r → made r ≡ Some a → FoldsTo sys (ns ++ n ∷ []) (Some a)
      by-step e event (Ok b) steps h =
          let same : b ≡ a = cc in
          record {
            events = folds.events ++ e ∷ [];
            are = are-push ns folds.events n e folds.are event;
            folds = fold-then None folds.events found e folds.folds ∙ ap (λ (r : Result Aggregate ApplyFault). and_then r (λ (x : Aggregate). Ok (Some x))) (steps ∙ ap Ok same);
          }
      by-step e event (Err f) steps h = absurd (cc h)

      by-event : (o : Option DomainEvent) → event_of sys n.event ≡ o → advanced_by sys found o ≡ Some a → FoldsTo sys (ns ++ n ∷ []) (Some a)
      by-event None named h = absurd (cc h)
      by-event (Some e) named h = by-step e (is-event sys n.event e named) (advanced sys found e) refl h

  -- what folds with an entry more has made an aggregate by it
  folds-last : (ns : List Notification) (found now : Option Aggregate) (n : Notification) → FoldsTo sys ns found → FoldsTo sys (ns ++ n ∷ []) now → (a : Aggregate) × (advanced_by sys found (event_of sys n.event) ≡ Some a)
  folds-last ns found now n folds more =
      let parts = are-last ns n more.events more.are in
      let same : parts.0 ≡ folds.events = same-events ns parts.0 folds.events parts.2 folds.are in
      let before : fold_from sys None parts.0 ≡ Ok found = ap (fold_from sys None) same ∙ folds.folds in
      let last : and_then (advanced sys found parts.1) (λ a. Ok (Some a)) ≡ Ok now = sym (fold-then None parts.0 found parts.1 before) ∙ ap (fold_from sys None) (sym parts.4) ∙ more.folds in
      let made-one = step (advanced sys found parts.1) last in
      (made-one.0, ap (advanced_by sys found) (event-of sys n.event parts.1 parts.3) ∙ made-one.1)
    where
      step : (r : Result Aggregate ApplyFault) → and_then r (λ a. Ok (Some a)) ≡ Ok now → (a : Aggregate) × (made r ≡ Some a)
      step (Ok a) h = (a, refl)
      step (Err f) h = absurd (cc h)

  -- ---- the reading

  no-aggregate : (a : Aggregate) → None ≡ Some a → ⊥
  no-aggregate a h = cc

  reading-step : (before : List Notification) (found : Option Aggregate) (n : Notification) (ns : List Notification) (o : Option Aggregate) → FoldsTo sys before found → advanced_by sys found (event_of sys n.event) ≡ o
      → ((a : Aggregate) → FoldsTo sys (before ++ n ∷ []) (Some a) → IsReading sys ((before ++ n ∷ []) ++ ns) (read_from sys (Some a) ns))
      → IsReading sys (before ++ n ∷ ns) (after_entry n.id o (λ a. read_from sys (Some a) ns))
  reading-step before found n ns None folds is rest = record {
    before = before;
    entry = n;
    after = ns;
    parts = refl;
    is = refl;
    found = found;
    folds = folds;
    without_meaning = λ now more. let last = folds-last before found now n folds more in no-aggregate last.0 (sym is ∙ last.1);
  }
  reading-step before found n ns (Some a) folds is rest =
      subst (λ ms. IsReading sys ms (read_from sys (Some a) ns)) (append_assoc before (n ∷ []) ns) (rest a (folds-push before found n a folds is))

  reading-from : (before : List Notification) (found : Option Aggregate) (ns : List Notification) → FoldsTo sys before found → IsReading sys (before ++ ns) (read_from sys found ns)
  reading-from before found [] folds = subst (λ ms. FoldsTo sys ms found) (sym (append-nil before)) folds
  reading-from before found (n ∷ ns) folds =
      reading-step before found n ns (advanced_by sys found (event_of sys n.event)) folds refl (λ a. reading-from (before ++ n ∷ []) (Some a) ns)

  nothing-folds : FoldsTo sys [] None
  nothing-folds = record { events = []; are = tt; folds = refl }

  -- what is read is a reading
  pub reading-is : (ns : List Notification) → IsReading sys ns (read_from sys None ns)
  reading-is ns = reading-from [] None ns nothing-folds

  read-folded : (ns : List Notification) (found : Option Aggregate) → FoldsTo sys ns found → read_from sys None ns ≡ folded found
  read-folded ns found folds = ap (read_from sys None) (sym (append-nil ns)) ∙ read-fold None ns folds.events found [] folds.are folds.folds

  read-unreadable : (ns : List Notification) (id : ℕ) → IsFirstUnreadable sys ns id → read_from sys None ns ≡ unreadable id
  read-unreadable ns id is =
      ap (read_from sys None) is.parts
      ∙ read-fold None is.before is.folds.events is.found (is.entry ∷ is.after) is.folds.are is.folds.folds
      ∙ by-step (advanced_by sys is.found (event_of sys is.entry.event)) refl
    where
      by-step : (o : Option Aggregate) → advanced_by sys is.found (event_of sys is.entry.event) ≡ o → after_entry is.entry.id o (λ a. read_from sys (Some a) is.after) ≡ unreadable id
      by-step None h = ap unreadable is.is
      by-step (Some a) h = absurd (is.without_meaning (Some a) (folds-push is.before is.found is.entry a is.folds h))

  -- and it is the only one
  pub only-reading : (ns : List Notification) (r : Reading) → IsReading sys ns r → r ≡ read_from sys None ns
  only-reading ns (folded found) is = sym (read-folded ns found is)
  only-reading ns (unreadable id) is = sym (read-unreadable ns id is)
