-- Where the events that its rules give are read back as they are stored, a policy decides the same over the stored ones.
use Rattle.std.proofs.Common.{ℤ, ℕ, ◌≡◌, ◌∙◌, ◌+◌, Bool, true, false, List, [], ◌∷◌, ◌++◌, map, Option, None, Some, Ok, Err, IfOk, length, refl, sym, ap, subst, arith, append-nil, append_assoc}
use Rattle.std.specs.Prelude.{All}
use Rattle.std.specs.Str.{bytes_eq}
use Rattle.std.proofs.lemmas.List.Elements.{All-nil, All-cons, All-head, All-tail, All-append}
use Rattle.es_model.specs.Declaration.{app_named}
use Rattle.es_model.specs.Values.{Name, Id}
use Rattle.es_model.specs.declared.declaration.Rule.{Rule}
use Rattle.es_model.specs.declared.declaration.System.{System}
use Rattle.es_model.specs.declared.domain_event.DomainEvent.{DomainEvent}
use Rattle.es_model.specs.declared.event.Notification.{Notification}
use Rattle.es_model.specs.declared.event.StoredEvent.{StoredEvent}
use Rattle.es_mapper.specs.Mapped.{event_of}
use Rattle.es_mapper.specs.Mapping.{stored}
use Rattle.es_domain.specs.Decision.{Decided, Notice, rules_from, rules_of}
use Rattle.es_domain.specs.Effect.{made}
use Rattle.es_domain.specs.Fold.{advanced}
use Rattle.es_domain.specs.Readings.{Reading}
use Rattle.es_domain.specs.declared.aggregate.Aggregate.{Aggregate}
use Rattle.es_domain.specs.declared.command.Decision.TheVariants as decision
use Rattle.es_domain.specs.declared.find.FindFault.TheVariants.{Unreadable, Failed, NoMemory}
use Rattle.es_repo.specs.Policies.{new_of, read_new, then_read, readings_with, readings_behind, after_rule, rules_by, policy_by}
use Rattle.es_repo.specs.Readings.{notifications_of, advanced_by, after_entry, read_from, readings_of}
use Rattle.es_repo.specs.Verdicts.{verdict_of, AcceptsAs}
use Rattle.es_repo.specs.declared.verdict.Verdict.{Verdict}
use Rattle.es_repo.specs.inner.Stored.{IsReadBack, AreReadBack}
use Rattle.es_repo.proofs.LogLemmas.{entries}

-- ---- the notifications of a longer log

module _ (id : Id) where
  entries-step : (b : Bool) (first : ℕ) (e : StoredEvent) (xs ys : List StoredEvent) → bytes_eq e.originator_id id ≡ b → entries id (first + 1) (xs ++ ys) ≡ entries id (first + 1) xs ++ entries id (first + length (e ∷ xs)) ys
      → entries id first (e ∷ xs ++ ys) ≡ entries id first (e ∷ xs) ++ entries id (first + length (e ∷ xs)) ys
  entries-step true first e xs ys is rest = rw is (ap (λ (ns : List Notification). record { id = first; event = e } ∷ ns) rest)
  entries-step false first e xs ys is rest = rw is rest

  entries-append : (first : ℕ) (xs ys : List StoredEvent) → entries id first (xs ++ ys) ≡ entries id first xs ++ entries id (first + length xs) ys
  entries-append first [] ys = let zero-more : first ≡ first + 0 = omega arith in ap (λ n. entries id n ys) zero-more
  entries-append first (x ∷ xs) ys =
      let longer : first + 1 + length xs ≡ first + length (x ∷ xs) = omega arith in
      entries-step (bytes_eq x.originator_id id) first x xs ys refl (entries-append (first + 1) xs ys ∙ ap (λ n. entries id (first + 1) xs ++ entries id n ys) longer)

module _ (sys : System) where
  from-append : (found : Option Aggregate) (ns ms : List Notification) → read_from sys found (ns ++ ms) ≡ then_read (read_from sys found ns) (λ f. read_from sys f ms)
  from-append found [] ms = refl
  from-append found (n ∷ ns) ms = by-step (advanced_by sys found (event_of sys n.event)) (λ a. from-append (Some a) ns ms)
    where
      by-step : (o : Option Aggregate) → ((a : Aggregate) → read_from sys (Some a) (ns ++ ms) ≡ then_read (read_from sys (Some a) ns) (λ f. read_from sys f ms))
          → after_entry n.id o (λ a. read_from sys (Some a) (ns ++ ms)) ≡ then_read (after_entry n.id o (λ a. read_from sys (Some a) ns)) (λ f. read_from sys f ms)
      by-step None rest = refl
      by-step (Some a) rest = rest a

  -- ---- stored events that are read back

  module _ (id : Id) where
    back-step : (b : Bool) (first : ℕ) (found : Option Aggregate) (e : DomainEvent) (es : List DomainEvent) → bytes_eq e.originator_id id ≡ b → IsReadBack sys e
        → ((f : Option Aggregate) → read_from sys f (entries id (first + 1) (map (stored sys) es)) ≡ read_new sys f (new_of (first + 1) es id))
        → read_from sys found (entries id first (map (stored sys) (e ∷ es))) ≡ read_new sys found (new_of first (e ∷ es) id)
    back-step true first found e es own back rest =
        rw own (ap (λ o. after_entry first (advanced_by sys found o) (λ a. read_from sys (Some a) (entries id (first + 1) (map (stored sys) es)))) back
        ∙ ap (λ (f : Aggregate → Reading). after_entry first (made (advanced sys found e)) f) (λ i a. rest (Some a) i))
    back-step false first found e es other back rest = rw other (rest found)

    back-read : (first : ℕ) (found : Option Aggregate) (es : List DomainEvent) → All (IsReadBack sys) es → read_from sys found (entries id first (map (stored sys) es)) ≡ read_new sys found (new_of first es id)
    back-read first found [] back = refl
    back-read first found (e ∷ es) back =
        back-step (bytes_eq e.originator_id id) first found e es refl (All-head (IsReadBack sys) e es back) (λ f. back-read (first + 1) f es (All-tail (IsReadBack sys) e es back))

  module _ (events : List StoredEvent) where
    behind-at : (new : List DomainEvent) → All (IsReadBack sys) new → (id : Id) → readings_behind sys events new id ≡ readings_with sys events new id
    behind-at new back id =
        let place : 1 + length events ≡ length events + 1 = omega arith in
        ap (read_from sys None) (entries-append id 1 events (map (stored sys) new))
        ∙ from-append None (notifications_of events id) (entries id (1 + length events) (map (stored sys) new))
        ∙ ap (λ n. then_read (readings_of sys events id) (λ f. read_from sys f (entries id n (map (stored sys) new)))) place
        ∙ ap (then_read (readings_of sys events id)) (λ i f. back-read id (length events + 1) f new back i)

    -- new events that are read back are read as they are
    behind : (new : List DomainEvent) → All (IsReadBack sys) new → readings_behind sys events new ≡ readings_with sys events new
    behind new back = λ i id. behind-at new back id i

    -- ---- the rules

    -- the events of the rules before stand first
    abbrev Begins : List DomainEvent → List DomainEvent → Type 0
    Begins new es = (more : List DomainEvent) × (es ≡ new ++ more)

    begins-more : (new more es : List DomainEvent) → Begins (new ++ more) es → Begins new es
    begins-more new more es b = (more ++ b.0, b.1 ∙ append_assoc new more b.0)

    rule-begins : (new es : List DomainEvent) (d : Decided) (rest : List DomainEvent → Decided) → ((xs : List DomainEvent) → rest xs ≡ Ok (decision.Events es) → Begins xs es) → after_rule new d rest ≡ Ok (decision.Events es) → Begins new es
    rule-begins new es (Ok (decision.Events more)) rest begins is = begins-more new more es (begins (new ++ more) is)
    rule-begins new es (Ok (decision.Refused code rule)) rest begins is = absurd (cc is)
    rule-begins new es (Err fault) rest begins is = absurd (cc is)

    first-back : (xs ys : List DomainEvent) → All (IsReadBack sys) (xs ++ ys) → All (IsReadBack sys) xs
    first-back [] ys back = All-nil (IsReadBack sys)
    first-back (x ∷ xs) ys back = All-cons (IsReadBack sys) x xs (All-head (IsReadBack sys) x (xs ++ ys) back) (first-back xs ys (All-tail (IsReadBack sys) x (xs ++ ys) back))

    last-back : (xs ys : List DomainEvent) → All (IsReadBack sys) (xs ++ ys) → All (IsReadBack sys) ys
    last-back [] ys back = back
    last-back (x ∷ xs) ys back = last-back xs ys (All-tail (IsReadBack sys) x (xs ++ ys) back)

    -- the events of a rule are read back as they are stored, and those of the rules after it
    abbrev pub IsBackThen : List DomainEvent → Decided → (List DomainEvent → Type 0) → Type 0
    IsBackThen new (Ok (decision.Events more)) rest = All (IsReadBack sys) more × rest (new ++ more)
    IsBackThen new (Ok (decision.Refused code rule)) rest = Unit {0}
    IsBackThen new (Err fault) rest = Unit {0}

    module _ (n : Notice) (at : ℤ) where
      -- all events that some rules give, whatever the policy decides in the end, are read back as they are stored
      abbrev pub GiveBack : ℕ → List Rule → List DomainEvent → Type 0
      GiveBack rule [] new = Unit {0}
      GiveBack rule (r ∷ rules) new = IsBackThen new (rules_from sys n at rule (r ∷ []) (readings_with sys events new)) (GiveBack (rule + 1) rules)

      rule-stored : (new : List DomainEvent) (d : Decided) (give : List DomainEvent → Type 0) (by stored_by : List DomainEvent → Decided) → All (IsReadBack sys) new → ((xs : List DomainEvent) → All (IsReadBack sys) xs → give xs → stored_by xs ≡ by xs)
          → IsBackThen new d give → after_rule new d stored_by ≡ after_rule new d by
      rule-stored new (Ok (decision.Events more)) give by stored_by back rest gives = rest (new ++ more) (All-append (IsReadBack sys) new more back gives.0) gives.1
      rule-stored new (Ok (decision.Refused code rule)) give by stored_by back rest gives = refl
      rule-stored new (Err fault) give by stored_by back rest gives = refl

      rules-stored : (rule : ℕ) (rules : List Rule) (new : List DomainEvent) → All (IsReadBack sys) new → GiveBack rule rules new → rules_by sys n at (readings_behind sys events) rule rules new ≡ rules_by sys n at (readings_with sys events) rule rules new
      rules-stored rule [] new back gives = refl
      rules-stored rule (r ∷ rules) new back gives =
          let rest = rules_by sys n at (readings_behind sys events) (rule + 1) rules in
          ap (λ readings. after_rule new (rules_from sys n at rule (r ∷ []) readings) rest) (behind new back)
          ∙ rule-stored new (rules_from sys n at rule (r ∷ []) (readings_with sys events new)) (GiveBack (rule + 1) rules) (rules_by sys n at (readings_with sys events) (rule + 1) rules) rest back (λ xs all. rules-stored (rule + 1) rules xs all) gives

      -- ---- rules that give events in the end

      rules-begin : (rule : ℕ) (rules : List Rule) (new es : List DomainEvent) → rules_by sys n at (readings_with sys events) rule rules new ≡ Ok (decision.Events es) → Begins new es
      rules-begin rule [] new es is = let same : es ≡ new = cc in ([], same ∙ sym (append-nil new))
      rules-begin rule (r ∷ rules) new es is =
          rule-begins new es (rules_from sys n at rule (r ∷ []) (readings_with sys events new)) (rules_by sys n at (readings_with sys events) (rule + 1) rules) (λ xs more. rules-begin (rule + 1) rules xs es more) is

      rule-gives : (new es : List DomainEvent) (d : Decided) (give : List DomainEvent → Type 0) (by : List DomainEvent → Decided) → All (IsReadBack sys) es → ((xs : List DomainEvent) → by xs ≡ Ok (decision.Events es) → Begins xs es × give xs)
          → after_rule new d by ≡ Ok (decision.Events es) → IsBackThen new d give
      rule-gives new es (Ok (decision.Events more)) give by back rest is =
          let r = rest (new ++ more) is in
          (last-back new more (first-back (new ++ more) r.0.0 (subst (All (IsReadBack sys)) r.0.1 back)), r.1)
      rule-gives new es (Ok (decision.Refused code rule)) give by back rest is = tt
      rule-gives new es (Err fault) give by back rest is = tt

      rules-give : (rule : ℕ) (rules : List Rule) (new es : List DomainEvent) → All (IsReadBack sys) es → rules_by sys n at (readings_with sys events) rule rules new ≡ Ok (decision.Events es) → GiveBack rule rules new
      rules-give rule [] new es back is = tt
      rules-give rule (r ∷ rules) new es back is =
          rule-gives new es (rules_from sys n at rule (r ∷ []) (readings_with sys events new)) (GiveBack (rule + 1) rules) (rules_by sys n at (readings_with sys events) (rule + 1) rules) back
          (λ xs more. (rules-begin (rule + 1) rules xs es more, rules-give (rule + 1) rules xs es back more)) is

    -- where all that the rules give is read back as it is stored, a policy decides the same over the stored events, whatever it decides
    pub policy-stored : (app : Name) (n : Notice) (at : ℤ) → GiveBack n at 1 (rules_of (app_named sys.apps app)) [] → policy_by sys app n at (readings_behind sys events) ≡ policy_by sys app n at (readings_with sys events)
    policy-stored app n at gives = rules-stored n at 1 (rules_of (app_named sys.apps app)) [] (All-nil (IsReadBack sys)) gives

    -- that is so where it gives events in the end, all of which are read back
    policy-back : (app : Name) (n : Notice) (at : ℤ) (es : List DomainEvent) → All (IsReadBack sys) es → policy_by sys app n at (readings_with sys events) ≡ Ok (decision.Events es)
        → policy_by sys app n at (readings_behind sys events) ≡ Ok (decision.Events es)
    policy-back app n at es back is = policy-stored app n at (rules-give n at 1 (rules_of (app_named sys.apps app)) [] es back is) ∙ is

-- ---- verdicts

module _ (sys : System) (events : List StoredEvent) (app : Name) (n : Notice) (at : ℤ) where
  abbrev wanted : Decided
  wanted = policy_by sys app n at (readings_behind sys events)

  -- a verdict whose events are read back as they are stored is that over the stored ones
  pub accepts : (v : Verdict) (d : Decided) → policy_by sys app n at (readings_with sys events) ≡ d → v ≡ verdict_of sys d → IfOk d (AreReadBack sys) → AcceptsAs (verdict_of sys wanted) v
  accepts v (Ok (decision.Events es)) given is back =
      let same : wanted ≡ Ok (decision.Events es) = policy-back sys events app n at es back given in
      subst (AcceptsAs (verdict_of sys wanted)) (sym is) (ap (verdict_of sys) same)
  accepts v (Ok (decision.Refused code rule)) given is back = subst (AcceptsAs (verdict_of sys wanted)) (sym is) tt
  accepts v (Err (Unreadable id)) given is back = subst (AcceptsAs (verdict_of sys wanted)) (sym is) tt
  accepts v (Err Failed) given is back = subst (AcceptsAs (verdict_of sys wanted)) (sym is) tt
  accepts v (Err NoMemory) given is back = subst (AcceptsAs (verdict_of sys wanted)) (sym is) tt
