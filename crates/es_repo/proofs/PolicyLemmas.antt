-- A policy that is decided over the new events of the earlier rules is the one over the readings that they changed.
use Rattle.std.proofs.Common.{ℤ, ℕ, ◌≡◌, ◌∙◌, ◌+◌, Bool, true, false, List, [], ◌∷◌, ◌++◌, Option, None, Some, Result, Ok, Err, length, refl, sym, ap, subst, arith, if◌then◌else◌, append-nil, append_assoc}
use Rattle.std.specs.Prelude.{filter}
use Rattle.std.specs.Str.{bytes_eq}
use Rattle.std.proofs.lemmas.Slice.Eq.{bytes_eq-Decides}
use Rattle.es_model.specs.Declaration.{app_named}
use Rattle.es_model.specs.History.{latest}
use Rattle.es_model.specs.Values.{Name, Id}
use Rattle.es_model.specs.declared.declaration.Rule.{Rule}
use Rattle.es_model.specs.declared.declaration.System.{System}
use Rattle.es_model.specs.declared.domain_event.DomainEvent.{DomainEvent}
use Rattle.es_model.specs.declared.event.StoredEvent.{StoredEvent}
use Rattle.es_domain.specs.Decision.{Decided, Notice, joined, policy_decision, rules_from, rules_of}
use Rattle.es_domain.specs.Effect.{made}
use Rattle.es_domain.specs.Fold.{advanced, and_then, fold_from}
use Rattle.es_domain.specs.Readings.{Reading, Readings, folded, unreadable}
use Rattle.es_domain.specs.Steps.{collected}
use Rattle.es_domain.specs.declared.aggregate.Aggregate.{Aggregate}
use Rattle.es_domain.specs.declared.aggregate.ApplyFault.{ApplyFault}
use Rattle.es_domain.specs.declared.command.Decision.TheVariants as decision
use Rattle.es_domain.proofs.NextLemmas.{StandsAs}
use Rattle.es_domain.proofs.RefoldLemmas.{AreOf, AreIdle, IsChange, IsStop, Follows, by-rule, change-idle}
use Rattle.es_repo.specs.Policies.{placed_from, new_of, read_new, then_read, readings_with, after_rule, rules_by, policy_by}
use Rattle.es_repo.specs.Readings.{after_entry, readings_of}
use Rattle.es_repo.proofs.StandingLemmas.{standing}

-- ---- lists of new events

placed-append : (first : ℕ) (xs ys : List DomainEvent) → placed_from first (xs ++ ys) ≡ placed_from first xs ++ placed_from (first + length xs) ys
placed-append first [] ys = let zero-more : first ≡ first + 0 = omega arith in ap (λ n. placed_from n ys) zero-more
placed-append first (x ∷ xs) ys =
    let longer : first + 1 + length xs ≡ first + length (x ∷ xs) = omega arith in
    ap (λ (ns : List (ℕ × DomainEvent)). (first, x) ∷ ns) (placed-append (first + 1) xs ys ∙ ap (λ n. placed_from (first + 1) xs ++ placed_from n ys) longer)

abbrev is_own : Id → ℕ × DomainEvent → Bool
is_own id n = bytes_eq n.1.originator_id id

own-step : (id : Id) (n : ℕ × DomainEvent) (ns ms : List (ℕ × DomainEvent)) (b : Bool) → is_own id n ≡ b → filter (is_own id) (ns ++ ms) ≡ filter (is_own id) ns ++ filter (is_own id) ms
    → filter (is_own id) (n ∷ ns ++ ms) ≡ filter (is_own id) (n ∷ ns) ++ filter (is_own id) ms
own-step id n ns ms true is rest = rw is (ap (λ (xs : List (ℕ × DomainEvent)). n ∷ xs) rest)
own-step id n ns ms false is rest = rw is rest

own-append : (id : Id) (ns ms : List (ℕ × DomainEvent)) → filter (is_own id) (ns ++ ms) ≡ filter (is_own id) ns ++ filter (is_own id) ms
own-append id [] ms = refl
own-append id (n ∷ ns) ms = own-step id n ns ms (is_own id n) refl (own-append id ns ms)

of-append : (first : ℕ) (xs ys : List DomainEvent) (id : Id) → new_of first (xs ++ ys) id ≡ new_of first xs id ++ new_of (first + length xs) ys id
of-append first xs ys id = ap (filter (is_own id)) (placed-append first xs ys) ∙ own-append id (placed_from first xs) (placed_from (first + length xs) ys)

-- events of an originator are all its own, and none is another's
own-all : (first : ℕ) (es : List DomainEvent) (id : Id) → AreOf id es → new_of first es id ≡ placed_from first es
own-all first [] id are = refl
own-all first (e ∷ es) id are =
    let own : bytes_eq e.originator_id id ≡ true = (bytes_eq-Decides e.originator_id id).1 are.0 in
    rw own (ap (λ (ns : List (ℕ × DomainEvent)). (first, e) ∷ ns) (own-all (first + 1) es id are.1))

own-none : (first : ℕ) (es : List DomainEvent) (id other : Id) → AreOf id es → bytes_eq id other ≡ false → new_of first es other ≡ []
own-none first [] id other are away = refl
own-none first (e ∷ es) id other are away =
    let not-own : bytes_eq e.originator_id other ≡ false = ap (λ x. bytes_eq x other) are.0 ∙ away in
    rw not-own (own-none (first + 1) es id other are.1 away)

module _ (sys : System) where
  -- ---- reading on

  new-append : (found : Option Aggregate) (ns ms : List (ℕ × DomainEvent)) → read_new sys found (ns ++ ms) ≡ then_read (read_new sys found ns) (λ f. read_new sys f ms)
  new-append found [] ms = refl
  new-append found (n ∷ ns) ms = by-step (made (advanced sys found n.1)) (λ a. new-append (Some a) ns ms)
    where
      by-step : (o : Option Aggregate) → ((a : Aggregate) → read_new sys (Some a) (ns ++ ms) ≡ then_read (read_new sys (Some a) ns) (λ f. read_new sys f ms))
          → after_entry n.0 o (λ a. read_new sys (Some a) (ns ++ ms)) ≡ then_read (after_entry n.0 o (λ a. read_new sys (Some a) ns)) (λ f. read_new sys f ms)
      by-step None rest = refl
      by-step (Some a) rest = rest a

  then-append : (r : Reading) (ns ms : List (ℕ × DomainEvent)) → then_read r (λ f. read_new sys f (ns ++ ms)) ≡ then_read (then_read r (λ f. read_new sys f ns)) (λ f. read_new sys f ms)
  then-append (folded found) ns ms = new-append found ns ms
  then-append (unreadable id) ns ms = refl

  then-none : (r : Reading) → then_read r (λ f. read_new sys f []) ≡ r
  then-none (folded found) = refl
  then-none (unreadable id) = refl

  -- new events that fold are read to the same
  fold-read : (first : ℕ) (found now : Option Aggregate) (es : List DomainEvent) → fold_from sys found es ≡ Ok now → read_new sys found (placed_from first es) ≡ folded now
  fold-read first found now [] is = let same : found ≡ now = cc in ap folded same
  fold-read first found now (e ∷ es) is = by-step (advanced sys found e) (λ a. fold-read (first + 1) (Some a) now es) is
    where
      by-step : (r : Result Aggregate ApplyFault) → ((a : Aggregate) → fold_from sys (Some a) es ≡ Ok now → read_new sys (Some a) (placed_from (first + 1) es) ≡ folded now)
          → and_then r (λ a. fold_from sys (Some a) es) ≡ Ok now → after_entry first (made r) (λ a. read_new sys (Some a) (placed_from (first + 1) es)) ≡ folded now
      by-step (Ok a) rest h = rest a h
      by-step (Err f) rest h = absurd (cc h)

  module _ (events : List StoredEvent) where
    abbrev read : List DomainEvent → Readings
    read new = readings_with sys events new

    read-more : (new more : List DomainEvent) (id : Id) → read (new ++ more) id ≡ then_read (read new id) (λ f. read_new sys f (new_of (length events + 1 + length new) more id))
    read-more new more id =
        ap (λ ns. then_read (readings_of sys events id) (λ f. read_new sys f ns)) (of-append (length events + 1) new more id)
        ∙ then-append (readings_of sys events id) (new_of (length events + 1) new id) (new_of (length events + 1 + length new) more id)

    -- what is read after the new events of an aggregate is what they make of it
    module _ (new more : List DomainEvent) (now : Readings) (c : IsChange sys (read new) more now) where
      abbrev place : ℕ
      place = length events + 1 + length new

      changed-own : (id : Id) → c.id ≡ id → then_read (read new id) (λ f. read_new sys f (new_of place more id)) ≡ folded (Some (collected c.aggregate))
      changed-own id is =
          ap (λ r. then_read r (λ f. read_new sys f (new_of place more id))) (ap (read new) (sym is) ∙ c.read)
          ∙ ap (read_new sys c.found) (own-all place more id (subst (λ i. AreOf i more) is c.of))
          ∙ fold-read place c.found (Some (collected c.aggregate)) more c.folds

      changed-other : (id : Id) → bytes_eq c.id id ≡ false → then_read (read new id) (λ f. read_new sys f (new_of place more id)) ≡ read new id
      changed-other id away = ap (λ ns. then_read (read new id) (λ f. read_new sys f ns)) (own-none place more c.id id c.of away) ∙ then-none (read new id)

      changed-at : (id : Id) (b : Bool) → bytes_eq c.aggregate.id id ≡ b → then_read (read new id) (λ f. read_new sys f (new_of place more id)) ≡ (if b then folded (Some (collected c.aggregate)) else read new id)
      changed-at id true same = changed-own id (sym c.id_is ∙ (bytes_eq-Decides c.aggregate.id id).0 same)
      changed-at id false away = changed-other id (ap (λ i. bytes_eq i id) (sym c.id_is) ∙ away)

      changed-read : read (new ++ more) ≡ now
      changed-read = (λ i id. (read-more new more id ∙ changed-at id (bytes_eq c.aggregate.id id) refl) i) ∙ sym c.now_is

    -- ---- the rules

    joined-none : (d : Decided) → joined [] d ≡ d
    joined-none (Ok (decision.Events es)) = refl
    joined-none (Ok (decision.Refused code rule)) = refl
    joined-none (Err fault) = refl

    joined-twice : (es more : List DomainEvent) (d : Decided) → joined es (joined more d) ≡ joined (es ++ more) d
    joined-twice es more (Ok (decision.Events last)) = ap (λ xs. Ok (decision.Events xs)) (sym (append_assoc es more last))
    joined-twice es more (Ok (decision.Refused code rule)) = refl
    joined-twice es more (Err fault) = refl

    stopped : (new : List DomainEvent) (d : Decided) (rest : List DomainEvent → Decided) → IsStop d → after_rule new d rest ≡ joined new d
    stopped new (Ok (decision.Events es)) rest stop = absurd stop
    stopped new (Ok (decision.Refused code rule)) rest stop = refl
    stopped new (Err fault) rest stop = refl

    -- the rest of a decision over the new events is that over the readings that they changed
    abbrev AreSame : (List DomainEvent → Decided) → (Readings → Decided) → Type 0
    AreSame by from = (new : List DomainEvent) → AreIdle (read new) → by new ≡ joined new (from (read new))

    rule-same : (new : List DomainEvent) (by : List DomainEvent → Decided) (from : Readings → Decided) (alone whole : Decided) → AreSame by from → AreIdle (read new)
        → Follows sys (after_rule new alone by ≡ joined new whole) (read new) from alone whole
    rule-same new by from alone whole same idle = record {
      goes = λ is all. ap (λ d. after_rule new d by) is ∙ ap by (append-nil new) ∙ same new idle ∙ ap (joined new) (sym all);
      changes = λ more now is change all.
          let reads : read (new ++ more) ≡ now = changed-read new more now change in
          ap (λ d. after_rule new d by) is
          ∙ same (new ++ more) (subst AreIdle (sym reads) (change-idle sys (read new) more now idle change))
          ∙ ap (λ r. joined (new ++ more) (from r)) reads
          ∙ sym (joined-twice new more (from now))
          ∙ ap (joined new) (sym all);
      stops = λ d stop is all. ap (λ x. after_rule new x by) is ∙ stopped new d by stop ∙ ap (joined new) (sym all);
    }

    rules-same : (n : Notice) (at : ℤ) (rule : ℕ) (rules : List Rule) → AreSame (rules_by sys n at read rule rules) (rules_from sys n at rule rules)
    rules-same n at rule [] = λ new idle. ap (λ es. Ok (decision.Events es)) (sym (append-nil new))
    rules-same n at rule (r ∷ rules) = λ new idle.
        let alone = rules_from sys n at rule (r ∷ []) (read new) in
        let whole = rules_from sys n at rule (r ∷ rules) (read new) in
        by-rule sys (after_rule new alone (rules_by sys n at read (rule + 1) rules) ≡ joined new whole) n at rule r rules (read new) idle
        (rule-same new (rules_by sys n at read (rule + 1) rules) (rules_from sys n at (rule + 1) rules) alone whole (rules-same n at (rule + 1) rules) idle)

    -- before any rule
    first-read : read [] ≡ readings_of sys events
    first-read = λ i id. then-none (readings_of sys events id) i

    first-idle : AreIdle (readings_of sys events)
    first-idle = λ id a is. let stands : StandsAs id (latest events id) a = standing sys events id (Some a) is in (stands.id_is, stands.pending)

    -- what a policy decides over the new events of the earlier rules is what it decides over the readings that they changed
    pub policy-over : (app : Name) (n : Notice) (at : ℤ) → policy_by sys app n at read ≡ policy_decision sys app n at (readings_of sys events)
    policy-over app n at =
        rules-same n at 1 (rules_of (app_named sys.apps app)) [] (subst AreIdle (sym first-read) first-idle)
        ∙ joined-none (rules_from sys n at 1 (rules_of (app_named sys.apps app)) (read []))
        ∙ ap (rules_from sys n at 1 (rules_of (app_named sys.apps app))) first-read
