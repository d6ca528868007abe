-- What a step of a declared system answers leaves a world that the step makes.
use Rattle.std.proofs.Common.{◌≡◌, ◌<◌, ◌≤◌, inl, inr, ℕ, ℤ, zero, suc, ◌+◌, ◌-◌, ◌==◌, nat_le, nat_lt, Bool, true, false, not, ◌&&◌, List, [], ◌∷◌, length, slice_get, Contains, if◌then◌else◌, Option, Some, None, IfSome, refl, sym, ap, ◌∙◌, subst, arith, leb-true, leb-false, ltb-true, ltb-false, eqb-true, eq-eqb, le-leb}
use Rattle.std.specs.List.{list_any}
use Rattle.std.specs.Str.{bytes_eq}
use Rattle.std.proofs.lemmas.Bool.{and_from, and_parts, or_cases, or_left, or_right}
use Rattle.es_model.specs.declared.declaration.System.{System}
use Rattle.es_model.specs.declared.domain_event.DomainEvent.{DomainEvent}
use Rattle.es_model.specs.declared.event.Cause.{Cause}
use Rattle.es_model.specs.declared.event.Cause.TheVariants.{Command, Notification}
use Rattle.es_model.specs.declared.event.Recording.{Recording}
use Rattle.es_model.specs.declared.event.StoredEvent.{StoredEvent}
use Rattle.es_model.specs.History.{log, latest}
use Rattle.es_model.specs.Tracking.{tracked_in}
use Rattle.es_model.specs.Values.{Name, Id}
use Rattle.es_mapper.specs.Mapped.{event_of}
use Rattle.es_decl.specs.Pairs.{pairs_of, is_pair}
use Rattle.es_domain.specs.Decision.{notice}
use Rattle.es_domain.specs.declared.command.Command.{Command as CommandOf}
use Rattle.es_repo.specs.Verdicts.{command_verdict, policy_verdict}
use Rattle.es_repo.specs.declared.verdict.Verdict.{Verdict}
use Rattle.es_repo.specs.declared.verdict.Verdict.TheVariants as verdict
use Rattle.es_lines.specs.CommandText.{command_text}
use Rattle.es_lines.specs.Requests.{Asked, asks, refused as not_asked, request_in}
use Rattle.es_lines.specs.declared.request.Request.TheVariants.{Do, Get, Log, Tracking, Snapshot, Sync, Stop as StopAsked}
use Rattle.es_process.specs.Answer.{differs}
use Rattle.es_process.specs.Decision.{events, refused, unreadable, logs_of}
use Rattle.es_process.specs.Follows.{IsAsked, IsNotified, MayCome}
use Rattle.es_process.specs.SystemRules.{rules_of, decision_of, decide_asked, decide_event, decide_entry, decide_cause}
use Rattle.es_process.proofs.AmongLemmas.{same-name, is-same, contains-here, contains-later, contains-cases, contains-none}
use Rattle.es_world.specs.Answers.{Outcome, adds, only, decided, commanded, asked, lined, followed_event, followed, come_to, is_led, delivered, made, made_by}
use Rattle.es_world.specs.Laws.{AnswerLaw, RunLaw}
use Rattle.es_world.specs.World.{World, AreUp, Adds, Makes}
use Rattle.es_world.specs.declared.steps.StepAnswer.TheVariants as answer
use Rattle.es_world.specs.declared.steps.WorldStep.TheVariants.{Line, Deliver, Stop}

module _ (sys : System) (w : World) (app : Name) (cause : Cause) (at : ℤ) where
  -- an outcome tells what the cause adds
  abbrev Tells : Outcome → Type 0
  Tells (adds r) = Adds (rules_of sys) w app cause at r
  Tells (only a) = (r : Recording) → Adds (rules_of sys) w app cause at r → ⊥

  told : (sure : Bool) (o : Outcome) → Tells o → Makes (rules_of sys) w app cause at sure (made_by w app sure o).left
  told sure (adds r) so = inl (r, so, refl)
  told sure (only a) so = inr (so, refl)

  -- what may come of a recording that is added
  caused : (r : Recording) → Adds (rules_of sys) w app cause at r → MayCome (rules_of sys) app (w.histories app) (logs_of w.histories) cause
  caused r so = subst (MayCome (rules_of sys) app (w.histories app) (logs_of w.histories)) so.caused so.next.cause

  decides : (r : Recording) → Adds (rules_of sys) w app cause at r → decide_cause sys app (w.histories app) (logs_of w.histories) cause at ≡ events r.events
  decides r so = (λ i. decide_cause sys app (w.histories app) (logs_of w.histories) (sym so.caused i) (sym so.moment i)) ∙ so.next.decided

  -- a verdict that is decided is told
  tells_decided : (v : Verdict) → AreUp w app cause → MayCome (rules_of sys) app (w.histories app) (logs_of w.histories) cause
      → decide_cause sys app (w.histories app) (logs_of w.histories) cause at ≡ decision_of app v → Tells (decided app cause at v)
  tells_decided (verdict.Events es) up may is = record { up = up; caused = refl; moment = refl; next = record { cause = may; decided = is } }
  tells_decided (verdict.Refused code rule) up may is = λ r so. let clash : refused code rule ≡ events r.events = sym is ∙ decides r so in absurd (cc clash)
  tells_decided (verdict.Unreadable id) up may is = λ r so. let clash : unreadable app id ≡ events r.events = sym is ∙ decides r so in absurd (cc clash)

-- a version that is expected is the latest, or differs
expected : (h : List Recording) (id : Id) (o : Option ℕ) → differs h id o ≡ false → IfSome o (λ version. version ≡ latest (log h) id)
expected h id None same = tt
expected h id (Some version) same = here (version == latest (log h) id) refl same
  where
    here : (t : Bool) → (version == latest (log h) id) ≡ t → not t ≡ false → version ≡ latest (log h) id
    here true is so = eqb-true version (latest (log h) id) is
    here false is so = absurd (cc so)

unexpected : (h : List Recording) (id : Id) (o : Option ℕ) → differs h id o ≡ true → IfSome o (λ version. version ≡ latest (log h) id) → ⊥
unexpected h id None other same = cc other
unexpected h id (Some version) other same =
    let clash : true ≡ false = sym other ∙ ap not (eq-eqb version (latest (log h) id) same) in cc clash

module _ (sys : System) (w : World) (app : Name) (c : CommandOf) (at : ℤ) where
  abbrev TellsLine : Outcome → Type 0
  TellsLine = Tells sys w app (Command (command_text app c)) at

  module _ (up : w.down app ≡ false) where
    -- what the text asks is that command
    tells_commanded : (name : Name) (d : CommandOf) → request_in sys (command_text app c) ≡ asks (Do name d) → name ≡ app → command_text name d ≡ command_text app c → (differ : Bool) → differs (w.histories app) d.id d.expect ≡ differ
        → TellsLine (if differ then only (answer.Conflict (latest (log (w.histories app)) d.id)) else decided app (Command (command_text app c)) at (command_verdict sys d at (w.histories app)))
    tells_commanded name d is same canonical true other =
        λ r so. let may = caused sys w app (Command (command_text app c)) at r so in
        let one : asks (Do name d) ≡ asks (Do app may.command) = sym is ∙ may.is_asked in
        let command : d ≡ may.command = cc one in
        unexpected (w.histories app) d.id d.expect other (subst (λ e. IfSome e.expect (λ version. version ≡ latest (log (w.histories app)) e.id)) (sym command) may.expected)
    tells_commanded name d is same canonical false agree =
        tells_decided sys w app (Command (command_text app c)) at (command_verdict sys d at (w.histories app)) up
        (record {
          command = d;
          is_asked = is ∙ ap (λ n. asks (Do n d)) same;
          canonical = sym canonical ∙ ap (λ n. command_text n d) same;
          expected = expected (w.histories app) d.id d.expect agree;
        })
        (ap (decide_asked sys app (w.histories app) at) is)

    -- what asks for no command adds nothing
    other_request : (a : Asked) → ((d : CommandOf) → a ≡ asks (Do app d) → ⊥) → request_in sys (command_text app c) ≡ a → (r : Recording) → Adds (rules_of sys) w app (Command (command_text app c)) at r → ⊥
    other_request a other is r so =
        let may : IsAsked (rules_of sys) app (w.histories app) (command_text app c) = caused sys w app (Command (command_text app c)) at r so in
        other may.command (sym is ∙ may.is_asked)

    tells_do : (name : Name) (d : CommandOf) → request_in sys (command_text app c) ≡ asks (Do name d) → (t : Bool) → (bytes_eq name app && bytes_eq (command_text name d) (command_text app c)) ≡ t
        → TellsLine (if t then commanded sys app (w.histories app) (command_text app c) at d else only answer.NoSuch)
    tells_do name d is true same =
        let parts = and_parts (bytes_eq name app) (bytes_eq (command_text name d) (command_text app c)) same in
        tells_commanded name d is (same-name name app parts.0) (same-name (command_text name d) (command_text app c) parts.1) (differs (w.histories app) d.id d.expect) refl
    tells_do name d is false other = λ r so.
        let may : IsAsked (rules_of sys) app (w.histories app) (command_text app c) = caused sys w app (Command (command_text app c)) at r so in
        let one : asks (Do name d) ≡ asks (Do app may.command) = sym is ∙ may.is_asked in
        let named : name ≡ app = cc one in
        let command : d ≡ may.command = cc one in
        let written : command_text name d ≡ command_text app c = (λ i. command_text (named i) (command i)) ∙ sym may.canonical in
        let clash : false ≡ true = sym other ∙ and_from (bytes_eq name app) (bytes_eq (command_text name d) (command_text app c)) (is-same name app named) (is-same (command_text name d) (command_text app c) written) in
        cc clash

    tells_asked : (a : Asked) → request_in sys (command_text app c) ≡ a → TellsLine (asked sys app (w.histories app) (command_text app c) at a)
    tells_asked (asks (Do name d)) is = tells_do name d is (bytes_eq name app && bytes_eq (command_text name d) (command_text app c)) refl
    tells_asked (asks (Get name id version)) is = other_request (asks (Get name id version)) (λ d same. cc same) is
    tells_asked (asks (Log name section)) is = other_request (asks (Log name section)) (λ d same. cc same) is
    tells_asked (asks (Tracking name leader)) is = other_request (asks (Tracking name leader)) (λ d same. cc same) is
    tells_asked (asks (Snapshot name id)) is = other_request (asks (Snapshot name id)) (λ d same. cc same) is
    tells_asked (asks Sync) is = other_request (asks Sync) (λ d same. cc same) is
    tells_asked (asks StopAsked) is = other_request (asks StopAsked) (λ d same. cc same) is
    tells_asked (not_asked fault) is = other_request (not_asked fault) (λ d same. cc same) is

  tells_lined : TellsLine (lined sys w app c at)
  tells_lined = here (w.down app) refl
    where
      here : (t : Bool) → w.down app ≡ t → TellsLine (if t then only (answer.Down app) else asked sys app (w.histories app) (command_text app c) at (request_in sys (command_text app c)))
      here true down = λ r so. let up : w.down app ≡ false = so.up in let clash : true ≡ false = sym down ∙ up in cc clash
      here false up = tells_asked up (request_in sys (command_text app c)) refl

-- a pair is among the pairs, or isn't
same_pair : (p q : Name × Name) → is_pair p q ≡ true → p ≡ q
same_pair p q is =
    let parts = and_parts (bytes_eq p.0 q.0) (bytes_eq p.1 q.1) is in
    λ i. (same-name p.0 q.0 parts.0 i, same-name p.1 q.1 parts.1 i)

is_same_pair : (p q : Name × Name) → p ≡ q → is_pair p q ≡ true
is_same_pair p q same = and_from (bytes_eq p.0 q.0) (bytes_eq p.1 q.1) (is-same p.0 q.0 (ap (λ r. r.0) same)) (is-same p.1 q.1 (ap (λ r. r.1) same))

pub any_pair : (q : Name × Name) (pairs : List (Name × Name)) → list_any (λ p. is_pair p q) pairs ≡ true → Contains pairs q
any_pair q [] is = absurd (cc is)
any_pair q (p ∷ pairs) is = elim (or_cases (is_pair p q) (list_any (λ r. is_pair r q) pairs) is) [
  | inl here ↦ subst (Contains (p ∷ pairs)) (same_pair p q here) (contains-here p pairs)
  | inr behind ↦ contains-later p pairs q (any_pair q pairs behind)
]

pair_any : (q : Name × Name) (pairs : List (Name × Name)) → Contains pairs q → list_any (λ p. is_pair p q) pairs ≡ true
pair_any q [] so = contains-none q so
pair_any q (p ∷ pairs) so = elim (contains-cases p pairs q so) [
  | inl same ↦ or_left (is_pair p q) (list_any (λ r. is_pair r q) pairs) (is_same_pair p q same)
  | inr behind ↦ or_right (is_pair p q) (list_any (λ r. is_pair r q) pairs) (pair_any q pairs behind)
]

there_is : {A : Type 0} (xs : List A) (i : ℕ) → slice_get xs i ≡ None → length xs ≤ i
there_is [] i is = omega arith
there_is (x ∷ xs) zero is = absurd (cc is)
there_is (x ∷ xs) (suc i) is = omega (arith, there_is xs i is)

module _ (sys : System) (w : World) (follower leader : Name) (id : ℕ) (at : ℤ) where
  abbrev TellsDelivery : Outcome → Type 0
  TellsDelivery = Tells sys w follower (Notification leader id) at

  abbrev Notified : Type 0
  Notified = IsNotified (rules_of sys) follower (w.histories follower) (logs_of w.histories) leader id

  notified : (r : Recording) → Adds (rules_of sys) w follower (Notification leader id) at r → Notified
  notified r so = caused sys w follower (Notification leader id) at r so

  module _ (up : AreUp w follower (Notification leader id)) where
    module _ (may : Notified) where
      tells_event : (e : StoredEvent) → slice_get (log (w.histories leader)) (id - 1) ≡ Some e → (o : Option DomainEvent) → event_of sys e ≡ o → TellsDelivery (followed_event sys follower (w.histories follower) leader id at o)
      tells_event e found None means = λ r so.
          let clash : unreadable leader id ≡ events r.events =
          sym (ap (decide_entry sys follower (w.histories follower) leader id at) found ∙ ap (decide_event sys follower (w.histories follower) leader id at) means) ∙ decides sys w follower (Notification leader id) at r so in
          absurd (cc clash)
      tells_event e found (Some d) means =
          tells_decided sys w follower (Notification leader id) at (policy_verdict sys follower (notice leader id d) at (w.histories follower)) up may
          (ap (decide_entry sys follower (w.histories follower) leader id at) found ∙ ap (decide_event sys follower (w.histories follower) leader id at) means)

      tells_followed : (o : Option StoredEvent) → slice_get (log (w.histories leader)) (id - 1) ≡ o → TellsDelivery (followed sys follower (w.histories follower) leader id at o)
      tells_followed None found = absurd (omega (arith, may.next, may.there, there_is (log (w.histories leader)) (id - 1) found))
      tells_followed (Some e) found = tells_event e found (event_of sys e) refl

    module _ (leads : Contains (pairs_of sys.pipes) (leader, follower)) (there : id ≤ length (log (w.histories leader))) where
      abbrev tracked : ℕ
      tracked = tracked_in (w.histories follower) leader

      tells_come : (skipped gap : Bool) → nat_le id tracked ≡ skipped → nat_lt (tracked + 1) id ≡ gap
          → TellsDelivery (if skipped then only (answer.Skipped tracked) else if gap then only (answer.Gap tracked) else followed sys follower (w.histories follower) leader id at (slice_get (log (w.histories leader)) (id - 1)))
      tells_come true gap before after = λ r so. let le : id ≤ tracked = leb-true id tracked before in absurd (omega (arith, le, (notified r so).next))
      tells_come false true before after = λ r so. let lt : tracked + 1 < id = ltb-true (tracked + 1) id after in absurd (omega (arith, lt, (notified r so).next))
      tells_come false false before after =
          tells_followed (record { leads = leads; next = omega (arith, leb-false id tracked before, ltb-false (tracked + 1) id after); there = there })
          (slice_get (log (w.histories leader)) (id - 1)) refl

    abbrev is_there : Bool
    is_there = nat_le 1 id && nat_le id (length (log (w.histories leader)))

    tells_there : (t : Bool) → (is_led sys leader follower && is_there) ≡ t
        → TellsDelivery (if t then come_to sys follower (w.histories follower) (log (w.histories leader)) leader id at else only answer.NoSuch)
    tells_there true is =
        let parts = and_parts (is_led sys leader follower) is_there is in
        let within = and_parts (nat_le 1 id) (nat_le id (length (log (w.histories leader)))) parts.1 in
        tells_come (any_pair (leader, follower) (pairs_of sys.pipes) parts.0) (leb-true id (length (log (w.histories leader))) within.1)
        (nat_le id (tracked_in (w.histories follower) leader)) (nat_lt (tracked_in (w.histories follower) leader + 1) id) refl refl
    tells_there false is = λ r so.
        let may : Notified = notified r so in
        let some : (is_led sys leader follower && is_there) ≡ true =
        and_from (is_led sys leader follower) is_there (pair_any (leader, follower) (pairs_of sys.pipes) may.leads)
        (and_from (nat_le 1 id) (nat_le id (length (log (w.histories leader)))) (le-leb 1 id (omega (arith, may.next))) (le-leb id (length (log (w.histories leader))) may.there)) in
        let clash : false ≡ true = sym is ∙ some in cc clash

  tells_delivered : TellsDelivery (delivered sys w follower leader id at)
  tells_delivered = here (w.down follower) (w.down leader) refl refl
    where
      here : (t u : Bool) → w.down follower ≡ t → w.down leader ≡ u
          → TellsDelivery (if t then only (answer.Down follower) else if u then only (answer.Down leader) else
          if is_led sys leader follower && (nat_le 1 id && nat_le id (length (log (w.histories leader)))) then come_to sys follower (w.histories follower) (log (w.histories leader)) leader id at else only answer.NoSuch)
      here true u down other = λ r so. let up : AreUp w follower (Notification leader id) = so.up in let clash : true ≡ false = sym down ∙ up.0 in cc clash
      here false true down other = λ r so. let up : AreUp w follower (Notification leader id) = so.up in let clash : true ≡ false = sym other ∙ up.1 in cc clash
      here false false down other = tells_there (down, other) (is_led sys leader follower && (nat_le 1 id && nat_le id (length (log (w.histories leader))))) refl

pub law_of_answers : AnswerLaw
law_of_answers sys w (Line app c at sure) = told sys w app (Command (command_text app c)) at sure (lined sys w app c at) (tells_lined sys w app c at)
law_of_answers sys w (Deliver follower leader id at sure) = told sys w follower (Notification leader id) at sure (delivered sys w follower leader id at) (tells_delivered sys w follower leader id at)
law_of_answers sys w (Stop kept) = refl

-- to what a list of steps leaves, the steps lead
pub law_of_runs : RunLaw
law_of_runs sys w [] = refl
law_of_runs sys w (s ∷ steps) = ((made sys w s).left, law_of_answers sys w s, law_of_runs sys (made sys w s).left steps)
