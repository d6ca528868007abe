-- What an application adds, by the definitions of its answer and of what it follows with.
use Rattle.std.proofs.Common.{◌≡◌, ◌≤◌, ◌<◌, inl, inr, ◌+◌, ◌-◌, ℕ, ℤ, suc, true, false, nat_le, List, [], ◌∷◌, ◌++◌, length, drop, get_or, slice_get, if◌then◌else◌, Option, Some, None, is_some, OnOk, Result, Ok, Err, refl, sym, ap, ◌∙◌, subst, append-nil, append_assoc, drop-cons, arith}
use Rattle.std.proofs.lemmas.List.{drop_all}
use Rattle.std.specs.Result.{IsErrAnd}
use Rattle.es_model.specs.declared.declaration.System.{System}
use Rattle.es_model.specs.declared.domain_event.DomainEvent.{DomainEvent}
use Rattle.es_model.specs.declared.event.Recording.{Recording}
use Rattle.es_model.specs.declared.event.StoredEvent.{StoredEvent}
use Rattle.es_model.specs.declared.event.Cause.TheVariants.{Command, Notification}
use Rattle.es_model.specs.declared.snapshot.Snapshot.{Snapshot}
use Rattle.es_model.specs.declared.memory.CallFault.{CallFault}
use Rattle.es_model.specs.declared.memory.CallFault.TheVariants as call
use Rattle.es_model.specs.Causes.{Rose}
use Rattle.es_model.specs.Snapshots.{put_snapshot}
use Rattle.es_model.specs.History.{log, latest}
use Rattle.es_model.specs.Values.{Name, Id}
use Rattle.es_model.proofs.HistoryLemmas.{latest-append}
use Rattle.es_domain.specs.declared.command.Command.{Command as CommandOf}
use Rattle.es_io.specs.Readings.{Readings, later_readings}
use Rattle.es_recorder.specs.declared.recorder.Inserted.{Inserted}
use Rattle.es_recorder.specs.declared.recorder.InsertFault.{InsertFault}
use Rattle.es_recorder.specs.Insert.{too_many}
use Rattle.es_repo.specs.Verdicts.{command_verdict}
use Rattle.es_lines.specs.CommandText.{command_text}
use Rattle.es_lines.specs.Requests.{asks, request_in}
use Rattle.es_lines.specs.declared.request.Request.{Request}
use Rattle.es_lines.specs.declared.request.Request.TheVariants.{Do}
use Rattle.es_process.specs.declared.application.Application.{Application}
use Rattle.es_process.specs.declared.faults.RunFault.{RunFault}
use Rattle.es_process.specs.declared.faults.RunFault.TheVariants as fault
use Rattle.es_lines.specs.declared.ends.End.TheVariants.{Full, Turns}
use Rattle.es_lines.specs.declared.replies.Reply.{Reply}
use Rattle.es_lines.specs.declared.replies.Reply.TheVariants.{Accepted, Conflict}
use Rattle.es_process.specs.Answer.{Answer, says, accepts, takes, ends, accept_unless, recording_of, put_each, with_due, due_each, due_of, differs, answer_of, command_answer, request_answer, takes_reading, Followed, adds, stops, add_unless, followed_of, followed, options}
use Rattle.es_process.specs.Decision.{Rules, Decision, Logs, events}
use Rattle.es_process.specs.Faults.{of_call}
use Rattle.es_process.specs.inner.Adding.{Adds, PutsOne, PutsDue, Records, Takes}
use Rattle.es_process.specs.Leaves.{Tells, PutsFirst, Gives, MayAdd, Leaves, MayTake, IsEntry}
use Rattle.es_process.specs.SingleThread.{readings_after}
use Rattle.es_process.specs.Standing.{MayFailToRead, Stays}
use Rattle.es_process.specs.SystemRules.{rules_of, decide_entry, decide_event, decide_asked, decide_cause, decision_of}

-- ---- nothing is added

pub may_take : (f : Followed) (h : List Recording) (q : List Snapshot) (new : Option (List Recording)) (now : Option (List Snapshot)) → Tells h q new now → MayTake f h q new now
may_take (adds r ss) h q new now so = inl so
may_take (stops end) h q new now so = so

pub may_add : (a : Answer) (h : List Recording) (q : List Snapshot) (new : Option (List Recording)) (now : Option (List Snapshot)) → Tells h q new now → MayAdd a h q new now
may_add (says reply) h q new now so = so
may_add (accepts r ss reply) h q new now so = inl so
may_add (takes s reply) h q new now so = inl so
may_add (ends end) h q new now so = so

-- a call failed before anything was added
pub failed_leaves : (a : Answer) (h : List Recording) (q : List Snapshot) (f : CallFault) (P : Type 0) (result : Result Reply RunFault) (new : Option (List Recording)) (now : Option (List Snapshot)) → IsErrAnd result (λ e. e ≡ of_call f) → new ≡ Some h → now ≡ Some q
    → Leaves a h q result new now × OnOk result P
failed_leaves a h q f P (Ok reply) new now is told kept = absurd is
failed_leaves a h q f P (Err e) new now is told kept = (subst (λ g. Leaves a h q (Err g) new now) (sym is) (by f), tt)
  where
    by : (f : CallFault) → Leaves a h q (Err (of_call f)) new now
    by call.Failed = may_add a h q new now (record { recordings = told; snapshots = kept })
    by call.NoMemory = may_add a h q new now (record { recordings = told; snapshots = kept })

-- a count rose after it didn't fall
pub rose_later : (a b c : ℕ) → a ≤ b → Rose b c → Rose a c
rose_later a b c less rose = omega (arith, less, rose)

-- what stays of an application
module _ {R : Type 0} {capacity faults : R → ℕ} where
  pub stays_none : (a : Application R) → Stays capacity faults a a
  stays_none a = record { name = refl; turns = refl; room = refl; later = omega arith }

  pub stays_then : {a b c : Application R} → Stays capacity faults a b → Stays capacity faults b c → Stays capacity faults a c
  stays_then x y = record { name = y.name ∙ x.name; turns = y.turns ∙ x.turns; room = y.room ∙ x.room; later = omega (arith, x.later, y.later) }

-- ---- snapshots are put one by one

-- the one that is due after an event was put, or not
pub due_put : (due : Option Snapshot) (s : Snapshot) (h : List Recording) (q : List Snapshot) (result : Result (Unit {0}) RunFault) (new : Option (List Recording)) (now : Option (List Snapshot)) → Some s ≡ due → new ≡ Some h → PutsOne s q result now
    → PutsDue (with_due due []) h q result new now
due_put due s h q result new now is told so = subst (λ o. PutsDue (with_due o []) h q result new now) is (by result so)
  where
    by : (result : Result (Unit {0}) RunFault) → PutsOne s q result now → PutsDue (s ∷ []) h q result new now
    by (Ok x) put = record { recordings = told; snapshots = put }
    by (Err f) (inl same) = record { front = []; rest = s ∷ []; parts = refl; tells = record { recordings = told; snapshots = same } }
    by (Err f) (inr more) = record { front = s ∷ []; rest = []; parts = refl; tells = record { recordings = told; snapshots = more } }

put_each-append : (front rest q : List Snapshot) → put_each q (front ++ rest) ≡ put_each (put_each q front) rest
put_each-append [] rest q = refl
put_each-append (s ∷ front) rest q = put_each-append front rest (put_snapshot q s)

with_due-append : (due : Option Snapshot) (ss : List Snapshot) → with_due due ss ≡ with_due due [] ++ ss
with_due-append None ss = refl
with_due-append (Some s) ss = refl

-- of the snapshots that are due after some events, those before the rest of the events were put
pub record PutsUpto (rules : Rules) (h : List Recording) (q : List Snapshot) (all rest : List StoredEvent) (new : Option (List Recording)) (now : Option (List Snapshot)) : Type 0 where
  pub front : List Snapshot
  pub parts : due_each rules h all ≡ front ++ due_each rules h rest
  pub tells : Tells h (put_each q front) new now

module _ (rules : Rules) (h : List Recording) (q : List Snapshot) (all : List StoredEvent) where
  pub puts_none : (new : Option (List Recording)) (now : Option (List Snapshot)) → new ≡ Some h → now ≡ Some q → PutsUpto rules h q all all new now
  puts_none new now told kept = record { front = []; parts = refl; tells = record { recordings = told; snapshots = kept } }

  -- the snapshots up to one event more, in two parts
  parted : (e : StoredEvent) (rest : List StoredEvent) (front first later : List Snapshot) → due_each rules h all ≡ front ++ due_each rules h (e ∷ rest) → with_due (rules.due h e) [] ≡ first ++ later
      → due_each rules h all ≡ (front ++ first) ++ (later ++ due_each rules h rest)
  parted e rest front first later is parts =
      is ∙ ap (λ ss. front ++ ss) (with_due-append (rules.due h e) (due_each rules h rest) ∙ ap (λ ss. ss ++ due_each rules h rest) parts ∙ append_assoc first later (due_each rules h rest))
      ∙ sym (append_assoc front first (later ++ due_each rules h rest))

  -- those of the next event were put
  pub puts_next : (e : StoredEvent) (rest : List StoredEvent) (old new : Option (List Recording)) (was now : Option (List Snapshot)) (x : Unit {0}) → PutsUpto rules h q all (e ∷ rest) old was
      → ((k : List Recording) (p : List Snapshot) → old ≡ Some k → was ≡ Some p → PutsDue (with_due (rules.due k e) []) k p (Ok x) new now) → PutsUpto rules h q all rest new now
  puts_next e rest old new was now x so step =
      let put = step h (put_each q so.front) so.tells.recordings so.tells.snapshots in
      record {
        front = so.front ++ with_due (rules.due h e) [];
        parts = parted e rest so.front (with_due (rules.due h e) []) [] so.parts (sym (append-nil (with_due (rules.due h e) [])));
        tells = subst (λ ss. Tells h ss new now) (sym (put_each-append so.front (with_due (rules.due h e) []) q)) put;
      }

  -- of those of the next event only the first were put
  pub puts_first : (e : StoredEvent) (rest : List StoredEvent) (old new : Option (List Recording)) (was now : Option (List Snapshot)) (f : RunFault) → PutsUpto rules h q all (e ∷ rest) old was
      → ((k : List Recording) (p : List Snapshot) → old ≡ Some k → was ≡ Some p → PutsDue (with_due (rules.due k e) []) k p (Err f) new now) → PutsDue (due_each rules h all) h q (Err f) new now
  puts_first e rest old new was now f so step =
      let put = step h (put_each q so.front) so.tells.recordings so.tells.snapshots in
      record {
        front = so.front ++ put.front;
        rest = put.rest ++ due_each rules h rest;
        parts = parted e rest so.front put.front put.rest so.parts put.parts;
        tells = subst (λ ss. Tells h ss new now) (sym (put_each-append so.front put.front q)) put.tells;
      }

  -- all were put
  pub puts_all : (new : Option (List Recording)) (now : Option (List Snapshot)) → PutsUpto rules h q all [] new now → Tells h (put_each q (due_each rules h all)) new now
  puts_all new now so = subst (λ ss. Tells h (put_each q ss) new now) (sym (so.parts ∙ append-nil so.front)) so.tells

-- ---- why nothing is added

full_stops : (rules : Rules) (o : Option InsertFault) (capacity : ℕ) (app : Name) (h : List Recording) (r : Recording) (name : Name) (last most : ℕ) → is_some o ≡ true → name ≡ app → last ≡ length (log h) → most ≡ capacity
    → add_unless rules o capacity app h r ≡ stops (Full name last most)
full_stops rules None capacity app h r name last most full p q s = absurd (cc full)
full_stops rules (Some f) capacity app h r name last most full p q s = λ i. stops (Full (sym p i) (sym q i) (sym s i))

full_ends : (rules : Rules) (o : Option InsertFault) (capacity : ℕ) (app : Name) (h : List Recording) (r : Recording) (id : Id) (name : Name) (last most : ℕ) → is_some o ≡ true → name ≡ app → last ≡ length (log h) → most ≡ capacity
    → accept_unless rules o capacity app h r id ≡ ends (Full name last most)
full_ends rules None capacity app h r id name last most full p q s = absurd (cc full)
full_ends rules (Some f) capacity app h r id name last most full p q s = λ i. ends (Full (sym p i) (sym q i) (sym s i))

-- ---- a recording is added, and the snapshots that are due after it

module _ (rules : Rules) (capacity : ℕ) (app : Name) (h : List Recording) (q : List Snapshot) (r : Recording) where
  abbrev room : Option InsertFault
  room = too_many capacity (length (log h)) r.events

  -- a recording was added, and no snapshot put yet
  recorded : (new : Option (List Recording)) (now : Option (List Snapshot)) → new ≡ Some (h ++ r ∷ []) → now ≡ Some q → PutsFirst (due_of rules h r) (h ++ r ∷ []) q new now
  recorded new now more kept = record { front = []; rest = due_of rules h r; parts = refl; tells = record { recordings = more; snapshots = kept } }

  -- of a notification: it wasn't added, or the recorder failed
  pub not_added : (f : RunFault) (new : Option (List Recording)) (now : Option (List Snapshot)) → now ≡ Some q → Adds capacity app h r (Err f) new → Records (add_unless rules room capacity app h r) h q (Err f) new now
  not_added (fault.Full name last most) new now kept so = (full_stops rules room capacity app h r name last most so.0 so.1 so.2 so.3, record { recordings = so.4; snapshots = kept })
  not_added fault.Recorder new now kept (inl same) = may_take _ h q new now (record { recordings = same; snapshots = kept })
  not_added fault.Recorder new now kept (inr more) =
      subst (λ (f : Followed). MayTake f h q new now) (sym (ap (λ o. add_unless rules o capacity app h r) more.0)) (inr (recorded new now more.1 kept))
  not_added fault.NoMemory new now kept so = may_take _ h q new now (record { recordings = so; snapshots = kept })
  not_added (fault.Refused name leader id recordings code rule) new now kept so = absurd so
  not_added (fault.Turns name turns) new now kept so = absurd so
  not_added (fault.Unreadable name id) new now kept so = absurd so

  -- it was added, and all its snapshots were put
  pub added_whole : (i : Inserted) (x : Unit {0}) (old new : Option (List Recording)) (was now : Option (List Snapshot)) (es : List StoredEvent) → es ≡ r.events → Adds capacity app h r (Ok i) old → was ≡ Some q
      → ((k : List Recording) (p : List Snapshot) → old ≡ Some k → was ≡ Some p → PutsDue (due_each rules k es) k p (Ok x) new now)
      → Records (add_unless rules room capacity app h r) h q (Ok i) new now
  added_whole i x old new was now es these so kept put = record {
    recording = r;
    snapshots = due_of rules h r;
    follows = ap (λ o. add_unless rules o capacity app h r) so.0;
    added = subst (λ ys. PutsDue (due_each rules (h ++ r ∷ []) ys) (h ++ r ∷ []) q (Ok x) new now) these (put (h ++ r ∷ []) q so.1 kept);
    from = ap (λ (n : Inserted). n.first) so.2;
    to = ap (λ (n : Inserted). n.last) so.2;
  }

  -- it was added, and of its snapshots only the first were put
  pub added_part : (i : Inserted) (f : RunFault) (old new : Option (List Recording)) (was now : Option (List Snapshot)) (es : List StoredEvent) → es ≡ r.events → MayFailToRead f → Adds capacity app h r (Ok i) old → was ≡ Some q
      → ((k : List Recording) (p : List Snapshot) → old ≡ Some k → was ≡ Some p → PutsDue (due_each rules k es) k p (Err f) new now)
      → Records (add_unless rules room capacity app h r) h q (Err f) new now
  added_part i f old new was now es these may so kept put =
      let took : MayTake (add_unless rules room capacity app h r) h q new now =
      subst (λ (f : Followed). MayTake f h q new now) (sym (ap (λ o. add_unless rules o capacity app h r) so.0)) (inr (subst (λ ys. PutsDue (due_each rules (h ++ r ∷ []) ys) (h ++ r ∷ []) q (Err f) new now) these (put (h ++ r ∷ []) q so.1 kept))) in
      elim may [
        | inl failed ↦ subst (λ g. Records (add_unless rules room capacity app h r) h q (Err g) new now) (sym failed) took
        | inr starved ↦ subst (λ g. Records (add_unless rules room capacity app h r) h q (Err g) new now) (sym starved) took
      ]

  -- of a command: it wasn't added, or the recorder failed
  pub not_accepted : (id : Id) (f : RunFault) (new : Option (List Recording)) (now : Option (List Snapshot)) → now ≡ Some q → Adds capacity app h r (Err f) new → Leaves (accept_unless rules room capacity app h r id) h q (Err f) new now
  not_accepted id (fault.Full name last most) new now kept so = (full_ends rules room capacity app h r id name last most so.0 so.1 so.2 so.3, record { recordings = so.4; snapshots = kept })
  not_accepted id fault.Recorder new now kept (inl same) = may_add _ h q new now (record { recordings = same; snapshots = kept })
  not_accepted id fault.Recorder new now kept (inr more) =
      subst (λ (a : Answer). MayAdd a h q new now) (sym (ap (λ o. accept_unless rules o capacity app h r id) more.0)) (inr (recorded new now more.1 kept))
  not_accepted id fault.NoMemory new now kept so = may_add _ h q new now (record { recordings = so; snapshots = kept })
  not_accepted id (fault.Refused name leader n recordings code rule) new now kept so = absurd so
  not_accepted id (fault.Turns name turns) new now kept so = absurd so
  not_accepted id (fault.Unreadable name n) new now kept so = absurd so

  -- the version after some events of an originator
  version_after : (es : List StoredEvent) (id : Id) (version count : ℕ) → version ≡ latest (log h) id → count ≡ latest es id → latest (log h ++ es) id ≡ version + count
  version_after es id version count p s = latest-append (log h) es id ∙ (λ i. sym p i + sym s i)

  -- it was added, and all its snapshots were put
  pub accepted_whole : (id : Id) (version count : ℕ) (i : Inserted) (x : Unit {0}) (old new : Option (List Recording)) (was now : Option (List Snapshot)) (es : List StoredEvent) → es ≡ r.events → version ≡ latest (log h) id → count ≡ latest r.events id
      → Adds capacity app h r (Ok i) old → was ≡ Some q
      → ((k : List Recording) (p : List Snapshot) → old ≡ Some k → was ≡ Some p → PutsDue (due_each rules k es) k p (Ok x) new now)
      → Leaves (accept_unless rules room capacity app h r id) h q (Ok (Accepted i.recording i.first i.last (version + count))) new now
  accepted_whole id version count i x old new was now es these p s so kept put =
      subst (λ a. Gives a h q (Accepted i.recording i.first i.last (version + count)) new now) (sym (ap (λ o. accept_unless rules o capacity app h r id) so.0))
      ((λ k. Accepted (so.2 k).recording (so.2 k).first (so.2 k).last (sym (version_after r.events id version count p s) k)), subst (λ ys. PutsDue (due_each rules (h ++ r ∷ []) ys) (h ++ r ∷ []) q (Ok x) new now) these (put (h ++ r ∷ []) q so.1 kept))

  -- it was added, and of its snapshots only the first were put
  pub accepted_part : (id : Id) (i : Inserted) (f : RunFault) (old new : Option (List Recording)) (was now : Option (List Snapshot)) (es : List StoredEvent) → es ≡ r.events → MayFailToRead f → Adds capacity app h r (Ok i) old → was ≡ Some q
      → ((k : List Recording) (p : List Snapshot) → old ≡ Some k → was ≡ Some p → PutsDue (due_each rules k es) k p (Err f) new now)
      → Leaves (accept_unless rules room capacity app h r id) h q (Err f) new now
  accepted_part id i f old new was now es these may so kept put =
      let took : MayAdd (accept_unless rules room capacity app h r id) h q new now =
      subst (λ (a : Answer). MayAdd a h q new now) (sym (ap (λ o. accept_unless rules o capacity app h r id) so.0)) (inr (subst (λ ys. PutsDue (due_each rules (h ++ r ∷ []) ys) (h ++ r ∷ []) q (Err f) new now) these (put (h ++ r ∷ []) q so.1 kept))) in
      elim may [
        | inl failed ↦ subst (λ g. Leaves (accept_unless rules room capacity app h r id) h q (Err g) new now) (sym failed) took
        | inr starved ↦ subst (λ g. Leaves (accept_unless rules room capacity app h r id) h q (Err g) new now) (sym starved) took
      ]

-- the same of a recording that is this one
pub accept_as : (rules : Rules) (capacity : ℕ) (app : Name) (h : List Recording) (q : List Snapshot) (r x : Recording) (id : Id) (result : Result Reply RunFault) (new : Option (List Recording)) (now : Option (List Snapshot)) → r ≡ x
    → Leaves (accept_unless rules (too_many capacity (length (log h)) r.events) capacity app h r id) h q result new now → Leaves (accept_unless rules (too_many capacity (length (log h)) x.events) capacity app h x id) h q result new now
accept_as rules capacity app h q r x id result new now same so = subst (λ (y : Recording). Leaves (accept_unless rules (too_many capacity (length (log h)) y.events) capacity app h y id) h q result new now) same so

-- ---- the events of a loop, from one on

-- the place where the snapshots of the events from one on are still to be put
pub puts_from : (rules : Rules) (h : List Recording) (q : List Snapshot) (all : List StoredEvent) (i : ℕ) (e : StoredEvent) (new : Option (List Recording)) (now : Option (List Snapshot)) → i < length all → e ≡ get_or all i e
    → PutsUpto rules h q all (drop i all) new now → PutsUpto rules h q all (e ∷ drop (i + 1) all) new now
puts_from rules h q all i e new now within is so =
    subst (λ es. PutsUpto rules h q all es new now) (drop-cons all i e within ∙ (λ k. sym is k ∷ drop (let e : suc i ≡ i + 1 = omega arith in e k) all)) so

pub puts_end : (rules : Rules) (h : List Recording) (q : List Snapshot) (all : List StoredEvent) (i : ℕ) (new : Option (List Recording)) (now : Option (List Snapshot)) → length all ≤ i → PutsUpto rules h q all (drop i all) new now
    → Tells h (put_each q (due_each rules h all)) new now
puts_end rules h q all i new now past so = puts_all rules h q all new now (subst (λ es. PutsUpto rules h q all es new now) (drop_all i all past) so)

-- ---- a notification

-- it was saved, by the events that were decided
pub records_saved : (rules : Rules) (capacity most : ℕ) (app name : Name) (h : List Recording) (q : List Snapshot) (copied leader : Name) (id : ℕ) (at : ℤ) (es : List StoredEvent) (d : Decision) (result : Result Inserted RunFault)
    (new : Option (List Recording)) (now : Option (List Snapshot)) → capacity ≡ most → app ≡ name → copied ≡ leader → d ≡ events es
    → Records (add_unless rules (too_many capacity (length (log h)) es) capacity app h (recording_of (Notification copied id) at es)) h q result new now
    → Records (followed_of rules most name h leader id at d) h q result new now
records_saved rules capacity most app name h q copied leader id at es d result new now p n c is so =
    subst (λ x. Records (followed_of rules most name h leader id at x) h q result new now) (sym is)
    (subst (λ l. Records (followed_of rules most name h l id at (events es)) h q result new now) c
    (subst (λ n. Records (followed_of rules most n h copied id at (events es)) h q result new now) n
    (subst (λ k. Records (followed_of rules k app h copied id at (events es)) h q result new now) p so)))

-- what a follower with turns left makes of an entry that stands for an event
followed_is : (sys : System) (capacity turns : ℕ) (app : Name) (h : List Recording) (used : ℕ) (logs : Logs) (leader : Name) (id : ℕ) (at : ℤ) (e : DomainEvent) → nat_le turns used ≡ false → IsEntry sys logs leader id e
    → followed (rules_of sys) (options capacity turns) app h used logs leader id at ≡ followed_of (rules_of sys) capacity app h leader id at (decide_event sys app h leader id at (Some e))
followed_is sys capacity turns app h used logs leader id at e free is =
    (λ i. if free i then stops (Turns app turns) else followed_of (rules_of sys) capacity app h leader id at (decide_entry sys app h leader id at (slice_get (logs leader) (id - 1))))
    ∙ (λ i. followed_of (rules_of sys) capacity app h leader id at (decide_entry sys app h leader id at (is.there i)))
    ∙ (λ i. followed_of (rules_of sys) capacity app h leader id at (decide_event sys app h leader id at (is.means i)))

takes_of : (f : Followed) (h : List Recording) (q : List Snapshot) (used : ℕ) (r : Readings) (result : Result Inserted RunFault) (new : Option (List Recording)) (now : Option (List Snapshot)) (count : ℕ) (later : Option Readings)
    → Records f h q result new now → OnOk result (count ≡ used + 1) → later ≡ Some (later_readings r) → Takes f h q used r result new now count later
takes_of f h q used r (Ok i) new now count later so counted read = record { is = so; counted = counted; read = read }
takes_of f h q used r (Err e) new now count later so counted read = so

-- the next notification, which stands for an event, was recorded or not
pub takes_next : (sys : System) (capacity turns : ℕ) (app : Name) (h : List Recording) (q : List Snapshot) (used : ℕ) (logs : Logs) (leader : Name) (id : ℕ) (at : ℤ) (e : DomainEvent) (r : Readings) (result : Result Inserted RunFault)
    (new : Option (List Recording)) (now : Option (List Snapshot)) (count : ℕ) (later : Option Readings) → nat_le turns used ≡ false → IsEntry sys logs leader id e
    → Records (followed_of (rules_of sys) capacity app h leader id at (decide_event sys app h leader id at (Some e))) h q result new now → OnOk result (count ≡ used + 1) → later ≡ Some (later_readings r)
    → Takes (followed (rules_of sys) (options capacity turns) app h used logs leader id at) h q used r result new now count later
takes_next sys capacity turns app h q used logs leader id at e r result new now count later free is so counted read =
    takes_of _ h q used r result new now count later (subst (λ f. Records f h q result new now) (sym (followed_is sys capacity turns app h used logs leader id at e free is)) so) counted read

-- ---- a request

-- the answer to a command whose text asks for it, where it expects no other version
pub command_decided : (sys : System) (capacity : ℕ) (app : Name) (h : List Recording) (logs : Logs) (c : CommandOf) (at : ℤ) → differs h c.id c.expect ≡ false → request_in sys (command_text app c) ≡ asks (Do app c)
    → command_answer (rules_of sys) capacity app h logs c at ≡ answer_of (rules_of sys) capacity app h (command_text app c) c.id at (decision_of app (command_verdict sys c at h))
command_decided sys capacity app h logs c at same asked =
    (λ i. if same i then says (Conflict (latest (log h) c.id)) else answer_of (rules_of sys) capacity app h (command_text app c) c.id at (decide_cause sys app h logs (Command (command_text app c)) at))
    ∙ (λ i. answer_of (rules_of sys) capacity app h (command_text app c) c.id at (decide_asked sys app h at (asked i)))

-- what a decided command leaves
pub command_leaves : (sys : System) (capacity most : ℕ) (app : Name) (h : List Recording) (q : List Snapshot) (logs : Logs) (c : CommandOf) (at moment : ℤ) (result : Result Reply RunFault) (new : Option (List Recording)) (now : Option (List Snapshot))
    → capacity ≡ most → at ≡ moment → differs h c.id c.expect ≡ false → request_in sys (command_text app c) ≡ asks (Do app c)
    → Leaves (answer_of (rules_of sys) capacity app h (command_text app c) c.id at (decision_of app (command_verdict sys c at h))) h q result new now → Leaves (command_answer (rules_of sys) most app h logs c moment) h q result new now
command_leaves sys capacity most app h q logs c at moment result new now room when same asked so =
    subst (λ m. Leaves (command_answer (rules_of sys) most app h logs c m) h q result new now) when
    (subst (λ k. Leaves (command_answer (rules_of sys) k app h logs c at) h q result new now) room
    (subst (λ a. Leaves a h q result new now) (sym (command_decided sys capacity app h logs c at same asked)) so))

-- what a request leaves that is this one
pub request_as : (rules : Rules) (capacity : ℕ) (app : Name) (h : List Recording) (q : List Snapshot) (logs : Logs) (r x : Request) (at : ℤ) (rs : Readings) (result : Result Reply RunFault) (new : Option (List Recording)) (now : Option (List Snapshot)) (later : Option Readings)
    → r ≡ x → Leaves (request_answer rules capacity app h q logs x at) h q result new now × OnOk result (later ≡ Some (readings_after (takes_reading h x) rs))
    → Leaves (request_answer rules capacity app h q logs r at) h q result new now × OnOk result (later ≡ Some (readings_after (takes_reading h r) rs))
request_as rules capacity app h q logs r x at rs result new now later is so =
    subst (λ y. Leaves (request_answer rules capacity app h q logs y at) h q result new now × OnOk result (later ≡ Some (readings_after (takes_reading h y) rs))) (sym is) so

-- where it holds in any case
pub ok_always : {A : Type 0} {E : Type 0} {P : Type 0} (result : Result A E) → P → OnOk result P
ok_always (Ok x) so = so
ok_always (Err e) so = tt
