-- Each place has a run: a drain ends since each follower records so many notifications at most, and then the lines end.
use Rattle.std.proofs.Common.{◌≡◌, ◌<◌, ◌≤◌, ℕ, zero, suc, ◌+◌, ◌-◌, nat_le, Bool, true, false, List, [], ◌∷◌, Contains, Option, Some, None, slice_get, if◌then◌else◌, inl, inr, refl, ap, arith}
use Rattle.std.proofs.lemmas.Bool.{leb-false}
use Rattle.std.specs.Str.{bytes_eq}
use Rattle.es_model.specs.declared.event.StoredEvent.{StoredEvent}
use Rattle.es_model.specs.declared.event.Recording.{Recording}
use Rattle.es_model.specs.declared.event.Cause.TheVariants.{Notification}
use Rattle.es_model.specs.declared.snapshot.Snapshot.{Snapshot}
use Rattle.es_model.specs.History.{Histories, log}
use Rattle.es_model.specs.Lines.{Line, text, long, over}
use Rattle.es_model.specs.Tracking.{tracked_in}
use Rattle.es_model.specs.Values.{Name}
use Rattle.es_io.specs.Readings.{Readings, first_reading, later_readings}
use Rattle.es_decl.specs.Pairs.{leaders_in}
use Rattle.es_recorder.specs.Held.{put}
use Rattle.es_lines.specs.Requests.{Asked, asks, refused}
use Rattle.es_lines.specs.declared.request.Request.{Request}
use Rattle.es_lines.specs.declared.request.Request.TheVariants as request
use Rattle.es_lines.specs.declared.ends.End.TheVariants.{Turns}
use Rattle.es_process.specs.Answer.{Options, Answer, says, accepts, takes, ends, request_answer, takes_reading, Followed, adds, stops, followed_of}
use Rattle.es_process.specs.Contents.{Contents, added, snapped}
use Rattle.es_process.specs.Decision.{Rules, logs_of}
use Rattle.es_process.specs.SingleThread.{Place, Turn, finished, goes_on, turn_at, line_turn, request_turn, app_turn, answer_turn, readings_after, next_turn, followed_turn, led_by, prompt, Run, after, steps_of, IsRun, HasOneRun, start}
use Rattle.es_process.proofs.AmongLemmas.{contains-cases, contains-filter, contains-here, contains-later, contains-none, put-here, same-name}
use Rattle.es_process.proofs.SingleThreadLemmas.{run-finished, run-unique, Goes-none, Goes-turn, Goes-run}

-- how many notifications the followers of these pairs may still record
left_of : ℕ → (Name → ℕ) → List (Name × Name) → ℕ
left_of turns used [] = 0
left_of turns used (p ∷ pairs) = (turns - used p.1) + left_of turns used pairs

one_less : (turns : ℕ) (used : Name → ℕ) (app n : Name) → turns - put used app (used app + 1) n ≤ turns - used n
one_less turns used app n = put_le (bytes_eq n app) (same-name n app)
  where
    put_le : (b : Bool) → (b ≡ true → n ≡ app) → turns - (if b then used app + 1 else used n) ≤ turns - used n
    put_le true same = omega (arith, ap used (same refl))
    put_le false same = omega arith

no_more : (turns : ℕ) (used : Name → ℕ) (app : Name) (pairs : List (Name × Name)) → left_of turns (put used app (used app + 1)) pairs ≤ left_of turns used pairs
unfolding left_of
no_more turns used app [] = omega arith
no_more turns used app (p ∷ pairs) = omega (arith, one_less turns used app p.1, no_more turns used app pairs)

one_fewer : (turns : ℕ) (used : Name → ℕ) (app : Name) (pairs : List (Name × Name)) (leader : Name) → used app < turns → Contains pairs (leader, app) → left_of turns (put used app (used app + 1)) pairs < left_of turns used pairs
unfolding left_of
one_fewer turns used app [] leader free so = contains-none (leader, app) so
one_fewer turns used app (p ∷ pairs) leader free so = elim (contains-cases p pairs (leader, app) so) [
  | inl is ↦ omega (arith, here (ap (λ q. q.1) is), no_more turns used app pairs)
  | inr behind ↦ omega (arith, one_less turns used app p.1, one_fewer turns used app pairs leader free behind)
]
  where
    here : p.1 ≡ app → turns - put used app (used app + 1) p.1 < turns - used p.1
    here is = omega (arith, ap used is, ap (put used app (used app + 1)) is, put-here used app (used app + 1))

-- each of the pending pairs is one of the pairs
AreAmong : List (Name × Name) → List (Name × Name) → Type 0
AreAmong pairs pending = (p : Name × Name) → Contains pending p → Contains pairs p

module _ (rules : Rules) (options : Options) (openings : Histories) where
  abbrev Runs : Place → Type 0
  Runs at = (d : Run) × IsRun rules options openings at d

  -- the run goes on from where a turn leads to, where it doesn't end
  abbrev RunsAfter : Turn → Type 0
  RunsAfter (finished end) = Unit {0}
  RunsAfter (goes_on outcome next) = Runs next

  runs_turn : (at : Place) (t : Turn) → turn_at rules options openings at ≡ t → RunsAfter t → Runs at
  runs_turn at (finished end) is so = (record { steps = []; end = end }, run-finished rules options openings at end is)
  runs_turn at (goes_on outcome next) is so =
      (after (steps_of outcome) so.0, Goes-run rules options openings at next (steps_of outcome) so.0 (Goes-turn rules options openings at at next [] outcome (Goes-none rules options openings at) is) so.1)

  -- a place, by its parts
  abbrev at_place : Contents → Readings → (Name → ℕ) → List Name → List (Name × Name) → List Line → ℕ → Place
  at_place c rs used prompted pending lines k = record { contents = c; readings = rs; used = used; prompted = prompted; pending = pending; lines = lines; answered = k }

  -- the place after a follower has recorded a notification
  abbrev past_following : Place → Name → Recording → List Snapshot → Place
  past_following at app r ss = record at { contents = added at.contents app r ss; readings = later_readings at.readings; used = put at.used app (at.used app + 1); prompted = prompt rules.pairs at.prompted app r.events }

  following_runs : (at : Place) (app : Name) (f : Followed) → ((r : Recording) (ss : List Snapshot) → Runs (past_following at app r ss)) → RunsAfter (followed_turn rules at app f)
  following_runs at app (stops end) so = tt
  following_runs at app (adds r ss) so = so r ss

  -- a follower that may record no more ends the run
  allowed_runs : (at : Place) (app : Name) (b : Bool) (f : Followed) → (b ≡ false → (r : Recording) (ss : List Snapshot) → Runs (past_following at app r ss)) → RunsAfter (followed_turn rules at app (if b then stops (Turns app options.turns) else f))
  allowed_runs at app true f so = tt
  allowed_runs at app false f so = following_runs at app f (so refl)

  next_runs : (at : Place) (leader app : Name) (rest : List (Name × Name)) (o : Option StoredEvent) → Runs (record at { pending = rest })
      → (nat_le options.turns (at.used app) ≡ false → (r : Recording) (ss : List Snapshot) → Runs (past_following at app r ss)) → RunsAfter (next_turn rules options at leader app rest o)
  next_runs at leader app rest None dropped so = dropped
  next_runs at leader app rest (Some e) dropped so =
      allowed_runs at app (nat_le options.turns (at.used app))
      (followed_of rules options.capacity app (at.contents.histories app) leader (tracked_in (at.contents.histories app) leader + 1) (first_reading at.readings) (rules.decide app (at.contents.histories app) (logs_of at.contents.histories) (Notification leader (tracked_in (at.contents.histories app) leader + 1)) (first_reading at.readings)))
      so

  -- from each place with these lines, with fewer notifications that may still be recorded, there is a run
  abbrev RunBelow : List Line → ℕ → Type 0
  RunBelow lines n = (c : Contents) (rs : Readings) (used : Name → ℕ) (prompted : List Name) (pending : List (Name × Name)) (k : ℕ)
      → AreAmong rules.pairs pending → left_of options.turns used rules.pairs < n → Runs (at_place c rs used prompted pending lines k)

  -- pairs are tried one by one
  pending_run : (lines : List Line) (c : Contents) (rs : Readings) (used : Name → ℕ) (prompted : List Name) (k : ℕ) → RunBelow lines (left_of options.turns used rules.pairs) → Runs (at_place c rs used prompted [] lines k)
      → (pending : List (Name × Name)) → AreAmong rules.pairs pending → Runs (at_place c rs used prompted pending lines k)
  unfolding AreAmong
  pending_run lines c rs used prompted k below none [] among = none
  pending_run lines c rs used prompted k below none (p ∷ rest) among =
      let at : Place = at_place c rs used prompted (p ∷ rest) lines k in
      runs_turn at (turn_at rules options openings at) refl
      (next_runs at p.0 p.1 rest (slice_get (log (c.histories p.0)) (tracked_in (c.histories p.1) p.0))
      (pending_run lines c rs used prompted k below none rest (λ q so. among q (contains-later p rest q so)))
      (λ free r ss. below (added c p.1 r ss) (later_readings rs) (put used p.1 (used p.1 + 1)) (prompt rules.pairs prompted p.1 r.events) (p ∷ rest) k among
      (one_fewer options.turns used p.1 rules.pairs p.0 (leb-false options.turns (used p.1) free) (among p (contains-here p rest)))))

  -- so are prompted leaders
  prompted_run : (lines : List Line) (c : Contents) (rs : Readings) (used : Name → ℕ) (k : ℕ) → RunBelow lines (left_of options.turns used rules.pairs) → Runs (at_place c rs used [] [] lines k)
      → (prompted : List Name) → Runs (at_place c rs used prompted [] lines k)
  unfolding AreAmong
  prompted_run lines c rs used k below none [] = none
  prompted_run lines c rs used k below none (leader ∷ prompted) =
      let at : Place = at_place c rs used (leader ∷ prompted) [] lines k in
      runs_turn at (turn_at rules options openings at) refl
      (pending_run lines c rs used prompted k below (prompted_run lines c rs used k below none prompted) (led_by rules.pairs leader) (contains-filter (λ p. bytes_eq p.0 leader) rules.pairs))

  -- there is a run from each place without prompts, with these lines
  abbrev RunIdle : List Line → Type 0
  RunIdle lines = (c : Contents) (rs : Readings) (used : Name → ℕ) (k : ℕ) → Runs (at_place c rs used [] [] lines k)

  drain_runs : (lines : List Line) → RunIdle lines → (n : ℕ) → RunBelow lines n
  drain_runs lines idle zero c rs used prompted pending k among few = absurd (omega arith)
  drain_runs lines idle (suc n) c rs used prompted pending k among few =
      let below : RunBelow lines (left_of options.turns used rules.pairs) = λ h2 rs2 used2 prompted2 pending2 k2 among2 few2. drain_runs lines idle n h2 rs2 used2 prompted2 pending2 k2 among2 (omega arith) in
      pending_run lines c rs used prompted k below (prompted_run lines c rs used k below (idle c rs used k) prompted) pending among

  -- there is a run from each place with these lines
  abbrev RunAll : List Line → Type 0
  RunAll lines = (c : Contents) (rs : Readings) (used : Name → ℕ) (prompted : List Name) (k : ℕ) → Runs (at_place c rs used prompted [] lines k)

  all_run : (lines : List Line) → RunIdle lines → RunAll lines
  unfolding AreAmong
  all_run lines idle c rs used prompted k = drain_runs lines idle (left_of options.turns used rules.pairs + 1) c rs used prompted [] k (λ p so. contains-none p so) (omega arith)

  module _ (c : Contents) (rs : Readings) (used : Name → ℕ) (k : ℕ) (lines : List Line) (so : RunAll lines) where
    answer_runs : (line : Line) (app : Name) (readings : Readings) (a : Answer) → RunsAfter (answer_turn (at_place c rs used [] [] (line ∷ lines) k) lines app readings a)
    answer_runs line app readings (says reply) = so c readings used [] (k + 1)
    answer_runs line app readings (accepts r ss reply) = so (added c app r ss) readings used (app ∷ []) (k + 1)
    answer_runs line app readings (takes s reply) = so (snapped c app s) readings used [] (k + 1)
    answer_runs line app readings (ends end) = tt

    app_runs : (line : Line) (app : Name) (r : Request) → RunsAfter (app_turn rules options (at_place c rs used [] [] (line ∷ lines) k) lines app r)
    app_runs line app r =
        answer_runs line app (readings_after (takes_reading (c.histories app) r) rs)
        (request_answer rules options.capacity app (c.histories app) (c.snapshots app) (logs_of c.histories) r (first_reading rs))

    request_runs : (line : Line) (a : Asked) → RunsAfter (request_turn rules options (at_place c rs used [] [] (line ∷ lines) k) lines a)
    request_runs line (refused fault) = so c rs used [] (k + 1)
    request_runs line (asks request.Sync) = so c rs used [] (k + 1)
    request_runs line (asks request.Stop) = so c rs used [] (k + 1)
    request_runs line (asks (request.Do app d)) = app_runs line app (request.Do app d)
    request_runs line (asks (request.Get app id version)) = app_runs line app (request.Get app id version)
    request_runs line (asks (request.Log app section)) = app_runs line app (request.Log app section)
    request_runs line (asks (request.Tracking app leader)) = app_runs line app (request.Tracking app leader)
    request_runs line (asks (request.Snapshot app id)) = app_runs line app (request.Snapshot app id)

    line_runs : (line : Line) → RunsAfter (line_turn rules options openings (at_place c rs used [] [] (line ∷ lines) k) (line ∷ lines))
    line_runs (text t) = request_runs (text t) (rules.request t)
    line_runs long = so c rs used [] (k + 1)
    line_runs over = tt

  idle_runs : (lines : List Line) → RunIdle lines
  idle_runs [] c rs used k = let at : Place = at_place c rs used [] [] [] k in runs_turn at (turn_at rules options openings at) refl tt
  idle_runs (line ∷ lines) c rs used k =
      let at : Place = at_place c rs used [] [] (line ∷ lines) k in
      runs_turn at (turn_at rules options openings at) refl (line_runs c rs used k lines (all_run lines (idle_runs lines)) line)

  -- the run from the start
  pub run-exists : (opening : Contents) (readings : Readings) (lines : List Line) → HasOneRun rules options openings (start rules opening readings lines)
  run-exists opening readings lines =
      let so : Runs (start rules opening readings lines) = all_run lines (idle_runs lines) opening readings (λ app. 0) (leaders_in rules.pairs) 0 in
      record { run = so.0; is = so.1; only = λ other is. run-unique rules options openings (start rules opening readings lines) other so.0 is so.1 }
