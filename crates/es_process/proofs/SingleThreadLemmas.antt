-- Laws of runs: turns one after another, and what steps leave and write.
use Rattle.std.proofs.Common.{◌≡◌, ℕ, zero, suc, ◌+◌, List, [], ◌∷◌, ◌++◌, Option, Some, None, slice_get, refl, sym, ap, ◌∙◌, subst, append-nil, append_assoc, arith}
use Rattle.std.specs.Option.{option_map}
use Rattle.es_model.specs.declared.event.StoredEvent.{StoredEvent}
use Rattle.es_model.specs.declared.snapshot.Snapshot.{Snapshot}
use Rattle.es_model.specs.History.{Histories, log}
use Rattle.es_model.specs.Lines.{Line, text, long, over}
use Rattle.es_model.specs.Snapshots.{put_snapshot}
use Rattle.es_model.specs.Tracking.{tracked_in}
use Rattle.es_model.specs.Values.{Name}
use Rattle.es_io.specs.Readings.{Readings, first_reading}
use Rattle.es_recorder.specs.Held.{put}
use Rattle.es_recorder.proofs.HeldLemmas.{put-put}
use Rattle.es_lines.specs.Requests.{Asked, asks, refused}
use Rattle.es_lines.specs.declared.request.Request.{Request}
use Rattle.es_lines.specs.declared.request.Request.TheVariants as request
use Rattle.es_lines.specs.declared.ends.End.{End}
use Rattle.es_lines.specs.declared.replies.Reply.{Reply}
use Rattle.es_process.specs.Answer.{Options, Answer, says, accepts, takes, ends, request_answer, takes_reading, put_each, Followed, adds, stops, followed}
use Rattle.es_process.specs.Contents.{Contents, contents, recorded, snapped, added}
use Rattle.es_process.specs.Decision.{Rules, logs_of}
use Rattle.es_process.specs.SingleThread.{Place, Outcome, Turn, finished, goes_on, turn_at, turn_of, line_turn, request_turn, app_turn, answer_turn, readings_after, next_turn, followed_turn, Step, records, snaps, writes, snaps_each, writes_of, Run, steps_of, after, go_on, run_within, IsRun, left_by, written_by, as_line, Goes}
use Rattle.es_process.proofs.AmongLemmas.{put-each, put-here}

-- where one part comes to an end alike, so does the whole
alike : (o p : Option Run) (k : Run → Run) (d : Run) → ((x : Run) → o ≡ Some x → p ≡ Some x) → option_map k o ≡ Some d → option_map k p ≡ Some d
alike None p k d same e = absurd (cc e)
alike (Some x) p k d same e = ap (λ (q : Option Run). option_map k q) (same x refl) ∙ e

goes_alike : (f g : Place → Option Run) → ((p : Place) (d : Run) → f p ≡ Some d → g p ≡ Some d) → (t : Turn) (d : Run) → go_on t f ≡ Some d → go_on t g ≡ Some d
goes_alike f g same (finished e) d is = is
goes_alike f g same (goes_on outcome next) d is = alike (f next) (g next) (after (steps_of outcome)) d (same next) is

after_none : (o : Option Run) → option_map (after []) o ≡ o
after_none None = refl
after_none (Some d) = refl

after_both : (a b : List Step) (o : Option Run) → option_map (after a) (option_map (after b) o) ≡ option_map (after (a ++ b)) o
after_both a b None = refl
after_both a b (Some d) = λ i. Some (record { steps = sym (append_assoc a b d.steps) i; end = d.end })

-- what is left of a run after some of its steps
pub record Rest (steps : List Step) (whole : Run) (o : Option Run) : Type 0 where
  pub run : Run
  pub is : o ≡ Some run
  pub parts : whole ≡ after steps run

rest_of : (steps : List Step) (d : Run) (o : Option Run) → option_map (after steps) o ≡ Some d → Rest steps d o
rest_of steps d None is = absurd (cc is)
rest_of steps d (Some x) is = record { run = x; is = refl; parts = let e : d ≡ after steps x = cc is in e }

-- what steps leave and write, one after another
pub left_by-append : (a b : List Step) (c : Contents) → left_by (a ++ b) c ≡ left_by b (left_by a c)
left_by-append [] b c = refl
left_by-append (records app r ∷ a) b c = left_by-append a b (recorded c app r)
left_by-append (snaps app s ∷ a) b c = left_by-append a b (snapped c app s)
left_by-append (writes t ∷ a) b c = left_by-append a b c

pub written_by-append : (a b : List Step) → written_by (a ++ b) ≡ written_by a ++ written_by b
written_by-append [] b = refl
written_by-append (records app r ∷ a) b = written_by-append a b
written_by-append (snaps app s ∷ a) b = written_by-append a b
written_by-append (writes t ∷ a) b = ap (λ (x : List ℕ). as_line t ++ x) (written_by-append a b) ∙ sym (append_assoc (as_line t) (written_by a) (written_by b))

-- a map in which nothing is changed
pub put-same : {A : Type 0} (q : Name → A) (name : Name) → put q name (q name) ≡ q
put-same q name = λ i n. put-each (λ m y. y ≡ q m) q name (q name) n refl refl i

-- what some snapshots leave
pub left_by-snaps : (app : Name) (ss : List Snapshot) (c : Contents) → left_by (snaps_each app ss) c ≡ contents c.histories (put c.snapshots app (put_each (c.snapshots app) ss))
left_by-snaps app [] c = λ i. contents c.histories (sym (put-same c.snapshots app) i)
left_by-snaps app (s ∷ ss) c =
    left_by-snaps app ss (snapped c app s)
    ∙ (λ i. contents c.histories (put (put c.snapshots app (put_snapshot (c.snapshots app) s)) app (put_each (put-here c.snapshots app (put_snapshot (c.snapshots app) s) i) ss)))
    ∙ (λ i. contents c.histories (put-put c.snapshots app (put_each (put_snapshot (c.snapshots app) s) ss) (put_snapshot (c.snapshots app) s) i))

-- what a recording and its snapshots leave
pub left_by-added : (app : Name) (r : _) (ss : List Snapshot) (c : Contents) → left_by (records app r ∷ snaps_each app ss) c ≡ added c app r ss
left_by-added app r ss c = left_by-snaps app ss (recorded c app r)

-- snapshots write nothing
pub written_by-snaps : (app : Name) (ss : List Snapshot) → written_by (snaps_each app ss) ≡ []
written_by-snaps app [] = refl
written_by-snaps app (s ∷ ss) = written_by-snaps app ss

writes_leave : (o : Option Reply) (c : Contents) → left_by (writes_of o) c ≡ c
writes_leave None c = refl
writes_leave (Some reply) c = refl

-- what a recording and its snapshots leave, and a reply after them
pub steps-left : (app : Name) (r : _) (ss : List Snapshot) (o : Option Reply) (c : Contents) → left_by ((records app r ∷ snaps_each app ss) ++ writes_of o) c ≡ added c app r ss
steps-left app r ss o c = left_by-append (records app r ∷ snaps_each app ss) (writes_of o) c ∙ writes_leave o (left_by (records app r ∷ snaps_each app ss) c) ∙ left_by-added app r ss c

-- what the applications keep after a turn is what its steps leave
abbrev pub Leaves : Contents → Turn → Type 0
Leaves c (finished end) = Unit {0}
Leaves c (goes_on outcome next) = left_by (steps_of outcome) c ≡ next.contents

answer_leaves : (at : Place) (lines : List Line) (app : Name) (readings : Readings) (a : Answer) → Leaves at.contents (answer_turn at lines app readings a)
answer_leaves at lines app readings (says reply) = refl
answer_leaves at lines app readings (accepts r ss reply) =
    steps-left app r ss (Some reply) at.contents
answer_leaves at lines app readings (takes s reply) = refl
answer_leaves at lines app readings (ends end) = tt

followed_leaves : (rules : Rules) (at : Place) (app : Name) (f : Followed) → Leaves at.contents (followed_turn rules at app f)
followed_leaves rules at app (stops end) = tt
followed_leaves rules at app (adds r ss) = steps-left app r ss None at.contents

module _ (rules : Rules) (options : Options) (openings : Histories) where
  app_leaves : (at : Place) (lines : List Line) (app : Name) (r : Request) → Leaves at.contents (app_turn rules options at lines app r)
  app_leaves at lines app r =
      answer_leaves at lines app (readings_after (takes_reading (at.contents.histories app) r) at.readings)
      (request_answer rules options.capacity app (at.contents.histories app) (at.contents.snapshots app) (logs_of at.contents.histories) r (first_reading at.readings))

  request_leaves : (at : Place) (lines : List Line) (a : Asked) → Leaves at.contents (request_turn rules options at lines a)
  request_leaves at lines (refused fault) = refl
  request_leaves at lines (asks request.Sync) = refl
  request_leaves at lines (asks request.Stop) = refl
  request_leaves at lines (asks (request.Do app c)) = app_leaves at lines app (request.Do app c)
  request_leaves at lines (asks (request.Get app id version)) = app_leaves at lines app (request.Get app id version)
  request_leaves at lines (asks (request.Log app section)) = app_leaves at lines app (request.Log app section)
  request_leaves at lines (asks (request.Tracking app leader)) = app_leaves at lines app (request.Tracking app leader)
  request_leaves at lines (asks (request.Snapshot app id)) = app_leaves at lines app (request.Snapshot app id)

  line_leaves : (at : Place) (lines : List Line) → Leaves at.contents (line_turn rules options openings at lines)
  line_leaves at [] = tt
  line_leaves at (text t ∷ lines) = request_leaves at lines (rules.request t)
  line_leaves at (long ∷ lines) = refl
  line_leaves at (over ∷ lines) = tt

  next_leaves : (at : Place) (leader app : Name) (rest : List (Name × Name)) (o : Option StoredEvent) → Leaves at.contents (next_turn rules options at leader app rest o)
  next_leaves at leader app rest None = refl
  next_leaves at leader app rest (Some e) =
      followed_leaves rules at app (followed rules options app (at.contents.histories app) (at.used app) (logs_of at.contents.histories) leader (tracked_in (at.contents.histories app) leader + 1) (first_reading at.readings))

  turn_leaves : (at : Place) (pending : List (Name × Name)) (prompted : List Name) → Leaves at.contents (turn_of rules options openings at pending prompted)
  turn_leaves at (p ∷ rest) prompted = next_leaves at p.0 p.1 rest (slice_get (log (at.contents.histories p.0)) (tracked_in (at.contents.histories p.1) p.0))
  turn_leaves at [] (leader ∷ prompted) = refl
  turn_leaves at [] [] = line_leaves at at.lines

  pub turn-leaves : (at next : Place) (outcome : Outcome) → turn_at rules options openings at ≡ goes_on outcome next → left_by (steps_of outcome) at.contents ≡ next.contents
  turn-leaves at next outcome is = subst (Leaves at.contents) is (turn_leaves at at.pending at.prompted)

  -- a run that ends within some turns ends the same within one more
  run_within-more : (n : ℕ) (at : Place) (d : Run) → run_within n rules options openings at ≡ Some d → run_within (suc n) rules options openings at ≡ Some d
  unfolding run_within
  run_within-more zero at d is = absurd (cc is)
  run_within-more (suc n) at d is =
      goes_alike (λ p. run_within n rules options openings p) (λ p. run_within (suc n) rules options openings p) (λ p x e. run_within-more n p x e) (turn_at rules options openings at) d is

  -- so it does within any greater number
  pub run_within-plus : (k n : ℕ) (at : Place) (d : Run) → run_within n rules options openings at ≡ Some d → run_within (k + n) rules options openings at ≡ Some d
  run_within-plus zero n at d is = ap (λ m. run_within m rules options openings at) (let e : 0 + n ≡ n = omega arith in e) ∙ is
  run_within-plus (suc k) n at d is =
      ap (λ m. run_within m rules options openings at) (let e : suc k + n ≡ suc (k + n) = omega arith in e) ∙ run_within-more (k + n) at d (run_within-plus k n at d is)

  -- there is one run at most
  pub run-unique : (at : Place) (d e : Run) → IsRun rules options openings at d → IsRun rules options openings at e → d ≡ e
  run-unique at d e x y =
      let both : Some d ≡ Some e =
      sym (run_within-plus y.turns x.turns at d x.ends)
      ∙ ap (λ m. run_within m rules options openings at) (let e : y.turns + x.turns ≡ x.turns + y.turns = omega arith in e)
      ∙ run_within-plus x.turns y.turns at e y.ends in
      cc both

  pub run-finished : (at : Place) (end : End) → turn_at rules options openings at ≡ finished end → IsRun rules options openings at (record { steps = []; end = end })
  unfolding run_within
  run-finished at end is = record { turns = 1; ends = ap (λ (t : Turn). go_on t (λ next. run_within 0 rules options openings next)) is }

  -- one turn of a run
  pub run_within-turn : (k : ℕ) (at next : Place) (outcome : Outcome) → turn_at rules options openings at ≡ goes_on outcome next → run_within (suc k) rules options openings at ≡ option_map (after (steps_of outcome)) (run_within k rules options openings next)
  unfolding run_within
  run_within-turn k at next outcome is = ap (λ (t : Turn). go_on t (λ p. run_within k rules options openings p)) is

  pub Goes-none : (at : Place) → Goes rules options openings at at []
  Goes-none at = record { turns = 0; go = λ k. ap (λ m. run_within m rules options openings at) (let e : 0 + k ≡ k = omega arith in e) ∙ sym (after_none (run_within k rules options openings at)); left = refl }

  pub Goes-turn : (at now next : Place) (steps : List Step) (outcome : Outcome) → Goes rules options openings at now steps → turn_at rules options openings now ≡ goes_on outcome next → Goes rules options openings at next (steps ++ steps_of outcome)
  Goes-turn at now next steps outcome so is = record {
    turns = so.turns + 1;
    go = λ k.
        ap (λ m. run_within m rules options openings at) (let e : so.turns + 1 + k ≡ so.turns + suc k = omega arith in e)
        ∙ so.go (suc k)
        ∙ ap (option_map (after steps)) (run_within-turn k now next outcome is)
        ∙ after_both steps (steps_of outcome) (run_within k rules options openings next);
    left = left_by-append steps (steps_of outcome) at.contents ∙ ap (left_by (steps_of outcome)) so.left ∙ turn-leaves now next outcome is;
  }

  pub Goes-then : (at now next : Place) (a b : List Step) → Goes rules options openings at now a → Goes rules options openings now next b → Goes rules options openings at next (a ++ b)
  Goes-then at now next a b x y = record {
    turns = x.turns + y.turns;
    go = λ k.
        ap (λ m. run_within m rules options openings at) (let e : x.turns + y.turns + k ≡ x.turns + (y.turns + k) = omega arith in e)
        ∙ x.go (y.turns + k)
        ∙ ap (option_map (after a)) (y.go k)
        ∙ after_both a b (run_within k rules options openings next);
    left = left_by-append a b at.contents ∙ ap (left_by b) x.left ∙ y.left;
  }

  -- the run from the first place, by the run from the second
  pub Goes-run : (at now : Place) (steps : List Step) (d : Run) → Goes rules options openings at now steps → IsRun rules options openings now d → IsRun rules options openings at (after steps d)
  Goes-run at now steps d so run = record { turns = so.turns + run.turns; ends = so.go run.turns ∙ ap (option_map (after steps)) run.ends }

  pub Goes-end : (at now : Place) (steps : List Step) (end : End) → Goes rules options openings at now steps → turn_at rules options openings now ≡ finished end → IsRun rules options openings at (record { steps = steps; end = end })
  Goes-end at now steps end so is =
      subst (IsRun rules options openings at) (λ k. record { steps = append-nil steps k; end = end }) (Goes-run at now steps (record { steps = []; end = end }) so (run-finished now end is))

  -- the run from the second place, by the run from the first
  pub record After (at now : Place) (steps : List Step) (d : Run) : Type 0 where
    pub run : Run
    pub is : IsRun rules options openings now run
    pub parts : d ≡ after steps run

  pub Goes-after : (at now : Place) (steps : List Step) (d : Run) → Goes rules options openings at now steps → IsRun rules options openings at d → After at now steps d
  Goes-after at now steps d so whole =
      let rest = rest_of steps d (run_within whole.turns rules options openings now) (sym (so.go whole.turns) ∙ run_within-plus so.turns whole.turns at d whole.ends) in
      record { run = rest.run; is = record { turns = whole.turns; ends = rest.is }; parts = rest.parts }

  pub Goes-one : (at next : Place) (outcome : Outcome) → turn_at rules options openings at ≡ goes_on outcome next → Goes rules options openings at next (steps_of outcome)
  Goes-one at next outcome is = Goes-turn at at next [] outcome (Goes-none at) is
