-- The histories that any first steps of a run leave are consistent, and what these steps write is a session over them.
use Rattle.std.proofs.Common.{◌≡◌, ◌≤◌, ◌<◌, inl, inr, ℕ, ℤ, ◌+◌, Bool, true, false, List, [], ◌∷◌, ◌++◌, length, take, drop, slice_get, Contains, Option, Some, None, IfSome, refl, sym, ap, ◌∙◌, subst, append-nil, append_assoc, length-append, take_all, take_at, le_refl, arith}
use Rattle.std.specs.Str.{bytes_eq}
use Rattle.std.proofs.lemmas.Bool.{cases_eq}
use Rattle.std.proofs.lemmas.List.{map_push, flat_map_more, length_push, length-map, drop_all}
use Rattle.std.proofs.lemmas.Option.{slice_get_within}
use Rattle.es_model.specs.declared.event.StoredEvent.{StoredEvent}
use Rattle.es_model.specs.declared.event.Recording.{Recording}
use Rattle.es_model.specs.declared.event.Cause.TheVariants.{Command, Notification}
use Rattle.es_model.specs.declared.snapshot.Snapshot.{Snapshot}
use Rattle.es_model.specs.History.{Histories, log}
use Rattle.es_model.specs.Lines.{Line, text, long, over}
use Rattle.es_model.specs.Tracking.{tracked_in}
use Rattle.es_model.specs.Values.{Name}
use Rattle.es_model.proofs.HistoryLemmas.{log-append}
use Rattle.es_io.specs.Readings.{Readings, first_reading, later_readings}
use Rattle.es_recorder.specs.Held.{put}
use Rattle.es_lines.specs.CommandText.{command_text}
use Rattle.es_lines.specs.Requests.{Asked, asks, refused, app_asked}
use Rattle.es_lines.specs.declared.request.Request.{Request}
use Rattle.es_lines.specs.declared.request.Request.TheVariants as request
use Rattle.es_lines.specs.declared.ends.End.{End}
use Rattle.es_lines.specs.declared.ends.End.TheVariants.{Ok, Over}
use Rattle.es_lines.specs.declared.replies.Reply.{Reply}
use Rattle.es_lines.specs.declared.replies.Reply.TheVariants.{Long, Sync, Stop}
use Rattle.es_process.specs.Answer.{Options, Answer, says, accepts, takes, ends, request_answer, takes_reading, put_each, due_of, Followed, adds, stops, followed}
use Rattle.es_process.specs.Consistent.{IsConsistent}
use Rattle.es_process.specs.Contents.{Contents, added, snapped}
use Rattle.es_process.specs.Decision.{Rules, logs_of}
use Rattle.es_process.specs.Follows.{ComesNext}
use Rattle.es_process.specs.inner.Lawful.{IsLawful}
use Rattle.es_process.specs.Questions.{reply_to}
use Rattle.es_process.specs.Session.{Answered, IsReading, Watched, at_opening, grown, snapshots_at, watch, watched, IsGiven, IsAt, AnswersOf, AnswersLine, AnswersRequest, AreAnswered, lines_in, replies_in, writes_in, accepted_in, if_of, commands_in, is_command, IsOfFirst, IsSession}
use Rattle.es_process.specs.SingleThread.{Place, Turn, finished, goes_on, turn_at, turn_of, line_turn, request_turn, app_turn, answer_turn, readings_after, next_turn, followed_turn, past_line, only_says, only_adds, adds_and_says, snaps_and_says, does_nothing, prompt, led_by, added_counts, Step, records, snaps, writes, snaps_each, steps_of, Run, IsRun, start, left_by, written_by, as_line}
use Rattle.es_lines.specs.Texts.{reply_text}
use Rattle.es_process.proofs.AmongLemmas.{contains-here, contains-later, contains-none, contains-filter, put-here, put-each}
use Rattle.es_process.proofs.ConsistentLemmas.{IsConsistent-opening, IsConsistent-push}
use Rattle.es_process.proofs.DecidedLemmas.{IsDecided, AcceptsCommand, request-accepts, request-ends, followed-adds, followed-due, followed-stops, same_version}
use Rattle.es_process.proofs.FollowsLemmas.{Grows-same, Grows-put, Follows-longer}
use Rattle.es_process.proofs.RunReachedLemmas.{Chases, KeepsChase, all-caught, turn-chases, start-chases}
use Rattle.es_process.proofs.SessionLemmas.{AllSee, all-synced, AllSee-grows, AllSee-push, request-local, first-reading, later-reading, watched_all, watched_all-push, watched_all-grows, snapshots-grow, watch-grows, IsWithin, IsWatched, watch-all, within-watch, watch-recorded, AreAnswered-grows, AreAnswered-push, accepted_in-push, granted-command, granted-notified}
use Rattle.es_process.proofs.SingleThreadLemmas.{left_by-append, left_by-added, steps-left, written_by-append, written_by-snaps, put-same}
use Rattle.es_process.proofs.TurnsLemmas.{Keeps, run-holds, run-ends}

writes_in-append : (a b : List Step) → writes_in (a ++ b) ≡ writes_in a + writes_in b
writes_in-append [] b = omega arith
writes_in-append (records app r ∷ a) b = writes_in-append a b
writes_in-append (snaps app s ∷ a) b = writes_in-append a b
writes_in-append (writes t ∷ a) b = omega (arith, writes_in-append a b)

slice_get-last : {A : Type 0} (xs : List A) (y : A) → slice_get (xs ++ y ∷ []) (length xs) ≡ Some y
slice_get-last [] y = refl
slice_get-last (x ∷ xs) y = slice_get-last xs y

drop_none : {A : Type 0} (xs : List A) → drop (length xs) xs ≡ []
drop_none xs = drop_all (length xs) xs (le_refl (length xs))

-- what holds of the fronts of a list of one or two elements
front_of_one : {A : Type 0} (P : List A → Type 0) (x : A) → P [] → P (x ∷ []) → (front rest : List A) → x ∷ [] ≡ front ++ rest → P front
front_of_one P x none one [] rest is = none
front_of_one P x none one (y ∷ []) rest is = let same : x ≡ y = cc is in subst (λ z. P (z ∷ [])) same one
front_of_one P x none one (y ∷ z ∷ front) rest is = let clash : [] ≡ z ∷ (front ++ rest) = cc is in absurd (cc clash)

front_of_two : {A : Type 0} (P : List A → Type 0) (x y : A) → P [] → P (x ∷ []) → P (x ∷ y ∷ []) → (front rest : List A) → x ∷ y ∷ [] ≡ front ++ rest → P front
front_of_two P x y none one two [] rest is = none
front_of_two P x y none one two (z ∷ front) rest is =
    let same : x ≡ z = cc is in
    let behind : y ∷ [] ≡ front ++ rest = cc is in
    front_of_one (λ t. P (z ∷ t)) y (subst (λ w. P (w ∷ [])) same one) (subst (λ w. P (w ∷ y ∷ [])) same two) front rest behind

-- snapshots are no replies
writes_in-snaps : (app : Name) (ss : List Snapshot) → writes_in (snaps_each app ss) ≡ 0
writes_in-snaps app [] = refl
writes_in-snaps app (s ∷ ss) = writes_in-snaps app ss

-- what holds of some snapshots, and of all of them with a front of what comes behind, holds of each front
front_of_snaps : (P : List Step → Type 0) (app : Name) (ss : List Snapshot) (tail : List Step) → ((some : List Snapshot) → P (snaps_each app some)) → ((front rest : List Step) → tail ≡ front ++ rest → P (snaps_each app ss ++ front))
    → (front rest : List Step) → snaps_each app ss ++ tail ≡ front ++ rest → P front
front_of_snaps P app [] tail each all front rest is = all front rest is
front_of_snaps P app (s ∷ ss) tail each all [] rest is = each []
front_of_snaps P app (s ∷ ss) tail each all (x ∷ front) rest is =
    let same : snaps app s ≡ x = cc is in
    let behind : snaps_each app ss ++ tail ≡ front ++ rest = cc is in
    subst (λ y. P (y ∷ front)) same (front_of_snaps (λ t. P (snaps app s ∷ t)) app ss tail (λ some. each (s ∷ some)) all front rest behind)

-- the same of a recording with its snapshots
front_of_added : (P : List Step → Type 0) (app : Name) (r : Recording) (ss : List Snapshot) (tail : List Step) → P [] → ((some : List Snapshot) → P (records app r ∷ snaps_each app some)) → ((front rest : List Step) → tail ≡ front ++ rest → P ((records app r ∷ snaps_each app ss) ++ front))
    → (front rest : List Step) → (records app r ∷ snaps_each app ss) ++ tail ≡ front ++ rest → P front
front_of_added P app r ss tail none each all [] rest is = none
front_of_added P app r ss tail none each all (x ∷ front) rest is =
    let same : records app r ≡ x = cc is in
    let behind : snaps_each app ss ++ tail ≡ front ++ rest = cc is in
    subst (λ y. P (y ∷ front)) same (front_of_snaps (λ t. P (records app r ∷ t)) app ss tail each all front rest behind)

module _ (rules : Rules) (lawful : IsLawful rules) (options : Options) (opening : Contents) (readings : Readings) (lines : List Line) where
  abbrev openings : Histories
  openings = opening.histories

  -- what has been watched once these lines were answered
  abbrev watched_over : Histories → List Answered → Watched
  watched_over h answered = watched_all rules h (at_opening opening) answered

  -- where a run stands after some steps
  record Stands (done : List Step) (at : Place) : Type 0 where
    left : left_by done opening ≡ at.contents
    consistent : IsConsistent rules openings at.contents.histories
    answered : List Answered
    parts : lines ≡ lines_in answered ++ at.lines
    longer : IsWithin (at_opening opening) at.contents.histories
    each : AreAnswered rules options openings at.contents.histories readings (at_opening opening) answered
    within : IsWithin (watched_over at.contents.histories answered) at.contents.histories
    kept : IsWatched rules (watched_over at.contents.histories answered) at.contents.histories at.contents.snapshots
    counted : writes_in done ≡ length answered
    numbered : at.answered ≡ writes_in done
    written : written_by done ≡ replies_in answered
    granted : (b : Name) → Contains rules.names b → commands_in (drop (length (openings b)) (at.contents.histories b)) ≡ accepted_in b answered
    seen : AllSee rules openings at.contents.histories answered
    later : (m : ℤ) → IsReading at.readings m → IsReading readings m
    pending : (p : Name × Name) → Contains at.pending p → Contains rules.pairs p

  -- what is told of the first steps of a run
  abbrev Session : List Step → ℕ → Type 0
  Session done status = IsSession rules options opening (left_by done opening).histories readings lines (writes_in done) (written_by done) status

  record Holds (done : List Step) : Type 0 where
    consistent : IsConsistent rules openings (left_by done opening).histories
    session : (status : ℕ) → (status ≡ 0 → ⊥) → Session done status

  -- what is told of all of them, where the lines are at an end
  record EndsWell (done : List Step) (added : List (Name × ℕ)) (count : ℕ) : Type 0 where
    counts : added ≡ added_counts rules.names openings (left_by done opening).histories
    number : count ≡ writes_in done
    all : count ≡ length lines

  record Ends (done : List Step) (end : End) : Type 0 where
    session : (status : ℕ) → Session done status
    well : (added : List (Name × ℕ)) (count : ℕ) → end ≡ Ok added count → EndsWell done added count

  left_histories : (done : List Step) (at : Place) → Stands done at → (left_by done opening).histories ≡ at.contents.histories
  left_histories done at so = ap (λ (c : Contents). c.histories) so.left

  -- steps that change no history and write nothing keep what is told
  quiet_session : (done steps : List Step) (at : Place) → Stands done at → (left_by (done ++ steps) opening).histories ≡ at.contents.histories → writes_in steps ≡ 0 → written_by steps ≡ [] → (status : ℕ) → Session (done ++ steps) status
  quiet_session done steps at so same none silent status =
      subst (λ h. IsSession rules options opening h readings lines (writes_in (done ++ steps)) (written_by (done ++ steps)) status) (sym same)
      (record {
        answered = so.answered;
        rest = at.lines;
        parts = so.parts;
        counted = omega (arith, writes_in-append done steps, none, so.counted);
        each = so.each;
        synced = all-synced rules openings at.contents.histories so.answered so.seen;
        written = written_by-append done steps ∙ ap (λ (t : List ℕ). written_by done ++ t) silent ∙ append-nil (written_by done) ∙ so.written;
        more = None;
        granted = λ b declared. so.granted b declared ∙ sym (append-nil (accepted_in b so.answered));
        next = tt;
        none = λ is. refl;
      })

  quiet_holds : (done steps : List Step) (at : Place) → Stands done at → (left_by (done ++ steps) opening).histories ≡ at.contents.histories → writes_in steps ≡ 0 → written_by steps ≡ [] → Holds (done ++ steps)
  quiet_holds done steps at so same none silent = record {
    consistent = subst (IsConsistent rules openings) (sym same) so.consistent;
    session = λ status failed. quiet_session done steps at so same none silent status;
  }

  stands_session : (done : List Step) (at : Place) → Stands done at → (status : ℕ) → Session done status
  stands_session done at so status =
      subst (λ (t : List Step). Session t status) (append-nil done)
      (quiet_session done [] at so (ap (λ (t : List Step). (left_by t opening).histories) (append-nil done) ∙ left_histories done at so) refl refl status)

  stands_holds : (done : List Step) (at : Place) → Stands done at → Holds done
  stands_holds done at so = record { consistent = subst (IsConsistent rules openings) (sym (left_histories done at so)) so.consistent; session = λ status failed. stands_session done at so status }

  -- an end that isn't that of the lines
  stands_ends : (done : List Step) (at : Place) (end : End) → Stands done at → ((added : List (Name × ℕ)) (count : ℕ) → end ≡ Ok added count → EndsWell done added count) → Ends done end
  stands_ends done at end so well = record { session = stands_session done at so; well = well }

  -- a turn that does nothing, but to the leaders that are prompted and the pairs that are pending
  idles : (done : List Step) (at : Place) (prompted : List Name) (pending : List (Name × Name)) → Stands done at → ((p : Name × Name) → Contains pending p → Contains rules.pairs p) → Stands done (record at { prompted = prompted; pending = pending })
  idles done at prompted pending so among = record {
    left = so.left;
    consistent = so.consistent;
    answered = so.answered;
    parts = so.parts;
    longer = so.longer;
    each = so.each;
    within = so.within;
    kept = so.kept;
    counted = so.counted;
    numbered = so.numbered;
    written = so.written;
    granted = so.granted;
    seen = so.seen;
    later = so.later;
    pending = among;
  }

  abbrev KeepsHere : List Step → Turn → Type 0
  KeepsHere = Keeps rules options openings Stands Holds Ends

  idles_keeps : (done : List Step) (at next : Place) → Stands done at → Stands done next → KeepsHere done (goes_on does_nothing next)
  idles_keeps done at next so onward =
      (λ front rest is. nothing front rest is, subst (λ t. Stands t next) (sym (append-nil done)) onward)
    where
      nothing : (front rest : List Step) → [] ≡ front ++ rest → Holds (done ++ front)
      nothing [] rest is = subst Holds (sym (append-nil done)) (stands_holds done at so)
      nothing (x ∷ front) rest is = absurd (cc is)

  none_yet : (done : List Step) (at : Place) → Stands done at → Holds (done ++ [])
  none_yet done at so = subst Holds (sym (append-nil done)) (stands_holds done at so)

  -- each follower tracks its leaders' last notifications
  abbrev Caught : Place → Type 0
  Caught at = (p : Name × Name) → Contains rules.pairs p → length (log (at.contents.histories p.0)) ≤ tracked_in (at.contents.histories p.1) p.0

  longer_logs : (done : List Step) (at : Place) → Stands done at → (leader : Name) → Contains rules.names leader → length (log (openings leader)) ≤ length (log (at.contents.histories leader))
  longer_logs done at so leader declared =
      let f = so.consistent.follow leader declared in
      omega (arith, ap (λ h. length (log h)) f.parts, ap length (log-append (openings leader) f.added), length-append (log (openings leader)) (log f.added))

  -- no mark is past what is there, once one recording more is
  within-more : (w : Watched) (h : Histories) (app : Name) (r : Recording) → IsWithin w h → IsWithin w (put h app (h app ++ r ∷ []))
  within-more w h app r so n = put-each (λ m x. w.marks m ≤ length x) h app (h app ++ r ∷ []) n (omega (arith, so app, length_push (h app) r)) (so n)

  -- what has been watched is the same, once one recording more is there
  module _ (done : List Step) (at : Place) (so : Stands done at) (app : Name) (r : Recording) where
    abbrev now : Histories
    now = at.contents.histories

    abbrev more : Histories
    more = put now app (now app ++ r ∷ [])

    watched_same : watched_over more so.answered ≡ watched_over now so.answered
    watched_same = watched_all-grows rules options openings now more readings lawful.local (Grows-put now app r) (at_opening opening) so.longer so.answered so.each

    within_recorded : IsWithin (watched_over more so.answered) more
    within_recorded = subst (λ w. IsWithin w more) (sym watched_same) (within-more (watched_over now so.answered) now app r so.within)

    kept_recorded : (ss : List Snapshot) → ss ≡ due_of rules (now app) r → IsWatched rules (watched_over more so.answered) more (added at.contents app r ss).snapshots
    kept_recorded ss due =
        subst (λ w. IsWatched rules w more (added at.contents app r ss).snapshots) (sym watched_same)
        (subst (λ ts. IsWatched rules (watched_over now so.answered) more (put at.contents.snapshots app (put_each (at.contents.snapshots app) ts))) (sym due)
        (watch-recorded rules now (watched_over now so.answered) at.contents.snapshots app r so.within so.kept))

  -- the next line is answered
  module _ (done : List Step) (at : Place) (so : Stands done at) (caught : Caught at) (line : Line) (rest : List Line) (is : at.lines ≡ line ∷ rest) where
    parts_push : (x : Answered) → x.line ≡ line → lines ≡ lines_in (so.answered ++ x ∷ []) ++ rest
    parts_push x same =
        so.parts
        ∙ ap (λ (t : List Line). lines_in so.answered ++ t) (is ∙ (λ i. sym same i ∷ rest))
        ∙ sym (append_assoc (lines_in so.answered) (x.line ∷ []) rest)
        ∙ ap (λ (t : List Line). t ++ rest) (sym (map_push (λ (y : Answered). y.line) so.answered x))

    counted_push : (x : Answered) (steps : List Step) → writes_in steps ≡ 1 → writes_in (done ++ steps) ≡ length (so.answered ++ x ∷ [])
    counted_push x steps one = omega (arith, writes_in-append done steps, so.counted, length_push so.answered x)

    numbered_push : (steps : List Step) → writes_in steps ≡ 1 → at.answered + 1 ≡ writes_in (done ++ steps)
    numbered_push steps one = omega (arith, writes_in-append done steps, so.numbered)

    written_push : (x : Answered) (steps : List Step) → written_by steps ≡ as_line (reply_text x.reply) ++ [] → written_by (done ++ steps) ≡ replies_in (so.answered ++ x ∷ [])
    written_push x steps same =
        written_by-append done steps
        ∙ (λ i. so.written i ++ (same ∙ append-nil (as_line (reply_text x.reply))) i)
        ∙ flat_map_more (λ (y : Answered). as_line (reply_text y.reply)) [] so.answered x

    -- by a reply that adds no recording, after steps that change no history; what is kept then is watched
    module _ (x : Answered) (before : List Step) (contents : Contents) (rs : Readings) (same : x.line ≡ line) (none : x.added ≡ None)
        (answers : AnswersLine rules options openings at.contents.histories readings (watched_over at.contents.histories so.answered) x.line x) (late : (b : Name) → x.app ≡ Some b → length (at.contents.histories b) ≤ x.mark)
        (fewer : (m : ℤ) → IsReading rs m → IsReading at.readings m) (histories : contents.histories ≡ at.contents.histories)
        (made : left_by (before ++ writes (reply_text x.reply) ∷ []) at.contents ≡ contents) (silent : written_by before ≡ []) (uncounted : writes_in before ≡ 0)
        (within : IsWithin (watched rules at.contents.histories (watched_over at.contents.histories so.answered) x) at.contents.histories)
        (kept : IsWatched rules (watched rules at.contents.histories (watched_over at.contents.histories so.answered) x) at.contents.histories contents.snapshots) where
      abbrev steps : List Step
      steps = before ++ writes (reply_text x.reply) ∷ []

      abbrev said_next : Place
      said_next = record (past_line at rest) { contents = contents; readings = rs }

      one_reply : writes_in steps ≡ 1
      one_reply = omega (arith, writes_in-append before (writes (reply_text x.reply) ∷ []), uncounted)

      its_text : written_by steps ≡ as_line (reply_text x.reply) ++ []
      its_text = written_by-append before (writes (reply_text x.reply) ∷ []) ∙ ap (λ (t : List ℕ). t ++ (as_line (reply_text x.reply) ++ [])) silent

      abbrev SaidStands : Histories → Type 0
      SaidStands h =
          IsConsistent rules openings h × IsWithin (at_opening opening) h × AreAnswered rules options openings h readings (at_opening opening) (so.answered ++ x ∷ [])
          × IsWithin (watched_over h (so.answered ++ x ∷ [])) h × IsWatched rules (watched_over h (so.answered ++ x ∷ [])) h contents.snapshots
          × ((b : Name) → Contains rules.names b → commands_in (drop (length (openings b)) (h b)) ≡ accepted_in b (so.answered ++ x ∷ [])) × AllSee rules openings h (so.answered ++ x ∷ [])

      its_watched : watched_over at.contents.histories (so.answered ++ x ∷ []) ≡ watched rules at.contents.histories (watched_over at.contents.histories so.answered) x
      its_watched = watched_all-push rules at.contents.histories (at_opening opening) so.answered x

      said_histories : SaidStands at.contents.histories
      said_histories = (
        so.consistent,
        so.longer,
        AreAnswered-push rules options openings at.contents.histories at.contents.histories readings lawful.local (Grows-same at.contents.histories) (at_opening opening) so.longer so.answered x so.each answers late,
        subst (λ w. IsWithin w at.contents.histories) (sym its_watched) within,
        subst (λ w. IsWatched rules w at.contents.histories contents.snapshots) (sym its_watched) kept,
        (λ b declared. so.granted b declared ∙ sym (accepted_in-push b so.answered x ∙ (λ i. accepted_in b so.answered ++ if_of b (none i)) ∙ append-nil (accepted_in b so.answered))),
        AllSee-push rules options openings at.contents.histories at.contents.histories readings lawful.local (Grows-same at.contents.histories) x (longer_logs done at so) (λ p there. (lawful.paired p there).0) caught (λ b named. take_all x.mark (at.contents.histories b) (late b named)) (at_opening opening) so.answered so.each so.seen,
      )

      said : Stands (done ++ steps) said_next
      said =
          let all : SaidStands contents.histories = subst SaidStands (sym histories) said_histories in
          record {
            left = left_by-append done steps opening ∙ ap (left_by steps) so.left ∙ made;
            consistent = all.0;
            answered = so.answered ++ x ∷ [];
            parts = parts_push x same;
            longer = all.1;
            each = all.2;
            within = all.3;
            kept = all.4;
            counted = counted_push x steps one_reply;
            numbered = numbered_push steps one_reply;
            written = written_push x steps its_text;
            granted = all.5;
            seen = all.6;
            later = λ m reading. so.later m (fewer m reading);
            pending = so.pending;
          }

    -- by a reply alone, of a line of no application
    unasked_keeps : (x : Answered) → x.line ≡ line → x.added ≡ None → x.app ≡ None → AnswersLine rules options openings at.contents.histories readings (watched_over at.contents.histories so.answered) x.line x → KeepsHere done (goes_on (only_says x.reply) (past_line at rest))
    unasked_keeps x same none unnamed answers =
        let unmarked : watched rules at.contents.histories (watched_over at.contents.histories so.answered) x ≡ watched_over at.contents.histories so.answered = unwatched x.app unnamed in
        let stands : Stands (done ++ writes (reply_text x.reply) ∷ []) (past_line at rest) =
        said x [] at.contents at.readings same none answers (λ b named. let clash : None ≡ Some b = sym unnamed ∙ named in absurd (cc clash)) (λ m reading. reading) refl refl refl refl
        (subst (λ w. IsWithin w at.contents.histories) (sym unmarked) so.within) (subst (λ w. IsWatched rules w at.contents.histories at.contents.snapshots) (sym unmarked) so.kept) in
        (front_of_one (λ t. Holds (done ++ t)) (writes (reply_text x.reply)) (none_yet done at so) (stands_holds (done ++ writes (reply_text x.reply) ∷ []) (past_line at rest) stands), stands)
      where
        unwatched : (o : Option Name) → o ≡ None → watch rules at.contents.histories (watched_over at.contents.histories so.answered) o x.mark x.taken ≡ watched_over at.contents.histories so.answered
        unwatched None unnamed = refl
        unwatched (Some app) unnamed = absurd (cc unnamed)

  -- the next line asks something of an application
  module _ (done : List Step) (at : Place) (so : Stands done at) (caught : Caught at) (t : List ℕ) (rest : List Line) (is : at.lines ≡ text t ∷ rest) (app : Name) (asked : Request) (request_is : rules.request t ≡ asks asked) (about : app_asked asked ≡ Some app)
      (through : (x : Answered) (h : Histories) (w : Watched) → AnswersOf rules options openings h readings w app asked x → AnswersRequest rules options openings h readings w (asks asked) x) where
    abbrev h : Histories
    h = at.contents.histories

    abbrev w : Watched
    w = watched_over h so.answered

    abbrev its_answer : Answer
    its_answer = request_answer rules options.capacity app (h app) (at.contents.snapshots app) (logs_of h) asked (first_reading at.readings)

    abbrev its_readings : Readings
    its_readings = readings_after (takes_reading (h app) asked) at.readings

    fewer : (b : Bool) (m : ℤ) → IsReading (readings_after b at.readings) m → IsReading at.readings m
    fewer true m reading = later-reading at.readings m reading
    fewer false m reading = reading

    declared_app : Contains rules.names app
    declared_app = lawful.named t asked app request_is about

    past_opening : length (openings app) ≤ length (h app)
    past_opening = Follows-longer rules app (openings app) (h app) (logs_of h) (so.consistent.follow app declared_app)

    whole_front : take (length (h app)) (h app) ≡ h app
    whole_front = take_all (length (h app)) (h app) (le_refl (length (h app)))

    abbrev answered_over : Option (Name × Recording) → Option Snapshot → Reply → Answered
    answered_over added taken reply = record { line = text t; app = Some app; mark = length (h app); at = first_reading at.readings; added = added; taken = taken; reply = reply }

    late : (b : Name) → Some app ≡ Some b → length (h b) ≤ length (h app)
    late b same = let names : app ≡ b = cc same in subst (λ n. length (h n) ≤ length (h app)) names (le_refl (length (h app)))

    -- over all that is there the answer is this one
    answer_here : request_answer rules options.capacity app (take (length (h app)) (h app)) (snapshots_at rules h w app (length (h app))) (logs_of h) asked (first_reading at.readings) ≡ its_answer
    answer_here = λ i. request_answer rules options.capacity app (whole_front i) (sym (so.kept app) i) (logs_of h) asked (first_reading at.readings)

    -- it is given without a recording
    answers_so : (x : Answered) (a : Answer) → x.app ≡ Some app → x.mark ≡ length (h app) → x.at ≡ first_reading at.readings → x.added ≡ None → x.line ≡ text t → its_answer ≡ a → IsGiven app a x → AnswersLine rules options openings h readings w x.line x
    answers_so x a named mark moment none line so_is given =
        subst (λ l. AnswersLine rules options openings h readings w l x) (sym line)
        (subst (λ q. AnswersRequest rules options openings h readings w q x) (sym request_is)
        (through x h w (record {
          named = named;
          from = omega (arith, mark, past_opening);
          upto = omega (arith, mark);
          moment = λ takes_one. subst (IsReading readings) (sym moment) (so.later (first_reading at.readings) (first-reading at.readings));
          given = subst (λ b. IsGiven app b x) (sym so_is ∙ sym answer_here ∙ (λ i. request_answer rules options.capacity app (take (sym mark i) (h app)) (snapshots_at rules h w app (sym mark i)) (logs_of h) asked (sym moment i))) given;
          stands = subst (λ o. IfSome o (λ y. IsAt h app x.mark y)) (sym none) tt;
        })))

    -- a reply alone
    says_keeps : (reply : Reply) → its_answer ≡ says reply → KeepsHere done (goes_on (only_says reply) (record (past_line at rest) { readings = its_readings }))
    says_keeps reply so_is =
        let x : Answered = answered_over None None reply in
        let stands : Stands (done ++ writes (reply_text reply) ∷ []) (record (past_line at rest) { readings = its_readings }) =
        said done at so caught (text t) rest is x [] at.contents its_readings refl refl (answers_so x (says reply) refl refl refl refl refl so_is (refl, refl, refl)) late (fewer (takes_reading (h app) asked)) refl refl refl refl
        (within-watch rules h w app (length (h app)) None (le_refl (length (h app))) so.within)
        (subst (λ q. IsWatched rules (watch rules h w (Some app) (length (h app)) None) h q) (put-same at.contents.snapshots app) (watch-all rules h w at.contents.snapshots app None so.kept)) in
        (front_of_one (λ s. Holds (done ++ s)) (writes (reply_text reply)) (none_yet done at so) (stands_holds (done ++ writes (reply_text reply) ∷ []) (record (past_line at rest) { readings = its_readings }) stands), stands)

    -- a snapshot, and then a reply
    takes_keeps : (s : Snapshot) (reply : Reply) → its_answer ≡ takes s reply → KeepsHere done (goes_on (snaps_and_says app s reply) (record (past_line at rest) { contents = snapped at.contents app s; readings = its_readings }))
    takes_keeps s reply so_is =
        let x : Answered = answered_over None (Some s) reply in
        let next : Place = record (past_line at rest) { contents = snapped at.contents app s; readings = its_readings } in
        let stands : Stands (done ++ snaps app s ∷ writes (reply_text reply) ∷ []) next =
        said done at so caught (text t) rest is x (snaps app s ∷ []) (snapped at.contents app s) its_readings refl refl (answers_so x (takes s reply) refl refl refl refl refl so_is (refl, refl, refl)) late (fewer (takes_reading (h app) asked)) refl refl refl refl
        (within-watch rules h w app (length (h app)) (Some s) (le_refl (length (h app))) so.within) (watch-all rules h w at.contents.snapshots app (Some s) so.kept) in
        let half : Holds (done ++ snaps app s ∷ []) =
        quiet_holds done (snaps app s ∷ []) at so (ap (λ (c : Contents). c.histories) (left_by-append done (snaps app s ∷ []) opening) ∙ left_histories done at so) refl refl in
        (front_of_two (λ f. Holds (done ++ f)) (snaps app s) (writes (reply_text reply)) (none_yet done at so) half (stands_holds (done ++ snaps app s ∷ writes (reply_text reply) ∷ []) next stands), stands)

    -- an accepted command
    module _ (r : Recording) (ss : List Snapshot) (reply : Reply) (accepts_so : its_answer ≡ accepts r ss reply) where
      so_is : AcceptsCommand rules app (h app) (logs_of h) (first_reading at.readings) asked r ss
      so_is = request-accepts rules app (h app) (logs_of h) (first_reading at.readings) options.capacity (at.contents.snapshots app) asked r ss reply accepts_so

      -- it's a command of this application
      own_name : (other : Name) → asked ≡ request.Do other so_is.command → other ≡ app
      own_name other same = let named : Some other ≡ Some app = ap app_asked (sym same) ∙ about in cc named

      asks_command : rules.request t ≡ asks (request.Do app so_is.command)
      asks_command = request_is ∙ ap asks (so_is.is_asked ∙ ap (λ n. request.Do n so_is.command) (own_name so_is.other so_is.is_asked))

      caused : r.cause ≡ Command (command_text app so_is.command)
      caused = sym (ap (λ (s : Recording). s.cause) so_is.decided.is)

      comes : ComesNext rules app (h app) (logs_of h) r
      comes = subst (ComesNext rules app (h app) (logs_of h)) so_is.decided.is (record {
        cause = record {
          command = so_is.command;
          is_asked = lawful.canonical t app so_is.command asks_command;
          canonical = refl;
          expected = same_version (h app) so_is.command.id so_is.command.expect so_is.unmet;
        };
        decided = so_is.decided.decided;
      })

      abbrev after_it : Histories
      after_it = put h app (h app ++ r ∷ [])

      there : after_it app ≡ h app ++ r ∷ []
      there = put-here h app (h app ++ r ∷ [])

      front_there : take (length (h app)) (after_it app) ≡ h app
      front_there = ap (λ (x : List Recording). take (length (h app)) x) there ∙ take_at (h app) (r ∷ []) (length (h app)) refl

      granted_more : (b : Name) → Contains rules.names b → commands_in (drop (length (openings b)) (after_it b)) ≡ accepted_in b so.answered ++ if_of b (Some (app, r))
      granted_more b declared = granted-command openings h app r past_opening (ap is_command caused) b ∙ ap (λ (s : List Recording). s ++ if_of b (Some (app, r))) (so.granted b declared)

      -- its recording stands and some snapshots, and its reply isn't written yet
      half_holds : (some : List Snapshot) → Holds (done ++ records app r ∷ snaps_each app some)
      half_holds some =
          let steps : List Step = records app r ∷ snaps_each app some in
          let left : (left_by (done ++ steps) opening).histories ≡ after_it =
          ap (λ (c : Contents). c.histories) (left_by-append done steps opening ∙ ap (left_by steps) so.left ∙ left_by-added app r some at.contents) in
          record {
            consistent = subst (IsConsistent rules openings) (sym left) (IsConsistent-push rules lawful openings h app r comes so.consistent);
            session = λ status failed.
                subst (λ k. IsSession rules options opening k readings lines (writes_in (done ++ steps)) (written_by (done ++ steps)) status) (sym left)
                (record {
                  answered = so.answered;
                  rest = at.lines;
                  parts = so.parts;
                  counted = omega (arith, writes_in-append done steps, writes_in-snaps app some, so.counted);
                  each = AreAnswered-grows rules options openings h after_it readings lawful.local (Grows-put h app r) (at_opening opening) so.longer so.answered so.each;
                  synced = all-synced rules openings after_it so.answered (AllSee-grows rules options openings h after_it readings lawful.local (Grows-put h app r) (at_opening opening) so.answered so.each so.seen);
                  written = written_by-append done steps ∙ ap (λ (x : List ℕ). written_by done ++ x) (written_by-snaps app some) ∙ append-nil (written_by done) ∙ so.written;
                  more = Some (app, r);
                  granted = granted_more;
                  next = subst (λ ls. IsOfFirst rules ls (app, r)) (sym is) (record { command = so_is.command; is_asked = asks_command; caused = caused });
                  none = λ ok. absurd (failed ok);
                });
          }

      abbrev both_steps : List Step
      both_steps = steps_of (adds_and_says app r ss reply)

      abbrev after_both : Place
      after_both = record (past_line at rest) { contents = added at.contents app r ss; readings = its_readings; prompted = app ∷ [] }

      abbrev x : Answered
      x = answered_over (Some (app, r)) None reply

      accepted_answers : AnswersRequest rules options openings after_it readings w (rules.request t) x
      accepted_answers = subst (λ q. AnswersRequest rules options openings after_it readings w q x) (sym request_is) (through x after_it w (record {
        named = refl;
        from = past_opening;
        upto = omega (arith, ap length there, length_push (h app) r);
        moment = λ takes_one. so.later (first_reading at.readings) (first-reading at.readings);
        given = subst (λ a. IsGiven app a x)
            (sym accepts_so
            ∙ request-local rules lawful.local options.capacity app (h app) (at.contents.snapshots app) (logs_of h) (logs_of after_it) asked (first_reading at.readings)
            ∙ (λ i. request_answer rules options.capacity app (sym front_there i) (kept_there i) (logs_of after_it) asked (first_reading at.readings)))
            (refl, refl, refl);
        stands = (refl, ap (λ (y : List Recording). slice_get y (length (h app))) there ∙ slice_get-last (h app) r);
      }))
        where
          kept_there : at.contents.snapshots app ≡ snapshots_at rules after_it w app (length (h app))
          kept_there = so.kept app ∙ sym (snapshots-grow rules options openings h after_it readings lawful.local (Grows-put h app r) w app (length (h app)) (so.within app) (le_refl (length (h app))))

      both_each : AreAnswered rules options openings after_it readings (at_opening opening) (so.answered ++ x ∷ [])
      both_each = AreAnswered-push rules options openings h after_it readings lawful.local (Grows-put h app r) (at_opening opening) so.longer so.answered x so.each accepted_answers late

      -- what has been watched with this line is the same once the recording is there
      abbrev v : Watched
      v = watch rules h w (Some app) (length (h app)) None

      watched_then : watched_over after_it (so.answered ++ x ∷ []) ≡ v
      watched_then =
          watched_all-push rules after_it (at_opening opening) so.answered x
          ∙ ap (λ (u : Watched). watched rules after_it u x) (watched_same done at so app r)
          ∙ watch-grows rules options openings h after_it readings lawful.local (Grows-put h app r) w so.within (Some app) (length (h app)) None (λ b named. subst (λ n. length (h app) ≤ length (h n)) (let names : app ≡ b = cc named in names) (le_refl (length (h app))))

      within_v : IsWithin v h
      within_v = within-watch rules h w app (length (h app)) None (le_refl (length (h app))) so.within

      kept_v : IsWatched rules v h at.contents.snapshots
      kept_v = subst (λ q. IsWatched rules v h q) (put-same at.contents.snapshots app) (watch-all rules h w at.contents.snapshots app None so.kept)

      both_stand : Stands (done ++ both_steps) after_both
      both_stand = record {
        left = left_by-append done both_steps opening ∙ ap (left_by both_steps) so.left ∙ steps-left app r ss (Some reply) at.contents;
        consistent = IsConsistent-push rules lawful openings h app r comes so.consistent;
        answered = so.answered ++ x ∷ [];
        parts = parts_push done at so caught (text t) rest is x refl;
        longer = within-more (at_opening opening) h app r so.longer;
        each = both_each;
        within = subst (λ u. IsWithin u after_it) (sym watched_then) (within-more v h app r within_v);
        kept = subst (λ u. IsWatched rules u after_it (added at.contents app r ss).snapshots) (sym watched_then)
            (subst (λ ts. IsWatched rules v after_it (put at.contents.snapshots app (put_each (at.contents.snapshots app) ts))) (sym so_is.due) (watch-recorded rules h v at.contents.snapshots app r within_v kept_v));
        counted = counted_push done at so caught (text t) rest is x both_steps one_reply;
        numbered = numbered_push done at so caught (text t) rest is both_steps one_reply;
        written = written_push done at so caught (text t) rest is x both_steps its_text;
        seen = AllSee-push rules options openings h after_it readings lawful.local (Grows-put h app r) x (longer_logs done at so) (λ p pair. (lawful.paired p pair).0) caught
            (λ b named. let names : app ≡ b = cc named in subst (λ n. take (length (h app)) (after_it n) ≡ h n) names front_there) (at_opening opening) so.answered so.each so.seen;
        granted = λ b declared. granted_more b declared ∙ sym (accepted_in-push b so.answered x);
        later = λ m reading. so.later m (fewer (takes_reading (h app) asked) m reading);
        pending = so.pending;
      }
        where
          one_reply : writes_in both_steps ≡ 1
          one_reply = omega (arith, writes_in-append (records app r ∷ snaps_each app ss) (writes (reply_text reply) ∷ []), writes_in-snaps app ss)

          its_text : written_by both_steps ≡ as_line (reply_text reply) ++ []
          its_text = written_by-append (records app r ∷ snaps_each app ss) (writes (reply_text reply) ∷ []) ∙ ap (λ (y : List ℕ). y ++ (as_line (reply_text reply) ++ [])) (written_by-snaps app ss)

      accepted_keeps : KeepsHere done (goes_on (adds_and_says app r ss reply) after_both)
      accepted_keeps = (front_of_added (λ s. Holds (done ++ s)) app r ss (writes (reply_text reply) ∷ []) (none_yet done at so) half_holds tail_holds, both_stand)
        where
          tail_holds : (front behind : List Step) → writes (reply_text reply) ∷ [] ≡ front ++ behind → Holds (done ++ ((records app r ∷ snaps_each app ss) ++ front))
          tail_holds = front_of_one (λ f. Holds (done ++ ((records app r ∷ snaps_each app ss) ++ f))) (writes (reply_text reply))
              (subst (λ s. Holds (done ++ s)) (sym (append-nil (records app r ∷ snaps_each app ss))) (half_holds ss)) (stands_holds (done ++ both_steps) after_both both_stand)

    answer_keeps : (a : Answer) → its_answer ≡ a → KeepsHere done (answer_turn at rest app its_readings a)
    answer_keeps (says reply) so_is = says_keeps reply so_is
    answer_keeps (accepts r ss reply) so_is = accepted_keeps r ss reply so_is
    answer_keeps (takes s reply) so_is = takes_keeps s reply so_is
    answer_keeps (ends end) so_is =
        stands_ends done at end so (λ added count ok. request-ends rules app (h app) (logs_of h) (first_reading at.readings) options.capacity (at.contents.snapshots app) asked added count (so_is ∙ ap ends ok))

    app_keeps : KeepsHere done (app_turn rules options at rest app asked)
    app_keeps = answer_keeps its_answer refl

  -- the next line asks nothing
  abbrev unasked : Place → Line → Reply → Answered
  unasked at line reply = record { line = line; app = None; mark = 0; at = first_reading at.readings; added = None; taken = None; reply = reply }

  -- it gets this reply
  told_keeps : (done : List Step) (at : Place) (so : Stands done at) (caught : Caught at) (t : List ℕ) (rest : List Line) (is : at.lines ≡ text t ∷ rest) (told : Reply)
      → AnswersRequest rules options openings at.contents.histories readings (watched_over at.contents.histories so.answered) (rules.request t) (unasked at (text t) told) → KeepsHere done (goes_on (only_says told) (past_line at rest))
  told_keeps done at so caught t rest is told answers = unasked_keeps done at so caught (text t) rest is (unasked at (text t) told) refl refl refl answers

  request_keeps : (done : List Step) (at : Place) (so : Stands done at) (caught : Caught at) (t : List ℕ) (rest : List Line) → at.lines ≡ text t ∷ rest → (a : Asked) → rules.request t ≡ a → KeepsHere done (request_turn rules options at rest a)
  request_keeps done at so caught t rest is (refused fault) request_is =
      told_keeps done at so caught t rest is (reply_to fault) (subst (λ q. AnswersRequest rules options openings at.contents.histories readings (watched_over at.contents.histories so.answered) q (unasked at (text t) (reply_to fault))) (sym request_is) (record { unnamed = refl; nothing = refl; untaken = refl; replied = refl }))
  request_keeps done at so caught t rest is (asks request.Sync) request_is =
      told_keeps done at so caught t rest is Sync (subst (λ q. AnswersRequest rules options openings at.contents.histories readings (watched_over at.contents.histories so.answered) q (unasked at (text t) Sync)) (sym request_is) (record { unnamed = refl; nothing = refl; untaken = refl; replied = refl }))
  request_keeps done at so caught t rest is (asks request.Stop) request_is =
      told_keeps done at so caught t rest is Stop (subst (λ q. AnswersRequest rules options openings at.contents.histories readings (watched_over at.contents.histories so.answered) q (unasked at (text t) Stop)) (sym request_is) (record { unnamed = refl; nothing = refl; untaken = refl; replied = refl }))
  request_keeps done at so caught t rest is (asks (request.Do app c)) request_is = app_keeps done at so caught t rest is app (request.Do app c) request_is refl (λ x h w answers. answers)
  request_keeps done at so caught t rest is (asks (request.Get app id version)) request_is = app_keeps done at so caught t rest is app (request.Get app id version) request_is refl (λ x h w answers. answers)
  request_keeps done at so caught t rest is (asks (request.Log app section)) request_is = app_keeps done at so caught t rest is app (request.Log app section) request_is refl (λ x h w answers. answers)
  request_keeps done at so caught t rest is (asks (request.Tracking app leader)) request_is = app_keeps done at so caught t rest is app (request.Tracking app leader) request_is refl (λ x h w answers. answers)
  request_keeps done at so caught t rest is (asks (request.Snapshot app id)) request_is = app_keeps done at so caught t rest is app (request.Snapshot app id) request_is refl (λ x h w answers. answers)

  line_keeps : (done : List Step) (at : Place) (so : Stands done at) (caught : Caught at) (ls : List Line) → at.lines ≡ ls → KeepsHere done (line_turn rules options openings at ls)
  line_keeps done at so caught [] is = stands_ends done at (Ok (added_counts rules.names openings at.contents.histories) at.answered) so (λ added count ok. record {
    counts = let same : added_counts rules.names openings at.contents.histories ≡ added = cc ok in sym same ∙ ap (added_counts rules.names openings) (sym (left_histories done at so));
    number = let same : at.answered ≡ count = cc ok in sym same ∙ so.numbered;
    all =
        let same : at.answered ≡ count = cc ok in
        omega (arith, same, so.numbered, so.counted, ap length (so.parts ∙ ap (λ (t : List Line). lines_in so.answered ++ t) is ∙ append-nil (lines_in so.answered)), length-map so.answered (λ (y : Answered). y.line));
  })
  line_keeps done at so caught (text t ∷ rest) is = request_keeps done at so caught t rest is (rules.request t) refl
  line_keeps done at so caught (long ∷ rest) is =
      unasked_keeps done at so caught long rest is (unasked at long Long) refl refl refl (record { unnamed = refl; nothing = refl; untaken = refl; replied = refl })
  line_keeps done at so caught (over ∷ rest) is = stands_ends done at Over so (λ added count ok. absurd (cc ok))

  -- a follower records the next notification of its leader
  module _ (done : List Step) (at : Place) (so : Stands done at) (leader app : Name) (leads : Contains rules.pairs (leader, app)) (there : tracked_in (at.contents.histories app) leader + 1 ≤ length (log (at.contents.histories leader))) where
    abbrev next_id : ℕ
    next_id = tracked_in (at.contents.histories app) leader + 1

    module _ (r : Recording) (ss : List Snapshot) (adds_so : followed rules options app (at.contents.histories app) (at.used app) (logs_of at.contents.histories) leader next_id (first_reading at.readings) ≡ adds r ss) where
      followed_decided : IsDecided (rules.decide app (at.contents.histories app) (logs_of at.contents.histories) (Notification leader next_id) (first_reading at.readings)) (Notification leader next_id) (first_reading at.readings) r
      followed_decided = followed-adds rules app (at.contents.histories app) (logs_of at.contents.histories) (first_reading at.readings) options (at.used app) leader next_id r ss adds_so

      followed_comes : ComesNext rules app (at.contents.histories app) (logs_of at.contents.histories) r
      followed_comes = subst (ComesNext rules app (at.contents.histories app) (logs_of at.contents.histories)) followed_decided.is (record {
        cause = record { leads = leads; next = refl; there = there };
        decided = followed_decided.decided;
      })

      abbrev follow_steps : List Step
      follow_steps = steps_of (only_adds app r ss)

      abbrev grown_histories : Histories
      grown_histories = put at.contents.histories app (at.contents.histories app ++ r ∷ [])

      abbrev past_it : List Snapshot → Place
      past_it some = record at { contents = added at.contents app r some; readings = later_readings at.readings; used = put at.used app (at.used app + 1); prompted = prompt rules.pairs at.prompted app r.events }

      no_command : is_command r.cause ≡ false
      no_command = sym (ap (λ (s : Recording). is_command s.cause) followed_decided.is)

      follower_opening : length (openings app) ≤ length (at.contents.histories app)
      follower_opening = Follows-longer rules app (openings app) (at.contents.histories app) (logs_of at.contents.histories) (so.consistent.follow app (lawful.paired (leader, app) leads).1)

      followed_stands : Stands (done ++ follow_steps) (past_it ss)
      followed_stands = record {
        left = left_by-append done follow_steps opening ∙ ap (left_by follow_steps) so.left ∙ steps-left app r ss None at.contents;
        consistent = IsConsistent-push rules lawful openings at.contents.histories app r followed_comes so.consistent;
        answered = so.answered;
        parts = so.parts;
        longer = within-more (at_opening opening) at.contents.histories app r so.longer;
        each = AreAnswered-grows rules options openings at.contents.histories grown_histories readings lawful.local (Grows-put at.contents.histories app r) (at_opening opening) so.longer so.answered so.each;
        within = within_recorded done at so app r;
        kept = kept_recorded done at so app r ss (followed-due rules app (at.contents.histories app) (logs_of at.contents.histories) (first_reading at.readings) options (at.used app) leader next_id r ss adds_so);
        counted = omega (arith, writes_in-append done follow_steps, none_written, so.counted);
        numbered = omega (arith, writes_in-append done follow_steps, none_written, so.numbered);
        written = written_by-append done follow_steps ∙ ap (λ (t : List ℕ). written_by done ++ t) silent ∙ append-nil (written_by done) ∙ so.written;
        seen = AllSee-grows rules options openings at.contents.histories grown_histories readings lawful.local (Grows-put at.contents.histories app r) (at_opening opening) so.answered so.each so.seen;
        granted = λ b declared. granted-notified openings at.contents.histories app r follower_opening no_command b ∙ so.granted b declared;
        later = λ m reading. so.later m (later-reading at.readings m reading);
        pending = so.pending;
      }
        where
          none_written : writes_in follow_steps ≡ 0
          none_written = omega (arith, writes_in-append (records app r ∷ snaps_each app ss) [], writes_in-snaps app ss)

          silent : written_by follow_steps ≡ []
          silent = written_by-append (records app r ∷ snaps_each app ss) [] ∙ append-nil (written_by (snaps_each app ss)) ∙ written_by-snaps app ss

      -- the recording and some snapshots stand
      some_hold : (some : List Snapshot) → Holds (done ++ records app r ∷ snaps_each app some)
      unfolding followed_stands
      some_hold some =
          let part : List Step = records app r ∷ snaps_each app some in
          let left : (left_by (done ++ part) opening).histories ≡ grown_histories =
          ap (λ (c : Contents). c.histories) (left_by-append done part opening ∙ ap (left_by part) so.left ∙ left_by-added app r some at.contents) in
          record {
            consistent = subst (IsConsistent rules openings) (sym left) followed_stands.consistent;
            session = λ status failed.
                subst (λ k. IsSession rules options opening k readings lines (writes_in (done ++ part)) (written_by (done ++ part)) status) (sym left)
                (record {
                  answered = so.answered;
                  rest = at.lines;
                  parts = so.parts;
                  counted = omega (arith, writes_in-append done part, writes_in-snaps app some, so.counted);
                  each = followed_stands.each;
                  synced = all-synced rules openings grown_histories so.answered followed_stands.seen;
                  written = written_by-append done part ∙ ap (λ (t : List ℕ). written_by done ++ t) (written_by-snaps app some) ∙ append-nil (written_by done) ∙ so.written;
                  more = None;
                  granted = λ b declared. followed_stands.granted b declared ∙ sym (append-nil (accepted_in b so.answered));
                  next = tt;
                  none = λ ok. refl;
                });
          }

    followed_keeps : (f : Followed) → followed rules options app (at.contents.histories app) (at.used app) (logs_of at.contents.histories) leader next_id (first_reading at.readings) ≡ f → KeepsHere done (followed_turn rules at app f)
    followed_keeps (stops end) so_is =
        stands_ends done at end so (λ added count ok. followed-stops rules app (at.contents.histories app) (logs_of at.contents.histories) (first_reading at.readings) options (at.used app) leader next_id added count (so_is ∙ ap stops ok))
    followed_keeps (adds r ss) so_is =
        (front_of_added (λ s. Holds (done ++ s)) app r ss [] (none_yet done at so) (some_hold r ss so_is) tail_holds, followed_stands r ss so_is)
      where
        tail_holds : (front behind : List Step) → [] ≡ front ++ behind → Holds (done ++ ((records app r ∷ snaps_each app ss) ++ front))
        tail_holds [] behind is = subst (λ s. Holds (done ++ s)) (sym (append-nil (records app r ∷ snaps_each app ss))) (some_hold r ss so_is ss)
        tail_holds (x ∷ front) behind is = absurd (cc is)

  next_keeps : (done : List Step) (at : Place) (so : Stands done at) (leader app : Name) (rest : List (Name × Name)) (o : Option StoredEvent) → slice_get (log (at.contents.histories leader)) (tracked_in (at.contents.histories app) leader) ≡ o
      → Contains rules.pairs (leader, app) → ((p : Name × Name) → Contains rest p → Contains rules.pairs p) → KeepsHere done (next_turn rules options at leader app rest o)
  next_keeps done at so leader app rest None is leads among = idles_keeps done at (record at { pending = rest }) so (idles done at at.prompted rest so among)
  next_keeps done at so leader app rest (Some e) is leads among =
      let within : tracked_in (at.contents.histories app) leader < length (log (at.contents.histories leader)) = slice_get_within (log (at.contents.histories leader)) (tracked_in (at.contents.histories app) leader) e is in
      followed_keeps done at so leader app leads (omega arith) (followed rules options app (at.contents.histories app) (at.used app) (logs_of at.contents.histories) leader (tracked_in (at.contents.histories app) leader + 1) (first_reading at.readings)) refl

  turn_keeps : (done : List Step) (at : Place) (so : Stands done at) (chases : Chases rules options opening done at) (pending : List (Name × Name)) (prompted : List Name) → at.pending ≡ pending → at.prompted ≡ prompted → KeepsHere done (turn_of rules options openings at pending prompted)
  turn_keeps done at so chases (p ∷ rest) prompted is prompts =
      let among : (q : Name × Name) → Contains (p ∷ rest) q → Contains rules.pairs q = λ q here. so.pending q (subst (λ ps. Contains ps q) (sym is) here) in
      next_keeps done at so p.0 p.1 rest (slice_get (log (at.contents.histories p.0)) (tracked_in (at.contents.histories p.1) p.0)) refl (among p (contains-here p rest)) (λ q here. among q (contains-later p rest q here))
  turn_keeps done at so chases [] (leader ∷ prompted) is prompts =
      idles_keeps done at (record at { prompted = prompted; pending = led_by rules.pairs leader }) so (idles done at prompted (led_by rules.pairs leader) so (contains-filter (λ p. bytes_eq p.0 leader) rules.pairs))
  turn_keeps done at so chases [] [] is prompts = line_keeps done at so (all-caught rules options opening done at chases is prompts) at.lines refl

  -- where a run stands, and how far the followers are
  record Both (done : List Step) (at : Place) : Type 0 where
    stands : Stands done at
    chases : Chases rules options opening done at

  both_kept : (done : List Step) (t : Turn) → KeepsHere done t → KeepsChase rules options opening done t → Keeps rules options openings Both Holds Ends done t
  both_kept done (finished end) stands chases = stands
  both_kept done (goes_on outcome next) stands chases = (stands.0, record { stands = stands.1; chases = chases.1 })

  both_keep : (done : List Step) (at : Place) → Both done at → Keeps rules options openings Both Holds Ends done (turn_at rules options openings at)
  both_keep done at so =
      both_kept done (turn_at rules options openings at) (turn_keeps done at so.stands so.chases at.pending at.prompted refl refl) (turn-chases rules options opening done at so.chases at.pending at.prompted refl refl)

  start_stands : Stands [] (start rules opening readings lines)
  start_stands = record {
    left = refl;
    consistent = IsConsistent-opening rules lawful openings;
    answered = [];
    parts = refl;
    longer = λ n. le_refl (length (openings n));
    each = tt;
    within = λ n. le_refl (length (openings n));
    kept = λ n. sym (λ i. grown rules (take (length (openings n)) (openings n)) (nothing_new n i) (opening.snapshots n));
    counted = refl;
    numbered = refl;
    written = refl;
    granted = λ b declared. ap commands_in (drop_none (openings b));
    seen = tt;
    later = λ m reading. reading;
    pending = λ p so. contains-none p so;
  }
    where
      nothing_new : (n : Name) → drop (length (openings n)) (take (length (openings n)) (openings n)) ≡ []
      nothing_new n = (λ i. drop (length (openings n)) (take_all (length (openings n)) (openings n) (le_refl (length (openings n))) i)) ∙ drop_none (openings n)

  start_both : Both [] (start rules opening readings lines)
  start_both = record { stands = start_stands; chases = start-chases rules options opening readings lines }

  module _ (d : Run) (run : IsRun rules options openings (start rules opening readings lines) d) where
    steps_hold : (done rest : List Step) → d.steps ≡ done ++ rest → Holds done
    steps_hold done rest parts =
        run-holds rules options openings Both Holds Ends (λ steps at so. stands_holds steps at so.stands) both_keep (start rules opening readings lines) d start_both run done rest parts

    all_end : Ends d.steps d.end
    all_end = run-ends rules options openings Both Holds Ends (λ steps at so. stands_holds steps at so.stands) both_keep (start rules opening readings lines) d start_both run

    -- what any first steps of the run leave is consistent
    pub run-consistent : (done rest : List Step) → d.steps ≡ done ++ rest → IsConsistent rules openings (left_by done opening).histories
    run-consistent done rest parts = (steps_hold done rest parts).consistent

    all_steps : (done rest : List Step) → d.steps ≡ done ++ rest → rest ≡ [] → d.steps ≡ done
    all_steps done rest parts whole = parts ∙ ap (λ (t : List Step). done ++ t) whole ∙ append-nil done

    -- and what they write is a session over it; at status 0 they have to be all steps
    pub run-session : (done rest : List Step) → d.steps ≡ done ++ rest → (status : ℕ) → (status ≡ 0 → rest ≡ []) → IsSession rules options opening (left_by done opening).histories readings lines (writes_in done) (written_by done) status
    run-session done rest parts status whole = elim (cases_eq status 0) [
      | inl ok ↦ subst (λ t. Session t status) (all_steps done rest parts (whole ok)) (all_end.session status)
      | inr failed ↦ (steps_hold done rest parts).session status failed
    ]

    -- all steps of a run that ends well have answered all lines, and its end tells how many, and how many recordings each application has more
    pub run-lines : (done rest : List Step) → d.steps ≡ done ++ rest → rest ≡ [] → (added : List (Name × ℕ)) (count : ℕ) → d.end ≡ Ok added count
        → (writes_in done ≡ length lines) × (count ≡ writes_in done) × (added ≡ added_counts rules.names openings (left_by done opening).histories)
    run-lines done rest parts whole added count ok =
        let same : d.steps ≡ done = all_steps done rest parts whole in
        let well : EndsWell done added count = subst (λ t. EndsWell t added count) same (all_end.well added count ok) in
        (sym well.number ∙ well.all, well.number, well.counts)
