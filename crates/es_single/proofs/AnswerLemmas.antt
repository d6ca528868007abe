-- The turn of a line that asks something of an application, by the application's answer.
use Rattle.std.proofs.Common.{◌≡◌, inl, inr, ◌++◌, ℕ, ℤ, Bool, true, false, List, [], ◌∷◌, length, if◌then◌else◌, Option, Some, None, Result, Err, refl, sym, ap, ◌∙◌, subst}
use Rattle.std.specs.Io.KnownBytes.{Appends}
use Rattle.es_model.specs.declared.declaration.System.{System}
use Rattle.es_model.specs.declared.event.Recording.{Recording}
use Rattle.es_model.specs.declared.event.Cause.TheVariants.{Command}
use Rattle.es_model.specs.declared.snapshot.Snapshot.{Snapshot as SnapshotOf}
use Rattle.es_model.specs.History.{Histories, log, latest}
use Rattle.es_model.specs.Lines.{Line, text}
use Rattle.es_model.specs.Snapshots.{put_snapshot}
use Rattle.es_model.specs.Values.{Name, Id}
use Rattle.es_io.specs.Readings.{Readings, first_reading}
use Rattle.es_domain.specs.Readings.{Reading, folded, unreadable as unread}
use Rattle.es_recorder.specs.declared.recorder.InsertFault.{InsertFault}
use Rattle.es_recorder.specs.Held.{put}
use Rattle.es_recorder.specs.Insert.{too_many}
use Rattle.es_recorder.specs.Selections.{notifications}
use Rattle.es_repo.specs.Snapshots.{is_there}
use Rattle.es_section.specs.Answers.{section_asked}
use Rattle.es_section.specs.declared.answer.Section.{Section as SectionOf}
use Rattle.es_lines.specs.CommandText.{command_text}
use Rattle.es_lines.specs.Requests.{asks, request_in, app_asked}
use Rattle.es_lines.specs.declared.request.Request.{Request as RequestOf}
use Rattle.es_lines.specs.declared.request.Request.TheVariants.{Do, Get, Log, Tracking, Snapshot, Sync, Stop as StopOf}
use Rattle.es_lines.specs.Texts.{reply_text}
use Rattle.es_lines.specs.declared.ends.End.{End}
use Rattle.es_lines.specs.declared.ends.End.TheVariants.{Refused, Turns, Unreadable, Full}
use Rattle.es_lines.specs.declared.replies.Reply.{Reply}
use Rattle.es_lines.specs.declared.replies.Reply.TheVariants as reply
use Rattle.es_process.specs.declared.faults.RunFault.{RunFault}
use Rattle.es_process.specs.declared.faults.RunFault.TheVariants as fault
use Rattle.es_process.specs.Answer.{Options, Answer, says, accepts, takes, ends, put_each, differs, answer_of, accept_unless, recording_of, take_unless, snapshot_answer, request_answer, takes_reading}
use Rattle.es_process.specs.Contents.{Contents, added, snapped}
use Rattle.es_process.specs.Decision.{Rules, Logs, Decision, events, refused, unreadable, logs_of}
use Rattle.es_process.specs.Leaves.{Tells, PutsFirst, Gives, MayAdd, Leaves}
use Rattle.es_process.specs.Questions.{reply_read, reply_section}
use Rattle.es_process.specs.SingleThread.{Place, turn_at, request_turn, app_turn, answer_turn, readings_after, adds_and_says, snaps_and_says, records, snaps, writes, snaps_each}
use Rattle.es_process.specs.Standing.{State, Setting, StayWithin, Ended, CutShort, Faulted}
use Rattle.es_process.specs.SystemRules.{rules_of}
use Rattle.es_process.specs.Terms.{Terms, terms}
use Rattle.es_process.proofs.AmongLemmas.{put-here}
use Rattle.es_process.proofs.FollowsLemmas.{Grows-put}
use Rattle.es_process.proofs.HoldsLemmas.{AreAlikeBut, alike-same, alike-added, alike-snapped}
use Rattle.es_process.proofs.SingleThreadLemmas.{run-finished, left_by-added, written_by-snaps}
use Rattle.es_process.proofs.StandingLemmas.{appends_nothing, front_none, adds-parts, Cut-none, Cut-turn}
use Rattle.es_process.proofs.StableLemmas.{TrackFrom, command-there, track-added, within-grown}
use Rattle.es_single.specs.Answers.{Answers, Replies, at_line, after_reply}
use Rattle.es_single.specs.inner.Prompts.{is_accepted, prompted_by, word_reply}

-- nothing of a line was done
pub cut_at_line : (t : Terms) (s : State) (line : Line) (L : Contents → Type 0) (u : Option (List ℕ)) → L s.contents → CutShort t (at_line s line) L u u []
cut_at_line t s line L u held = record {
  done = [];
  contents = s.contents;
  held = held;
  cut = λ σ. Cut-none t σ.openings (at_line s line σ);
  made = λ σ. refl;
  written = appends_nothing u;
}

-- memory ran out before anything was asked
pub starved_answer : (t : Terms) (s : State) (line : List ℕ) (r : RequestOf) (H : State → List Name → Type 0) (L : Contents → Type 0) (u : Option (List ℕ)) (result : Result Reply RunFault) → result ≡ Err fault.NoMemory → L s.contents → Answers t s line r H L u result
starved_answer t s line r H L u result is held = subst (λ x. Answers t s line r H L u x) (sym is) (cut_at_line t s (text line) L u held)

-- a line of one word was answered
pub word_answered : (t : Terms) (s : State) (r : RequestOf) (told : Reply) (H : State → List Name → Type 0) → word_reply r ≡ Some told → H s [] → Replies t s r told H
word_answered t s Sync told H is held = let same : reply.Sync ≡ told = cc is in subst (λ x. Replies t s Sync x H) same (record { changes = []; state = s; prompted = []; held = held; turn = λ σ line. refl })
word_answered t s StopOf told H is held = let same : reply.Stop ≡ told = cc is in subst (λ x. Replies t s StopOf x H) same (record { changes = []; state = s; prompted = []; held = held; turn = λ σ line. refl })
word_answered t s (Do app c) told H is held = absurd (cc is)
word_answered t s (Get app id version) told H is held = absurd (cc is)
word_answered t s (Log app section) told H is held = absurd (cc is)
word_answered t s (Tracking app leader) told H is held = absurd (cc is)
word_answered t s (Snapshot app id) told H is held = absurd (cc is)

-- ---- the answer to what a line asks of an application

-- whoever tracked no more than there was does so still
abbrev pub StayFrom : Histories → Histories → Type 0
StayFrom old new = (openings : Histories) → StayWithin openings old → StayWithin openings new

-- the state after an answer
abbrev answered_with : State → Contents → Readings → State
answered_with s c r = record { contents = c; readings = r; used = s.used }

-- a command is its cause
abbrev pub IsCommanded : Recording → Type 0
IsCommanded r = (asked : List ℕ) × (r.cause ≡ Command asked)

-- only an answer that accepts a command gives the reply that does, and that command is the cause of what is added
abbrev Prompts : Answer → Type 0
Prompts (says told) = is_accepted told ≡ false
Prompts (accepts r ss told) = (is_accepted told ≡ true) × IsCommanded r
Prompts (takes sn told) = is_accepted told ≡ false
Prompts (ends e) = Unit {0}

-- it tracks nothing
pub track-commanded : (openings h : Histories) (app : Name) (r : Recording) → IsCommanded r → StayWithin openings h → TrackFrom openings h (put h app (h app ++ r ∷ []))
track-commanded openings h app r commanded within = track-added openings h app r within (command-there h r.cause commanded.0 commanded.1)

stay-added : (h : Histories) (app : Name) (r : Recording) → IsCommanded r → StayFrom h (put h app (h app ++ r ∷ []))
stay-added h app r commanded = λ openings within. within-grown openings h (put h app (h app ++ r ∷ [])) (track-commanded openings h app r commanded within) (Grows-put h app r)

prompts_either : (b : Bool) (x y : Answer) → Prompts x → Prompts y → Prompts (if b then x else y)
prompts_either true x y first second = first
prompts_either false x y first second = second

prompts_room : (rules : Rules) (room : Option InsertFault) (capacity : ℕ) (app : Name) (h : List Recording) (r : Recording) (id : Id) → IsCommanded r → Prompts (accept_unless rules room capacity app h r id)
prompts_room rules None capacity app h r id commanded = (refl, commanded)
prompts_room rules (Some full) capacity app h r id commanded = tt

prompts_decision : (rules : Rules) (capacity : ℕ) (app : Name) (h : List Recording) (asked : List ℕ) (id : Id) (at : ℤ) (d : Decision) → Prompts (answer_of rules capacity app h asked id at d)
prompts_decision rules capacity app h asked id at (refused code rule) = refl
prompts_decision rules capacity app h asked id at (unreadable other n) = refl
prompts_decision rules capacity app h asked id at (events es) =
    prompts_room rules (too_many capacity (length (log h)) es) capacity app h (recording_of (Command asked) at es) id (asked, refl)

prompts_read : (app : Name) (r : Reading) → Prompts (says (reply_read app r))
prompts_read app (folded None) = refl
prompts_read app (folded (Some a)) = refl
prompts_read app (unread n) = refl

prompts_section : (o : Option SectionOf) → Prompts (says (reply_section o))
prompts_section None = refl
prompts_section (Some section) = refl

prompts_taken : (b : Bool) (sn : SnapshotOf) → Prompts (take_unless b sn)
prompts_taken true sn = refl
prompts_taken false sn = refl

prompts_snapshot : (rules : Rules) (app : Name) (q : List SnapshotOf) (r : Reading) → Prompts (snapshot_answer rules app q r)
prompts_snapshot rules app q (folded None) = refl
prompts_snapshot rules app q (folded (Some a)) = prompts_taken (is_there q (rules.snapshot a)) (rules.snapshot a)
prompts_snapshot rules app q (unread n) = refl

prompts : (rules : Rules) (capacity : ℕ) (app : Name) (h : List Recording) (q : List SnapshotOf) (logs : Logs) (r : RequestOf) (at : ℤ) → Prompts (request_answer rules capacity app h q logs r at)
prompts rules capacity app h q logs (Do other c) at =
    prompts_either (differs h c.id c.expect) (says (reply.Conflict (latest (log h) c.id)))
    (answer_of rules capacity app h (command_text app c) c.id at (rules.decide app h logs (Command (command_text app c)) at)) refl
    (prompts_decision rules capacity app h (command_text app c) c.id at (rules.decide app h logs (Command (command_text app c)) at))
prompts rules capacity app h q logs (Get other id version) at = prompts_read app (rules.read h id version)
prompts rules capacity app h q logs (Log other section) at = prompts_section (section_asked (notifications (log h)) section (rules.section_size app))
prompts rules capacity app h q logs (Tracking other leader) at = refl
prompts rules capacity app h q logs (Snapshot other id) at = prompts_snapshot rules app q (rules.read h id None)
prompts rules capacity app h q logs Sync at = refl
prompts rules capacity app h q logs StopOf at = refl

-- a line that asks something of an application takes that application's turn
turn_asked : (rules : Rules) (o : Options) (place : Place) (lines : List Line) (app : Name) (r : RequestOf) → app_asked r ≡ Some app → request_turn rules o place lines (asks r) ≡ app_turn rules o place lines app r
turn_asked rules o place lines app (Do other c) about = let same : other ≡ app = cc about in ap (λ n. app_turn rules o place lines n (Do other c)) same
turn_asked rules o place lines app (Get other id version) about = let same : other ≡ app = cc about in ap (λ n. app_turn rules o place lines n (Get other id version)) same
turn_asked rules o place lines app (Log other section) about = let same : other ≡ app = cc about in ap (λ n. app_turn rules o place lines n (Log other section)) same
turn_asked rules o place lines app (Tracking other leader) about = let same : other ≡ app = cc about in ap (λ n. app_turn rules o place lines n (Tracking other leader)) same
turn_asked rules o place lines app (Snapshot other id) about = let same : other ≡ app = cc about in ap (λ n. app_turn rules o place lines n (Snapshot other id)) same
turn_asked rules o place lines app Sync about = absurd (cc about)
turn_asked rules o place lines app StopOf about = absurd (cc about)

module _ (sys : System) (o : Options) (s : State) (app : Name) (r : RequestOf) (about : app_asked r ≡ Some app) where
  abbrev t : Terms
  t = terms (rules_of sys) o

  -- what the application keeps, what it answers, and which readings are to come then
  abbrev h : List Recording
  h = s.contents.histories app

  abbrev q : List SnapshotOf
  q = s.contents.snapshots app

  abbrev its_answer : Answer
  its_answer = request_answer (rules_of sys) o.capacity app h q (logs_of s.contents.histories) r (first_reading s.readings)

  its_prompts : Prompts its_answer
  its_prompts = prompts (rules_of sys) o.capacity app h q (logs_of s.contents.histories) r (first_reading s.readings)

  abbrev readings : Readings
  readings = readings_after (takes_reading h r) s.readings

  -- the turn of the line
  turn_answer : (a : Answer) → its_answer ≡ a → (σ : Setting) (line : Line) → request_turn t.rules o (at_line s line σ) σ.lines (asks r) ≡ answer_turn (at_line s line σ) σ.lines app readings a
  turn_answer a is σ line = turn_asked t.rules o (at_line s line σ) σ.lines app r about ∙ ap (answer_turn (at_line s line σ) σ.lines app readings) is

  -- the state after an answer
  abbrev same_kept : State
  same_kept = answered_with s s.contents readings

  abbrev recorded_at : Recording → List SnapshotOf → State
  recorded_at more ss = answered_with s (added s.contents app more ss) readings

  abbrev snapped_at : SnapshotOf → State
  snapped_at sn = answered_with s (snapped s.contents app sn) readings

  -- it gave a reply; what is held then follows from what it keeps now
  module _ (H : State → List Name → Type 0) (told : Reply) (new : Option (List Recording)) (now : Option (List SnapshotOf)) where
    abbrev Held : Type 0
    Held =
        (next : State) → Tells (next.contents.histories app) (next.contents.snapshots app) new now → AreAlikeBut app s.contents next.contents → StayFrom s.contents.histories next.contents.histories → next.readings ≡ readings → next.used ≡ s.used
        → H next (prompted_by told app)

    -- whom the reply prompts
    held_prompted : (next : State) (expected : Reply) (b : Bool) → told ≡ expected → is_accepted expected ≡ b → H next (prompted_by told app) → H next (if b then app ∷ [] else [])
    held_prompted next expected b same is = λ x. subst (λ (c : Bool). H next (if c then app ∷ [] else [])) (ap is_accepted same ∙ is) x

    by_answer : (a : Answer) → its_answer ≡ a → Prompts a → Gives a h q told new now → Held → Replies t s r told H
    by_answer (says expected) is prompting gives so = record {
      changes = [];
      state = same_kept;
      prompted = [];
      held = held_prompted same_kept expected false gives.0 prompting (so same_kept gives.1 (alike-same app s.contents) (λ openings within. within) refl refl);
      turn = turn_answer (says told) (is ∙ ap says (sym gives.0));
    }
    by_answer (accepts more ss expected) is prompting gives so = record {
      changes = records app more ∷ snaps_each app ss;
      state = recorded_at more ss;
      prompted = app ∷ [];
      held = held_prompted (recorded_at more ss) expected true gives.0 prompting.0 (so (recorded_at more ss)
          (record {
            recordings = gives.1.recordings ∙ ap Some (sym (put-here s.contents.histories app (h ++ more ∷ [])));
            snapshots = gives.1.snapshots ∙ ap Some (sym (put-here s.contents.snapshots app (put_each q ss)));
          })
          (alike-added app s.contents more ss) (stay-added s.contents.histories app more prompting.1) refl refl);
      turn = turn_answer (accepts more ss told) (is ∙ ap (accepts more ss) (sym gives.0));
    }
    by_answer (takes sn expected) is prompting gives so = record {
      changes = snaps app sn ∷ [];
      state = snapped_at sn;
      prompted = [];
      held = held_prompted (snapped_at sn) expected false gives.0 prompting (so (snapped_at sn)
          (record { recordings = gives.1.recordings; snapshots = gives.1.snapshots ∙ ap Some (sym (put-here s.contents.snapshots app (put_snapshot q sn))) })
          (alike-snapped app s.contents sn) (λ openings within. within) refl refl);
      turn = turn_answer (takes sn told) (is ∙ ap (takes sn) (sym gives.0));
    }
    by_answer (ends e) is prompting gives so = absurd gives

    pub line_answered : Gives its_answer h q told new now → Held → Replies t s r told H
    line_answered gives so = by_answer its_answer refl its_prompts gives so

  -- it failed to answer; what all applications keep follows from what it keeps now
  module _ (L : Contents → Type 0) (line : List ℕ) (asked : request_in sys line ≡ asks r) (u : Option (List ℕ)) (new : Option (List Recording)) (now : Option (List SnapshotOf)) (unchanged : Tells h q new now → L s.contents)
      (more : (one : Recording) (ss : List SnapshotOf) → IsCommanded one → Tells (h ++ one ∷ []) (put_each q ss) new now → L (added s.contents app one ss))
      (taken : (sn : SnapshotOf) → Tells h (put_snapshot q sn) new now → L (snapped s.contents app sn)) where
    turn_line : (a : Answer) → its_answer ≡ a → (σ : Setting) → turn_at t.rules o σ.openings (at_line s (text line) σ) ≡ answer_turn (at_line s (text line) σ) σ.lines app readings a
    turn_line a is σ = ap (request_turn t.rules o (at_line s (text line) σ) σ.lines) asked ∙ turn_answer a is σ (text line)

    line_ended : (e : End) → its_answer ≡ ends e → Tells h q new now → Ended t (at_line s (text line)) L u u e
    line_ended e is same = record {
      steps = [];
      contents = s.contents;
      held = unchanged same;
      run = λ σ. run-finished t.rules o σ.openings (at_line s (text line) σ) e (turn_line (ends e) is σ);
      made = λ σ. refl;
      written = appends_nothing u;
    }

    line_cut : Tells h q new now → CutShort t (at_line s (text line)) L u u []
    line_cut same = cut_at_line t s (text line) L u (unchanged same)

    -- the recording was added, and the first of its snapshots
    cut_adding : (one : Recording) (ss : List SnapshotOf) (told : Reply) → its_answer ≡ accepts one ss told → IsCommanded one → PutsFirst ss (h ++ one ∷ []) q new now → CutShort t (at_line s (text line)) L u u []
    cut_adding one ss told is commanded first = record {
      done = records app one ∷ snaps_each app first.front;
      contents = added s.contents app one first.front;
      held = more one first.front commanded first.tells;
      cut = λ σ. Cut-turn t σ.openings (at_line s (text line) σ) (after_reply (recorded_at one ss) (app ∷ []) σ) (adds_and_says app one ss told) (records app one ∷ snaps_each app first.front)
          (snaps_each app first.rest ++ writes (reply_text told) ∷ []) [] (turn_line (accepts one ss told) is σ) (adds-parts app one ss first.front first.rest (writes (reply_text told) ∷ []) first.parts)
          (λ behind. front_none ((snaps_each app first.rest ++ writes (reply_text told) ∷ []) ++ behind));
      made = λ σ. left_by-added app one first.front s.contents;
      written = subst (Appends u u) (ap (λ (x : List ℕ). x ++ []) (sym (written_by-snaps app first.front))) (appends_nothing u);
    }

    -- the snapshot was put
    cut_taking : (sn : SnapshotOf) (told : Reply) → its_answer ≡ takes sn told → Tells h (put_snapshot q sn) new now → CutShort t (at_line s (text line)) L u u []
    cut_taking sn told is tells = record {
      done = snaps app sn ∷ [];
      contents = snapped s.contents app sn;
      held = taken sn tells;
      cut = λ σ. Cut-turn t σ.openings (at_line s (text line) σ) (after_reply (snapped_at sn) [] σ) (snaps_and_says app sn told) (snaps app sn ∷ []) (writes (reply_text told) ∷ []) []
          (turn_line (takes sn told) is σ) refl (λ behind. front_none (writes (reply_text told) ∷ behind));
      made = λ σ. refl;
      written = appends_nothing u;
    }

    line_added : (a : Answer) → its_answer ≡ a → Prompts a → MayAdd a h q new now → CutShort t (at_line s (text line)) L u u []
    line_added (says told) is prompting may = line_cut may
    line_added (accepts one ss told) is prompting (inl same) = line_cut same
    line_added (accepts one ss told) is prompting (inr first) = cut_adding one ss told is prompting.1 first
    line_added (takes sn told) is prompting (inl same) = line_cut same
    line_added (takes sn told) is prompting (inr tells) = cut_taking sn told is tells
    line_added (ends e) is prompting may = line_cut may

    pub line_failed : (f : RunFault) → Leaves its_answer h q (Err f) new now → Faulted t (at_line s (text line)) f L u u
    line_failed (fault.Refused name leader id recordings code rule) so = line_ended (Refused name leader id recordings code rule) so.0 so.1
    line_failed (fault.Turns name turns) so = line_ended (Turns name turns) so.0 so.1
    line_failed (fault.Unreadable name id) so = line_ended (Unreadable name id) so.0 so.1
    line_failed (fault.Full name last capacity) so = line_ended (Full name last capacity) so.0 so.1
    line_failed fault.Recorder so = line_added its_answer refl its_prompts so
    line_failed fault.NoMemory so = line_added its_answer refl its_prompts so
