-- Lines of a run, one after another.
use Rattle.std.proofs.Common.{◌≡◌, inl, inr, ◌+◌, ◌++◌, ℕ, false, List, [], ◌∷◌, Option, Some, Result, Ok, Err, IfErr, refl, sym, ap, ◌∙◌, subst, append-nil}
use Rattle.std.specs.Io.KnownBytes.{Appends}
use Rattle.es_model.specs.declared.declaration.System.{System}
use Rattle.es_model.specs.Lines.{Line, text, long}
use Rattle.es_model.specs.Values.{Name}
use Rattle.es_io.specs.Readings.{Readings, first_reading}
use Rattle.es_lines.specs.Requests.{Asked, asks, refused as not_asked, request_in, Answers as Answered}
use Rattle.es_lines.specs.declared.request.Request.{Request as RequestOf}
use Rattle.es_lines.specs.declared.request.Request.TheVariants.{Do, Get, Log, Tracking, Snapshot, Sync, Stop as StopOf}
use Rattle.es_lines.specs.Texts.{reply_text}
use Rattle.es_lines.specs.declared.ends.End.{End}
use Rattle.es_lines.specs.declared.ends.End.TheVariants.{Refused, Turns, Unreadable, Full}
use Rattle.es_lines.specs.declared.fault.LineFault.{LineFault}
use Rattle.es_lines.specs.declared.fault.LineFault.TheVariants as line_fault
use Rattle.es_lines.specs.declared.replies.Reply.{Reply}
use Rattle.es_lines.specs.declared.replies.Reply.TheVariants as reply
use Rattle.es_process.specs.declared.faults.RunFault.{RunFault}
use Rattle.es_process.specs.declared.faults.RunFault.TheVariants as fault
use Rattle.es_process.specs.Answer.{Options, Answer, says, accepts, takes, ends, request_answer, takes_reading}
use Rattle.es_process.specs.Contents.{Contents}
use Rattle.es_process.specs.Decision.{Rules, logs_of}
use Rattle.es_process.specs.Drains.{Drains}
use Rattle.es_process.specs.Questions.{reply_to}
use Rattle.es_process.specs.SingleThread.{Place, Outcome, goes_on, turn_at, request_turn, app_turn, answer_turn, readings_after, only_says, adds_and_says, snaps_and_says, is_stop, stops_lines, Step, writes, steps_of, left_by, written_by, as_line}
use Rattle.es_process.specs.Standing.{State, Setting, standing, Came, Ended, CutShort, Faulted}
use Rattle.es_process.specs.SystemRules.{rules_of}
use Rattle.es_process.specs.Terms.{Terms, terms}
use Rattle.es_process.proofs.SingleThreadLemmas.{Goes-none, Goes-one, left_by-append, written_by-append, written_by-snaps}
use Rattle.es_process.proofs.StandingLemmas.{appends_nothing, Cut-none, Cut-turn, came_then, came_faulted}
use Rattle.es_single.specs.Answers.{Replies, at_line, after_reply}
use Rattle.es_top.specs.declared.serve.Stop.{Stop}
use Rattle.es_top.specs.declared.serve.Stop.TheVariants as stop
use Rattle.es_top.specs.inner.Serves.{SaysIt, IsDraining, IsSaying, IsOnward, MayStop, TellsBy, TellsStop, past_it, DrainsAfter, RepliesAndDrains, AnswersLine}

-- the same part of a run, one answered line later
abbrev past : Setting → Setting
past σ = record { openings = σ.openings; lines = σ.lines; answered = σ.answered + 1 }

module _ (t : Terms) where
  ended_later : (s : State) (prompted : List Name) (L : Contents → Type 0) (u w : Option (List ℕ)) (end : End) → Ended t (standing s prompted []) L u w end → Ended t (after_reply s prompted) L u w end
  ended_later s prompted L u w end x = record {
    steps = x.steps;
    contents = x.contents;
    held = x.held;
    run = λ σ. x.run (past σ);
    made = λ σ. x.made (past σ);
    written = x.written;
  }

  cut_later : (s : State) (prompted : List Name) (L : Contents → Type 0) (u w : Option (List ℕ)) → CutShort t (standing s prompted []) L u w [] → CutShort t (after_reply s prompted) L u w []
  cut_later s prompted L u w x = record {
    done = x.done;
    contents = x.contents;
    held = x.held;
    cut = λ σ. x.cut (past σ);
    made = λ σ. x.made (past σ);
    written = x.written;
  }

  fault_later : (s : State) (prompted : List Name) (L : Contents → Type 0) (u : Option (List ℕ)) (g : RunFault) → Faulted t (standing s prompted []) g L u u → Faulted t (after_reply s prompted) g L u u
  fault_later s prompted L u (fault.Refused app leader id recordings code rule) y = ended_later s prompted L u u (Refused app leader id recordings code rule) y
  fault_later s prompted L u (fault.Turns app turns) y = ended_later s prompted L u u (Turns app turns) y
  fault_later s prompted L u (fault.Unreadable app id) y = ended_later s prompted L u u (Unreadable app id) y
  fault_later s prompted L u (fault.Full app last capacity) y = ended_later s prompted L u u (Full app last capacity) y
  fault_later s prompted L u fault.Recorder y = cut_later s prompted L u u y
  fault_later s prompted L u fault.NoMemory y = cut_later s prompted L u u y

  pub drain_failed : (s : State) (H : State → Type 0) (L : Contents → Type 0) (prompted : List Name) (u : Option (List ℕ)) (f : RunFault) → Drains t s H L prompted u (Err f) → Faulted t (after_reply s prompted) f L u u
  drain_failed s H L prompted u f x = fault_later s prompted L u f x

  -- the drain after a line
  came_later : (s : State) (H : State → Type 0) (L : Contents → Type 0) (prompted : List Name) (u : Option (List ℕ)) (y : Unit {0}) → Drains t s H L prompted u (Ok y) → Came t (after_reply s prompted) H u u past_it
  came_later s H L prompted u y x = record {
    state = x.state;
    steps = x.steps;
    held = x.held;
    goes = λ σ. x.goes (past σ);
    written = x.written;
  }

  pub drained : (s : State) (H : State → Type 0) (L : Contents → Type 0) (prompted : List Name) (u : Option (List ℕ)) (y : Unit {0}) → Drains t s H L prompted u (Ok y) → (result : Result (Unit {0}) Stop) → IsOnward result → DrainsAfter t s H prompted L u result
  drained s H L prompted u y x (Ok z) so = came_later s H L prompted u y x
  drained s H L prompted u y x (Err stop.Asked) so = came_later s H L prompted u y x
  drained s H L prompted u y x (Err (stop.Fault f)) so = absurd so
  drained s H L prompted u y x (Err stop.Sink) so = absurd so
  drained s H L prompted u y x (Err stop.End) so = absurd so
  drained s H L prompted u y x (Err stop.Over) so = absurd so
  drained s H L prompted u y x (Err stop.Read) so = absurd so

  -- no drain where nobody is prompted
  not_drained : (s : State) (H : State → Type 0) (u : Option (List ℕ)) → H s → Came t (after_reply s []) H u u past_it
  not_drained s H u held = record {
    state = s;
    steps = [];
    held = held;
    goes = λ σ. Goes-none t.rules t.options σ.openings (after_reply s [] σ);
    written = appends_nothing u;
  }

  -- a reply that was written, and the drain after it
  pub replied : (s : State) (H : State → Type 0) (L : Contents → Type 0) (prompted : List Name) (told : Reply) (u v : Option (List ℕ)) (result : Result (Unit {0}) Stop) → Appends u v (as_line (reply_text told))
      → DrainsAfter t s H prompted L v result → RepliesAndDrains t s H prompted told L u v result
  replied s H L prompted told u v (Ok y) said so = record { middle = v; written = said; later = so }
  replied s H L prompted told u v (Err (stop.Fault f)) said so = inr (record { middle = v; written = said; later = so })
  replied s H L prompted told u v (Err stop.Sink) said so = absurd so
  replied s H L prompted told u v (Err stop.End) said so = absurd so
  replied s H L prompted told u v (Err stop.Asked) said so = record { middle = v; written = said; later = so }
  replied s H L prompted told u v (Err stop.Over) said so = absurd so
  replied s H L prompted told u v (Err stop.Read) said so = absurd so

  -- a reply that wasn't
  pub unreplied : (s : State) (H : State → Type 0) (L : Contents → Type 0) (prompted : List Name) (told : Reply) (u v : Option (List ℕ)) (why : Stop) → SaysIt told u v (Err why) → L s.contents
      → RepliesAndDrains t s H prompted told L u v (Err why)
  unreplied s H L prompted told u v stop.Sink said held = (said, held)
  unreplied s H L prompted told u v (stop.Fault fault.NoMemory) said held = inl (refl, said, held)
  unreplied s H L prompted told u v (stop.Fault fault.Recorder) said held = absurd said
  unreplied s H L prompted told u v (stop.Fault (fault.Refused app leader id recordings code rule)) said held = absurd said
  unreplied s H L prompted told u v (stop.Fault (fault.Turns app turns)) said held = absurd said
  unreplied s H L prompted told u v (stop.Fault (fault.Unreadable app id)) said held = absurd said
  unreplied s H L prompted told u v (stop.Fault (fault.Full app last capacity)) said held = absurd said
  unreplied s H L prompted told u v stop.End said held = absurd said
  unreplied s H L prompted told u v stop.Asked said held = absurd said
  unreplied s H L prompted told u v stop.Over said held = absurd said
  unreplied s H L prompted told u v stop.Read said held = absurd said

appends_as : (u v : Option (List ℕ)) (x y : List ℕ) → x ≡ y → Appends u v x → Appends u v y
appends_as u v x y same so = subst (Appends u v) same so

-- a line by its turn, which adds what it adds and then replies
module _ (t : Terms) (s next : State) (H : State → Type 0) (L : Contents → Type 0) (line : Line) (prompted : List Name) (told : Reply) (outcome : Outcome) (added : List Step) (u w : Option (List ℕ))
    (turn : (σ : Setting) → turn_at t.rules t.options σ.openings (at_line s line σ) ≡ goes_on outcome (after_reply next prompted σ))
    (parts : steps_of outcome ≡ added ++ writes (reply_text told) ∷ []) (silent : (x : List ℕ) → written_by (added ++ writes x ∷ []) ≡ as_line x ++ []) (quiet : written_by added ≡ [])
    (made : left_by added s.contents ≡ next.contents) where
  at_reply : (v : Option (List ℕ)) → Appends u v (as_line (reply_text told)) → Came t (at_line s line) (λ x. Unit {0}) u v (λ x. after_reply next prompted)
  at_reply v said = record {
    state = next;
    steps = steps_of outcome;
    held = tt;
    goes = λ σ. Goes-one t.rules t.options σ.openings (at_line s line σ) (after_reply next prompted σ) outcome (turn σ);
    written = appends_as u v (as_line (reply_text told)) (written_by (steps_of outcome)) (sym (ap written_by parts ∙ silent (reply_text told) ∙ append-nil (as_line (reply_text told)))) said;
  }

  cut_at_reply : (front more : List ℕ) → as_line (reply_text told) ≡ front ++ more → Appends u w front → L next.contents → CutShort t (at_line s line) L u w front
  cut_at_reply front more is written held = record {
    done = added;
    contents = next.contents;
    held = held;
    cut = λ σ. Cut-turn t σ.openings (at_line s line σ) (after_reply next prompted σ) outcome added (writes (reply_text told) ∷ []) front (turn σ) parts (λ rest. (more, is));
    made = λ σ. made;
    written = appends_as u w front (written_by added ++ front) (ap (λ (x : List ℕ). x ++ front) (sym quiet)) written;
  }

  pub line_replied : (result : Result (Unit {0}) Stop) → RepliesAndDrains t next H prompted told L u w result → AnswersLine t s H line L u w result
  line_replied (Ok y) so = came_then t (at_line s line) (λ x. Unit {0}) u so.middle (λ x. after_reply next prompted) (at_reply so.middle so.written) H w past_it so.later
  line_replied (Err (stop.Fault f)) (inl starved) =
      subst (λ g. Faulted t (at_line s line) g L u w) (sym starved.0) (cut_at_reply [] (as_line (reply_text told)) refl (subst (λ x. Appends u x []) (sym starved.1) (appends_nothing u)) starved.2)
  line_replied (Err (stop.Fault f)) (inr so) = came_faulted t (at_line s line) (λ x. Unit {0}) u so.middle (λ x. after_reply next prompted) (at_reply so.middle so.written) f L w so.later
  line_replied (Err stop.Sink) so = (so.0.front, cut_at_reply so.0.front so.0.rest so.0.parts so.0.written so.1)
  line_replied (Err stop.End) so = absurd so
  line_replied (Err stop.Asked) so = came_then t (at_line s line) (λ x. Unit {0}) u so.middle (λ x. after_reply next prompted) (at_reply so.middle so.written) H w past_it so.later
  line_replied (Err stop.Over) so = absurd so
  line_replied (Err stop.Read) so = absurd so

module _ (t : Terms) where
  said_replies : (s : State) (H : State → Type 0) (L : Contents → Type 0) (told : Reply) (u w : Option (List ℕ)) → H s → L s.contents → (r : Result (Unit {0}) Stop) → SaysIt told u w r → RepliesAndDrains t s H [] told L u w r
  said_replies s H L told u w held left (Ok y) x = record { middle = w; written = x; later = not_drained t s H w held }
  said_replies s H L told u w held left (Err why) x = unreplied t s H L [] told u w why x left

  -- a line that asks nothing, or is too long
  pub said_only : (s : State) (H : State → Type 0) (L : Contents → Type 0) (line : Line) (told : Reply) (u w : Option (List ℕ)) (result : Result (Unit {0}) Stop)
      → ((σ : Setting) → turn_at t.rules t.options σ.openings (at_line s line σ) ≡ goes_on (only_says told) (after_reply s [] σ)) → SaysIt told u w result → H s → L s.contents → AnswersLine t s H line L u w result
  said_only s H L line told u w result turn said held left =
      line_replied t s s H L line [] told (only_says told) [] u w turn refl (λ x. refl) refl refl result (said_replies s H L told u w held left result said)

  pub too_long : (s : State) → (σ : Setting) → turn_at t.rules t.options σ.openings (at_line s long σ) ≡ goes_on (only_says reply.Long) (after_reply s [] σ)
  too_long s σ = refl

  -- nothing of a line was done
  pub cut_at_line : (s : State) (line : Line) (L : Contents → Type 0) (u w : Option (List ℕ)) → L s.contents → w ≡ u → CutShort t (at_line s line) L u w []
  cut_at_line s line L u w held still = record {
    done = [];
    contents = s.contents;
    held = held;
    cut = λ σ. Cut-none t σ.openings (at_line s line σ);
    made = λ σ. refl;
    written = subst (λ x. Appends u x []) (sym still) (appends_nothing u);
  }

-- the changes of a turn write nothing
quiet_answer : (at : Place) (lines : List Line) (app : Name) (rs : Readings) (a : Answer) (outcome : Outcome) (next : Place) → answer_turn at lines app rs a ≡ goes_on outcome next → written_by outcome.changes ≡ []
quiet_answer at lines app rs (says told) outcome next is = let same : only_says told ≡ outcome = cc is in ap (λ (o : Outcome). written_by o.changes) (sym same)
quiet_answer at lines app rs (accepts r ss told) outcome next is = let same : adds_and_says app r ss told ≡ outcome = cc is in ap (λ (o : Outcome). written_by o.changes) (sym same) ∙ written_by-snaps app ss
quiet_answer at lines app rs (takes sn told) outcome next is = let same : snaps_and_says app sn told ≡ outcome = cc is in ap (λ (o : Outcome). written_by o.changes) (sym same)
quiet_answer at lines app rs (ends e) outcome next is = absurd (cc is)

module _ (rules : Rules) (o : Options) (at : Place) (lines : List Line) (outcome : Outcome) (next : Place) where
  quiet_app : (app : Name) (r : RequestOf) → app_turn rules o at lines app r ≡ goes_on outcome next → written_by outcome.changes ≡ []
  quiet_app app r is = quiet_answer at lines app (readings_after (takes_reading (at.contents.histories app) r) at.readings)
      (request_answer rules o.capacity app (at.contents.histories app) (at.contents.snapshots app) (logs_of at.contents.histories) r (first_reading at.readings)) outcome next is

  quiet_asked : (r : RequestOf) → request_turn rules o at lines (asks r) ≡ goes_on outcome next → written_by outcome.changes ≡ []
  quiet_asked Sync is = let same : only_says reply.Sync ≡ outcome = cc is in ap (λ (x : Outcome). written_by x.changes) (sym same)
  quiet_asked StopOf is = let same : only_says reply.Stop ≡ outcome = cc is in ap (λ (x : Outcome). written_by x.changes) (sym same)
  quiet_asked (Do app c) is = quiet_app app (Do app c) is
  quiet_asked (Get app id version) is = quiet_app app (Get app id version) is
  quiet_asked (Log app section) is = quiet_app app (Log app section) is
  quiet_asked (Tracking app leader) is = quiet_app app (Tracking app leader) is
  quiet_asked (Snapshot app id) is = quiet_app app (Snapshot app id) is

module _ (sys : System) (o : Options) (s : State) (line : List ℕ) where
  abbrev t : Terms
  t = terms (rules_of sys) o

  -- a line by the turn of what it asks
  pub line_answered : (H : State → Type 0) (L : Contents → Type 0) (holds : State → List Name → Type 0) (r : RequestOf) (told : Reply) (u w : Option (List ℕ)) (result : Result (Unit {0}) Stop) (other : System) → other ≡ sys → request_in sys line ≡ asks r
      → (x : Replies t s r told holds) → RepliesAndDrains (terms (rules_of other) o) x.state H x.prompted told L u w result → AnswersLine t s H (text line) L u w result
  line_answered H L holds r told u w result other same asked x so =
      line_replied t s x.state H L (text line) x.prompted told outcome x.changes u w turn refl
      (λ y. written_by-append x.changes (writes y ∷ []) ∙ ap (λ (b : List ℕ). b ++ (as_line y ++ [])) silent) silent
      (sym (left_by-append x.changes (writes (reply_text told) ∷ []) s.contents) ∙ (Goes-one t.rules o here.openings (at_line s (text line) here) (after_reply x.state x.prompted here) outcome (turn here)).left) result (subst (λ y. RepliesAndDrains (terms (rules_of y) o) x.state H x.prompted told L u w result) same so)
    where
      outcome : Outcome
      outcome = record { changes = x.changes; reply = Some told }

      turn : (σ : Setting) → turn_at t.rules o σ.openings (at_line s (text line) σ) ≡ goes_on outcome (after_reply x.state x.prompted σ)
      turn σ = ap (request_turn t.rules o (at_line s (text line) σ) σ.lines) asked ∙ x.turn σ (text line)

      here : Setting
      here = record { openings = s.contents.histories; lines = []; answered = 0 }

      silent : written_by x.changes ≡ []
      silent = quiet_asked t.rules o (at_line s (text line) here) [] outcome (after_reply x.state x.prompted here) r (x.turn here (text line))

  nothing_asked : (f : LineFault) → request_in sys line ≡ not_asked f → (σ : Setting) → turn_at (rules_of sys) o σ.openings (at_line s (text line) σ) ≡ goes_on (only_says (reply_to f)) (after_reply s [] σ)
  nothing_asked f is σ = ap (λ a. request_turn (rules_of sys) o (at_line s (text line) σ) σ.lines a) is

  -- a line that asks nothing
  refused_only : (H : State → Type 0) (L : Contents → Type 0) (f : LineFault) (u w : Option (List ℕ)) (result : Result (Unit {0}) Stop)
      → request_in sys line ≡ not_asked f → SaysIt (reply_to f) u w result → H s → L s.contents → AnswersLine t s H (text line) L u w result
  refused_only H L f u w result is said held left = said_only t s H L (text line) (reply_to f) u w result (nothing_asked f is) said held left

  -- or whose reading ran out of memory
  pub line_refused : (H : State → Type 0) (L : Contents → Type 0) (f : LineFault) (u w : Option (List ℕ)) (result : Result (Unit {0}) Stop)
      → Answered (request_in sys line) (Err f) → (f ≡ line_fault.NoMemory → result ≡ Err (stop.Fault fault.NoMemory)) → SaysIt (reply_to f) u w result → H s → L s.contents → AnswersLine t s H (text line) L u w result
  line_refused H L line_fault.Syntax u w result asked starved said held left = refused_only H L line_fault.Syntax u w result asked said held left
  line_refused H L line_fault.Unknown u w result asked starved said held left = refused_only H L line_fault.Unknown u w result asked said held left
  line_refused H L line_fault.Kind u w result asked starved said held left = refused_only H L line_fault.Kind u w result asked said held left
  line_refused H L line_fault.NoMemory u w result asked starved said held left =
      let is = starved refl in
      subst (λ r. AnswersLine t s H (text line) L u w r) (sym is)
      (cut_at_line t s (text line) L u w left (subst (λ r. SaysIt reply.Syntax u w r) is said))

-- whether what a line asks is that no further line is answered
stops-as : (sys : System) (line : List ℕ) (a : Asked) → request_in sys line ≡ a → stops_lines (rules_of sys) (text line) ≡ is_stop a
stops-as sys line a is = ap is_stop is

-- what comes of a line tells it
pub asked_tells : (sys : System) (line : List ℕ) (r : RequestOf) (result : Result (Unit {0}) Stop) → request_in sys line ≡ asks r → TellsBy (is_stop (asks r)) result → TellsStop (rules_of sys) (text line) result
asked_tells sys line r result is so = subst (λ b. TellsBy b result) (sym (stops-as sys line (asks r) is)) so

-- also of one that only says something
pub saying_tells : (result : Result (Unit {0}) Stop) → IfErr result IsSaying → TellsBy false result
saying_tells (Ok x) so = refl
saying_tells (Err why) (inl is) = subst (λ y. TellsBy false (Err y)) (sym is) tt
saying_tells (Err why) (inr is) = subst (λ y. TellsBy false (Err y)) (sym is) tt

pub refusal_tells : (sys : System) (line : List ℕ) (f : LineFault) (result : Result (Unit {0}) Stop) → Answered (request_in sys line) (Err f) → (f ≡ line_fault.NoMemory → result ≡ Err (stop.Fault fault.NoMemory)) → IfErr result IsSaying → TellsStop (rules_of sys) (text line) result
refusal_tells sys line line_fault.Syntax result asked starved so = subst (λ b. TellsBy b result) (sym (stops-as sys line (not_asked line_fault.Syntax) asked)) (saying_tells result so)
refusal_tells sys line line_fault.Unknown result asked starved so = subst (λ b. TellsBy b result) (sym (stops-as sys line (not_asked line_fault.Unknown) asked)) (saying_tells result so)
refusal_tells sys line line_fault.Kind result asked starved so = subst (λ b. TellsBy b result) (sym (stops-as sys line (not_asked line_fault.Kind) asked)) (saying_tells result so)
refusal_tells sys line line_fault.NoMemory result asked starved so = subst (λ r. TellsStop (rules_of sys) (text line) r) (sym (starved refl)) tt

-- so may a line stop
pub saying_stops : (result : Result (Unit {0}) Stop) → IfErr result IsSaying → IfErr result MayStop
saying_stops (Ok x) so = so
saying_stops (Err why) (inl is) = subst MayStop (sym is) tt
saying_stops (Err why) (inr is) = subst MayStop (sym is) tt

pub draining_stops : (result : Result (Unit {0}) Stop) → IfErr result IsDraining → IfErr result MayStop
draining_stops (Ok x) so = so
draining_stops (Err stop.Asked) so = tt
draining_stops (Err (stop.Fault f)) so = tt
draining_stops (Err stop.Sink) so = absurd so
draining_stops (Err stop.End) so = absurd so
draining_stops (Err stop.Over) so = absurd so
draining_stops (Err stop.Read) so = absurd so
