-- The run on one thread, in five sentences.
-- Where a follower tracks more than its leader has at the opening, the run makes no step, and this is its end.
-- Else it begins with a drain of all leaders: the first prompted leader is taken, each of its followers, in the order of pairs, records all its notifications that it doesn't track, and a follower that recorded an event and leads is prompted behind the others, unless it is prompted; so until nobody is.
-- Then the lines are answered one by one: an accepted command adds its recording, puts the snapshots that are due and writes its reply, and a drain of its application follows; any other line puts its snapshot, if it takes one, and writes its reply.
-- The run ends well where no line is left or one has asked to stop, and it ends as over where a line doesn't end within the limit of the lines.
-- The first that can't go on ends it: a follower that has used its turns, a notification or an aggregate without meaning, a policy that refuses, events that don't fit.
-- What computes it is a machine of turns: a pair that is to be tried, else a prompted leader, else the next line. Its steps and its end are the run.
use Rattle.std.specs.Prelude.{◌≡◌, ℕ, zero, suc, ◌+◌, ◌-◌, Bool, true, false, not, ◌&&◌, List, [], ◌∷◌, ◌++◌, length, map, filter, slice_get, if◌then◌else◌, Option, Some, None}
use Rattle.std.specs.Option.{option_map}
use Rattle.std.specs.List.{list_any}
use Rattle.std.specs.Str.{bytes_eq}
use Rattle.es_model.specs.declared.event.StoredEvent.{StoredEvent}
use Rattle.es_model.specs.declared.event.Recording.{Recording}
use Rattle.es_model.specs.declared.snapshot.Snapshot.{Snapshot}
use Rattle.es_model.specs.History.{Histories, log}
use Rattle.es_model.specs.Lines.{Line, text, long, over}
use Rattle.es_model.specs.Tracking.{tracked_in}
use Rattle.es_model.specs.Values.{Name}
use Rattle.es_io.specs.Readings.{Readings, first_reading, later_readings}
use Rattle.es_decl.specs.Pairs.{leaders_in}
use Rattle.es_recorder.specs.Held.{put}
use Rattle.es_lines.specs.Requests.{Asked, asks, refused}
use Rattle.es_lines.specs.declared.request.Request.{Request}
use Rattle.es_lines.specs.declared.request.Request.TheVariants as request
use Rattle.es_lines.specs.declared.replies.Reply.{Reply}
use Rattle.es_lines.specs.declared.replies.Reply.TheVariants.{Long, Sync, Stop}
use Rattle.es_lines.specs.declared.ends.End.{End}
use Rattle.es_lines.specs.declared.ends.End.TheVariants.{Ok, Over}
use Rattle.es_lines.specs.declared.ends.End.TheVariants as end
use Rattle.es_process.specs.Answer.{Options, Answer, says, accepts, takes, ends, request_answer, takes_reading, Followed, adds, stops, followed}
use Rattle.es_process.specs.Contents.{Contents, recorded, snapped, added}
use Rattle.es_process.specs.Decision.{Rules, logs_of}
use Rattle.es_process.specs.Questions.{reply_to}
use Rattle.es_process.specs.Reached.{ahead}
use Rattle.es_process.specs.declared.ahead.Ahead.{Ahead}
use Rattle.es_lines.specs.Texts.{reply_text}

-- one step of a run: a recording is added to an application's history, or a snapshot is put beside it, or a text is written as a line
pub data Step : Type 0 where
  records : Name → Recording → Step
  snaps : Name → Snapshot → Step
  writes : List ℕ → Step

-- a text as a line
abbrev pub as_line : List ℕ → List ℕ
as_line t = t ++ 10 ∷ []

-- what steps leave of what the applications keep
abbrev pub left_by : List Step → Contents → Contents
left_by [] c = c
left_by (records app r ∷ steps) c = left_by steps (recorded c app r)
left_by (snaps app s ∷ steps) c = left_by steps (snapped c app s)
left_by (writes t ∷ steps) c = left_by steps c

-- the bytes that steps write
abbrev pub written_by : List Step → List ℕ
written_by [] = []
written_by (records app r ∷ steps) = written_by steps
written_by (snaps app s ∷ steps) = written_by steps
written_by (writes t ∷ steps) = as_line t ++ written_by steps

abbrev pub snaps_each : Name → List Snapshot → List Step
snaps_each app [] = []
snaps_each app (s ∷ ss) = snaps app s ∷ snaps_each app ss

-- where a run stands: what the applications keep, the readings to come, how many notifications each follower has recorded in this run, the leaders that are prompted, the pairs of the last leader taken that are still to be tried, the lines to come, and how many were answered
pub record Place : Type 0 where
  pub contents : Contents
  pub readings : Readings
  pub used : Name → ℕ
  pub prompted : List Name
  pub pending : List (Name × Name)
  pub lines : List Line
  pub answered : ℕ

-- what one turn does: first these changes of what the applications keep, and then it says at most one reply
pub record Outcome : Type 0 where
  pub changes : List Step
  pub reply : Option Reply

-- one turn: the run ends, or something is done and it goes on
pub data Turn : Type 0 where
  finished : End → Turn
  goes_on : Outcome → Place → Turn

-- how many recordings each application has more than at the opening
abbrev pub added_counts : List Name → Histories → Histories → List (Name × ℕ)
added_counts names openings histories = map (λ name. (name, length (histories name) - length (openings name))) names

-- after the first of the lines was answered
abbrev pub past_line : Place → List Line → Place
past_line at lines = record at { lines = lines; answered = at.answered + 1 }

abbrev pub only_says : Reply → Outcome
only_says reply = record { changes = []; reply = Some reply }

-- a recording, and the snapshots that are due after it
abbrev pub only_adds : Name → Recording → List Snapshot → Outcome
only_adds app r ss = record { changes = records app r ∷ snaps_each app ss; reply = None }

abbrev pub does_nothing : Outcome
does_nothing = record { changes = []; reply = None }

abbrev pub adds_and_says : Name → Recording → List Snapshot → Reply → Outcome
adds_and_says app r ss reply = record { changes = records app r ∷ snaps_each app ss; reply = Some reply }

abbrev pub snaps_and_says : Name → Snapshot → Reply → Outcome
snaps_and_says app s reply = record { changes = snaps app s ∷ []; reply = Some reply }

-- the turn that gives an application's answer, after which these readings are to come; an accepted command prompts its application
abbrev pub answer_turn : Place → List Line → Name → Readings → Answer → Turn
answer_turn at lines app readings (says reply) = goes_on (only_says reply) (record (past_line at lines) { readings = readings })
answer_turn at lines app readings (accepts r ss reply) =
    goes_on (adds_and_says app r ss reply) (record (past_line at lines) { contents = added at.contents app r ss; readings = readings; prompted = app ∷ [] })
answer_turn at lines app readings (takes s reply) =
    goes_on (snaps_and_says app s reply) (record (past_line at lines) { contents = snapped at.contents app s; readings = readings })
answer_turn at lines app readings (ends end) = finished end

abbrev pub readings_after : Bool → Readings → Readings
readings_after taken readings = if taken then later_readings readings else readings

-- the turn of a line that asks something of an application
abbrev pub app_turn : Rules → Options → Place → List Line → Name → Request → Turn
app_turn rules options at lines app r =
    answer_turn at lines app (readings_after (takes_reading (at.contents.histories app) r) at.readings)
    (request_answer rules options.capacity app (at.contents.histories app) (at.contents.snapshots app) (logs_of at.contents.histories) r (first_reading at.readings))

-- the turn of a line with a text
abbrev pub request_turn : Rules → Options → Place → List Line → Asked → Turn
request_turn rules options at lines (refused fault) = goes_on (only_says (reply_to fault)) (past_line at lines)
request_turn rules options at lines (asks request.Sync) = goes_on (only_says Sync) (past_line at lines)
request_turn rules options at lines (asks request.Stop) = goes_on (only_says Stop) (past_line at lines)
request_turn rules options at lines (asks (request.Do app c)) = app_turn rules options at lines app (request.Do app c)
request_turn rules options at lines (asks (request.Get app id version)) = app_turn rules options at lines app (request.Get app id version)
request_turn rules options at lines (asks (request.Log app section)) = app_turn rules options at lines app (request.Log app section)
request_turn rules options at lines (asks (request.Tracking app leader)) = app_turn rules options at lines app (request.Tracking app leader)
request_turn rules options at lines (asks (request.Snapshot app id)) = app_turn rules options at lines app (request.Snapshot app id)

-- a line asks that no further line is answered
abbrev pub is_stop : Asked → Bool
is_stop (asks request.Stop) = true
is_stop a = false

abbrev pub stops_lines : Rules → Line → Bool
stops_lines rules (text t) = is_stop (rules.request t)
stops_lines rules long = false
stops_lines rules over = false

-- the lines up to the first that asks so
abbrev pub up_to_stop : Rules → List Line → List Line
up_to_stop rules [] = []
up_to_stop rules (line ∷ lines) = line ∷ (if stops_lines rules line then [] else up_to_stop rules lines)

-- the turn of the next line
abbrev pub line_turn : Rules → Options → Histories → Place → List Line → Turn
line_turn rules options openings at [] = finished (Ok (added_counts rules.names openings at.contents.histories) at.answered)
line_turn rules options openings at (over ∷ lines) = finished Over
line_turn rules options openings at (long ∷ lines) = goes_on (only_says Long) (past_line at lines)
line_turn rules options openings at (text t ∷ lines) = request_turn rules options at lines (rules.request t)

-- the pairs that a leader leads, in the order of pairs
abbrev pub led_by : List (Name × Name) → Name → List (Name × Name)
led_by pairs leader = filter (λ p. bytes_eq p.0 leader) pairs

-- a name is among these
abbrev pub is_among : Name → List Name → Bool
is_among name names = list_any (λ n. bytes_eq n name) names

-- a follower whose recording has an event, and which leads, is prompted after the others, unless it is prompted already
abbrev pub prompt : List (Name × Name) → List Name → Name → List StoredEvent → List Name
prompt pairs prompted app [] = prompted
prompt pairs prompted app (e ∷ es) = if is_among app (leaders_in pairs) && not (is_among app prompted) then prompted ++ app ∷ [] else prompted

-- the turn that records a notification; it takes one reading of the clock where the run goes on
abbrev pub followed_turn : Rules → Place → Name → Followed → Turn
followed_turn rules at app (stops end) = finished end
followed_turn rules at app (adds r ss) =
    goes_on (only_adds app r ss)
    (record at { contents = added at.contents app r ss; readings = later_readings at.readings; used = put at.used app (at.used app + 1); prompted = prompt rules.pairs at.prompted app r.events })

-- the turn of a pair whose follower has its next notification here, or has none to come
abbrev pub next_turn : Rules → Options → Place → Name → Name → List (Name × Name) → Option StoredEvent → Turn
next_turn rules options at leader app rest None = goes_on does_nothing (record at { pending = rest })
next_turn rules options at leader app rest (Some e) =
    followed_turn rules at app (followed rules options app (at.contents.histories app) (at.used app) (logs_of at.contents.histories) leader (tracked_in (at.contents.histories app) leader + 1) (first_reading at.readings))

-- the turn of a pair that is to be tried
abbrev pub pair_turn : Rules → Options → Place → Name → Name → List (Name × Name) → Turn
pair_turn rules options at leader app rest =
    next_turn rules options at leader app rest (slice_get (log (at.contents.histories leader)) (tracked_in (at.contents.histories app) leader))

-- the next turn: a pair that is to be tried, else the first leader that is prompted, else the next line
abbrev pub turn_of : Rules → Options → Histories → Place → List (Name × Name) → List Name → Turn
turn_of rules options openings at (p ∷ rest) prompted = pair_turn rules options at p.0 p.1 rest
turn_of rules options openings at [] (leader ∷ prompted) = goes_on does_nothing (record at { prompted = prompted; pending = led_by rules.pairs leader })
turn_of rules options openings at [] [] = line_turn rules options openings at at.lines

abbrev pub turn_at : Rules → Options → Histories → Place → Turn
turn_at rules options openings at = turn_of rules options openings at at.pending at.prompted

-- a run: its steps, and how it ends
pub record Run : Type 0 where
  pub steps : List Step
  pub end : End

abbrev pub writes_of : Option Reply → List Step
writes_of None = []
writes_of (Some reply) = writes (reply_text reply) ∷ []

-- the steps of a turn: its changes, and then its reply
abbrev pub steps_of : Outcome → List Step
steps_of outcome = outcome.changes ++ writes_of outcome.reply

-- a run with these steps before its own
abbrev pub after : List Step → Run → Run
after steps run = record { steps = steps ++ run.steps; end = run.end }

abbrev pub go_on : Turn → (Place → Option Run) → Option Run
go_on (finished end) go = Some (record { steps = []; end = end })
go_on (goes_on outcome next) go = option_map (after (steps_of outcome)) (go next)

-- the run from a place, where it ends within so many turns
unfoldable pub run_within : ℕ → Rules → Options → Histories → Place → Option Run
run_within zero rules options openings at = None
run_within (suc n) rules options openings at = go_on (turn_at rules options openings at) (λ next. run_within n rules options openings next)

-- the run from a place; more turns than it takes change nothing, so there is one at most
pub record IsRun (rules : Rules) (options : Options) (openings : Histories) (at : Place) (run : Run) : Type 0 where
  pub turns : ℕ
  pub ends : run_within turns rules options openings at ≡ Some run

-- there is exactly one run from a place
pub record HasOneRun (rules : Rules) (options : Options) (openings : Histories) (at : Place) : Type 0 where
  pub run : Run
  pub is : IsRun rules options openings at run
  pub only : (other : Run) → IsRun rules options openings at other → other ≡ run

-- where a run begins: with a drain, in which all leaders are prompted
abbrev pub start : Rules → Contents → Readings → List Line → Place
start rules opening readings lines = record {
  contents = opening;
  readings = readings;
  used = λ app. 0;
  prompted = leaders_in rules.pairs;
  pending = [];
  lines = lines;
  answered = 0;
}

-- from a place the run goes through these steps to another place, by so many turns
pub record Goes (rules : Rules) (options : Options) (openings : Histories) (at now : Place) (steps : List Step) : Type 0 where
  pub turns : ℕ
  pub go : (k : ℕ) → run_within (turns + k) rules options openings at ≡ option_map (after steps) (run_within k rules options openings now)
  pub left : left_by steps at.contents ≡ now.contents

-- the end of a run at whose opening a follower is ahead of its leader
abbrev pub ahead_end : Ahead → End
ahead_end a = end.Ahead a.app a.leader a.tracked a.last

-- the run over an opening: where a follower is ahead of its leader there, it ends at once; else it is the run from its start
abbrev pub IsRunUnless : Option Ahead → Rules → Options → Contents → Readings → List Line → Run → Type 0
IsRunUnless None rules options opening readings lines run = IsRun rules options opening.histories (start rules opening readings lines) run
IsRunUnless (Some a) rules options opening readings lines run = run ≡ record { steps = []; end = ahead_end a }

abbrev pub IsRunOver : Rules → Options → Contents → Readings → List Line → Run → Type 0
IsRunOver rules options opening readings lines run = IsRunUnless (ahead rules.pairs opening.histories) rules options opening readings lines run

-- there is exactly one run over an opening
pub record HasOneRunOver (rules : Rules) (options : Options) (opening : Contents) (readings : Readings) (lines : List Line) : Type 0 where
  pub run : Run
  pub is : IsRunOver rules options opening readings lines run
  pub only : (other : Run) → IsRunOver rules options opening readings lines other → other ≡ run
