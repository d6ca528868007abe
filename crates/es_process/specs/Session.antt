-- Sessions: replies to the first lines of an input, tied to the histories by marks.
use Rattle.std.specs.Prelude.{◌≡◌, ◌⊎◌, ◌≤◌, ◌<◌, ◌+◌, ℕ, ℤ, Bool, true, false, List, [], ◌∷◌, ◌++◌, length, map, filter, flat_map, take, drop, slice_get, Contains, if◌then◌else◌, Option, Some, None, IfSome, IsSome}
use Rattle.std.specs.Str.{bytes_eq}
use Rattle.es_model.specs.declared.event.Recording.{Recording}
use Rattle.es_model.specs.declared.event.Cause.{Cause}
use Rattle.es_model.specs.declared.event.Cause.TheVariants.{Command, Notification}
use Rattle.es_model.specs.History.{Histories, log}
use Rattle.es_model.specs.Lines.{Line, text, long, over}
use Rattle.es_model.specs.Tracking.{tracked_in}
use Rattle.es_model.specs.declared.snapshot.Snapshot.{Snapshot}
use Rattle.es_model.specs.Snapshots.{put_snapshot}
use Rattle.es_model.specs.Values.{Name}
use Rattle.es_io.specs.Readings.{Readings}
use Rattle.es_recorder.specs.Held.{put}
use Rattle.es_domain.specs.declared.command.Command.{Command as CommandOf}
use Rattle.es_lines.specs.CommandText.{command_text}
use Rattle.es_lines.specs.Requests.{Asked, asks, refused}
use Rattle.es_lines.specs.declared.request.Request.{Request}
use Rattle.es_lines.specs.declared.request.Request.TheVariants as request
use Rattle.es_lines.specs.declared.replies.Reply.{Reply}
use Rattle.es_lines.specs.declared.replies.Reply.TheVariants.{Long, Sync, Stop}
use Rattle.es_process.specs.Answer.{Options, Answer, says, accepts, takes, ends, request_answer, takes_reading, put_each, due_of}
use Rattle.es_process.specs.Consistent.{Fronts, lengths_of}
use Rattle.es_process.specs.Contents.{Contents}
use Rattle.es_process.specs.Decision.{Rules, logs_of}
use Rattle.es_process.specs.Questions.{reply_to}
use Rattle.es_process.specs.SingleThread.{as_line, Step, records, snaps, writes}
use Rattle.es_lines.specs.Texts.{reply_text}

-- an answered line and its reply; where it asks something of an application, that application, the mark, which is how many of its recordings the answer is given over, and the moment; and the recording that it added, with its application, and the snapshot that it took, where it did
pub record Answered : Type 0 where
  pub line : Line
  pub app : Option Name
  pub mark : ℕ
  pub at : ℤ
  pub added : Option (Name × Recording)
  pub taken : Option Snapshot
  pub reply : Reply

-- this is among the readings that a clock has to give: one of those listed, or the one that it stays at after them
abbrev pub IsReading : Readings → ℤ → Type 0
IsReading readings at = Contains readings.next at ⊎ (at ≡ readings.after)

-- the recording after so many of its application's
abbrev pub IsAt : Histories → Name → ℕ → Name × Recording → Type 0
IsAt histories app mark x = (x.0 ≡ app) × (slice_get (histories app) mark ≡ Some x.1)

-- ---- the snapshots of an application as its line is answered

-- how many of each application's recordings were there when a line was last answered over them, as many as at the opening before the first, and its snapshots then
pub record Watched : Type 0 where
  pub marks : Fronts
  pub snapshots : Name → List Snapshot

abbrev pub at_opening : Contents → Watched
at_opening opening = record { marks = lengths_of opening.histories; snapshots = opening.snapshots }

-- the snapshots after some recordings more, each of which puts those that are due after it
abbrev pub grown : Rules → List Recording → List Recording → List Snapshot → List Snapshot
grown rules before [] q = q
grown rules before (r ∷ rs) q = grown rules (before ++ r ∷ []) rs (put_each q (due_of rules before r))

-- the snapshots of an application once so many of its recordings are there
abbrev pub snapshots_at : Rules → Histories → Watched → Name → ℕ → List Snapshot
snapshots_at rules histories w app mark = grown rules (take (w.marks app) (histories app)) (drop (w.marks app) (take mark (histories app))) (w.snapshots app)

abbrev pub with_taken : List Snapshot → Option Snapshot → List Snapshot
with_taken q None = q
with_taken q (Some s) = put_snapshot q s

-- after a line was answered
abbrev pub watch : Rules → Histories → Watched → Option Name → ℕ → Option Snapshot → Watched
watch rules histories w None mark taken = w
watch rules histories w (Some app) mark taken = record {
  marks = put w.marks app mark;
  snapshots = put w.snapshots app (with_taken (snapshots_at rules histories w app mark) taken);
}

abbrev pub watched : Rules → Histories → Watched → Answered → Watched
watched rules histories w x = watch rules histories w x.app x.mark x.taken

-- ---- how a line is answered

-- an answer is what a line got: its reply, the recording that it added, and the snapshot that it took
abbrev pub IsGiven : Name → Answer → Answered → Type 0
IsGiven app (says reply) x = (x.reply ≡ reply) × (x.added ≡ None) × (x.taken ≡ None)
IsGiven app (accepts r ss reply) x = (x.reply ≡ reply) × (x.added ≡ Some (app, r)) × (x.taken ≡ None)
IsGiven app (takes s reply) x = (x.reply ≡ reply) × (x.added ≡ None) × (x.taken ≡ Some s)
IsGiven app (ends end) x = ⊥

-- a line that asks something of an application is answered over the first recordings of its history, at least those of the opening and as many as the mark says, over its snapshots there, at a moment among the clock's readings where it takes one; what it added stands right after the mark
pub record AnswersOf (rules : Rules) (options : Options) (openings histories : Histories) (readings : Readings) (w : Watched) (app : Name) (r : Request) (x : Answered) : Type 0 where
  pub named : x.app ≡ Some app
  pub from : length (openings app) ≤ x.mark
  pub upto : x.mark ≤ length (histories app)
  pub moment : takes_reading (take x.mark (histories app)) r ≡ true → IsReading readings x.at
  pub given : IsGiven app (request_answer rules options.capacity app (take x.mark (histories app)) (snapshots_at rules histories w app x.mark) (logs_of histories) r x.at) x
  pub stands : IfSome x.added (λ y. IsAt histories app x.mark y)

-- any other line gets its reply, and nothing else
pub record AnswersNothing (reply : Reply) (x : Answered) : Type 0 where
  pub unnamed : x.app ≡ None
  pub nothing : x.added ≡ None
  pub untaken : x.taken ≡ None
  pub replied : x.reply ≡ reply

abbrev pub AnswersRequest : Rules → Options → Histories → Histories → Readings → Watched → Asked → Answered → Type 0
AnswersRequest rules options openings histories readings w (refused fault) x = AnswersNothing (reply_to fault) x
AnswersRequest rules options openings histories readings w (asks request.Sync) x = AnswersNothing Sync x
AnswersRequest rules options openings histories readings w (asks request.Stop) x = AnswersNothing Stop x
AnswersRequest rules options openings histories readings w (asks (request.Do app c)) x = AnswersOf rules options openings histories readings w app (request.Do app c) x
AnswersRequest rules options openings histories readings w (asks (request.Get app id version)) x = AnswersOf rules options openings histories readings w app (request.Get app id version) x
AnswersRequest rules options openings histories readings w (asks (request.Log app section)) x = AnswersOf rules options openings histories readings w app (request.Log app section) x
AnswersRequest rules options openings histories readings w (asks (request.Tracking app leader)) x = AnswersOf rules options openings histories readings w app (request.Tracking app leader) x
AnswersRequest rules options openings histories readings w (asks (request.Snapshot app id)) x = AnswersOf rules options openings histories readings w app (request.Snapshot app id) x

-- how many of its application's recordings there were once a line was answered: those before its mark, and the one that it added
abbrev pub past : ℕ → Option (Name × Recording) → ℕ
past mark None = mark
past mark (Some x) = mark + 1

-- a line on a follower is answered over recordings that track all notifications of its leaders' openings
abbrev pub SeesOpenings : Rules → Histories → Histories → Answered → Type 0
SeesOpenings rules openings histories x =
    (leader follower : Name) → Contains rules.pairs (leader, follower) → x.app ≡ Some follower → length (log (openings leader)) ≤ tracked_in (take x.mark (histories follower)) leader

-- and all that there was once an earlier line was answered, where that is on a leader
abbrev pub SeesLine : Rules → Histories → Answered → Answered → Type 0
SeesLine rules histories earlier x =
    (leader follower : Name) → Contains rules.pairs (leader, follower) → earlier.app ≡ Some leader → x.app ≡ Some follower → length (log (take (past earlier.mark earlier.added) (histories leader))) ≤ tracked_in (take x.mark (histories follower)) leader

abbrev pub is_sync : Asked → Bool
is_sync (asks request.Sync) = true
is_sync a = false

-- a line asks that the followers reach their leaders
abbrev pub syncs : Rules → Line → Bool
syncs rules (text t) = is_sync (rules.request t)
syncs rules long = false
syncs rules over = false

-- each line behind one that asks so sees the openings, and each line before that one
abbrev pub AreSynced : Rules → Histories → Histories → List Answered → Type 0
AreSynced rules openings histories answered =
    (before behind : List Answered) (s : Answered) → answered ≡ before ++ s ∷ behind → syncs rules s.line ≡ true
    → (x : Answered) → Contains behind x → SeesOpenings rules openings histories x × ((earlier : Answered) → Contains before earlier → SeesLine rules histories earlier x)

-- a line is answered as it has to be; one that doesn't end within the input's limit isn't answered
abbrev pub AnswersLine : Rules → Options → Histories → Histories → Readings → Watched → Line → Answered → Type 0
AnswersLine rules options openings histories readings w (text t) x = AnswersRequest rules options openings histories readings w (rules.request t) x
AnswersLine rules options openings histories readings w long x = AnswersNothing Long x
AnswersLine rules options openings histories readings w over x = ⊥

-- of two lines on one application the later has no smaller mark, and a greater one where the earlier was accepted
abbrev pub IsLater : Answered → Answered → Type 0
IsLater earlier later = (app : Name) → earlier.app ≡ Some app → later.app ≡ Some app → (earlier.mark ≤ later.mark) × (IsSome earlier.added → earlier.mark < later.mark)

abbrev pub AreLater : Answered → List Answered → Type 0
AreLater earlier [] = Unit {0}
AreLater earlier (later ∷ rest) = IsLater earlier later × AreLater earlier rest

-- each line is answered as it has to be, and those after it are later
abbrev pub AreAnswered : Rules → Options → Histories → Histories → Readings → Watched → List Answered → Type 0
AreAnswered rules options openings histories readings w [] = Unit {0}
AreAnswered rules options openings histories readings w (x ∷ xs) =
    AnswersLine rules options openings histories readings w x.line x × AreLater x xs × AreAnswered rules options openings histories readings (watched rules histories w x) xs

abbrev pub lines_in : List Answered → List Line
lines_in answered = map (λ x. x.line) answered

-- the replies, each as a line
abbrev pub replies_in : List Answered → List ℕ
replies_in answered = flat_map (λ x. as_line (reply_text x.reply)) answered

-- how many lines some steps of a run write
abbrev pub writes_in : List Step → ℕ
writes_in [] = 0
writes_in (records app r ∷ steps) = writes_in steps
writes_in (snaps app s ∷ steps) = writes_in steps
writes_in (writes t ∷ steps) = writes_in steps + 1

-- a recording where it is of this application
abbrev pub if_of : Name → Option (Name × Recording) → List Recording
if_of app None = []
if_of app (Some x) = if bytes_eq x.0 app then x.1 ∷ [] else []

-- what the accepted lines added to an application
abbrev pub accepted_in : Name → List Answered → List Recording
accepted_in app answered = flat_map (λ x. if_of app x.added) answered

abbrev pub is_command : Cause → Bool
is_command (Command asked) = true
is_command (Notification leader id) = false

-- the recordings whose cause is a command
abbrev pub commands_in : List Recording → List Recording
commands_in recordings = filter (λ r. is_command r.cause) recordings

-- a recording has the canonical text of the command that a line asks of its application
pub record IsOfLine (rules : Rules) (line : List ℕ) (x : Name × Recording) : Type 0 where
  pub command : CommandOf
  pub is_asked : rules.request line ≡ asks (request.Do x.0 command)
  pub caused : x.1.cause ≡ Command (command_text x.0 command)

-- the same of the first of these lines
abbrev pub IsOfFirst : Rules → List Line → Name × Recording → Type 0
IsOfFirst rules [] x = ⊥
IsOfFirst rules (text t ∷ lines) x = IsOfLine rules t x
IsOfFirst rules (long ∷ lines) x = ⊥
IsOfFirst rules (over ∷ lines) x = ⊥

-- the first so many of the lines were answered with these bytes: each as it has to be, and of each declared application's added recordings those whose cause is a command are what the accepted lines added, and at most one more, of the line that comes next, and none more at status 0
pub record IsSession (rules : Rules) (options : Options) (opening : Contents) (histories : Histories) (readings : Readings) (lines : List Line) (count : ℕ) (out : List ℕ) (status : ℕ) : Type 0 where
  pub answered : List Answered
  pub rest : List Line
  pub parts : lines ≡ lines_in answered ++ rest
  pub counted : count ≡ length answered
  pub each : AreAnswered rules options opening.histories histories readings (at_opening opening) answered
  pub synced : AreSynced rules opening.histories histories answered
  pub written : out ≡ replies_in answered
  pub more : Option (Name × Recording)
  pub granted : (app : Name) → Contains rules.names app → commands_in (drop (length (opening.histories app)) (histories app)) ≡ accepted_in app answered ++ if_of app more
  pub next : IfSome more (λ x. IsOfFirst rules rest x)
  pub none : status ≡ 0 → more ≡ None
