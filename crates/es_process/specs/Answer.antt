-- What an application makes of what is asked of it, and of a notification.
use Rattle.std.specs.Prelude.{ℕ, ℤ, ◌==◌, nat_le, Bool, true, false, not, List, [], ◌∷◌, ◌++◌, length, if◌then◌else◌, Option, Some, None}
use Rattle.es_model.specs.declared.event.StoredEvent.{StoredEvent}
use Rattle.es_model.specs.declared.event.Recording.{Recording}
use Rattle.es_model.specs.declared.event.Cause.{Cause}
use Rattle.es_model.specs.declared.event.Cause.TheVariants.{Command, Notification}
use Rattle.es_model.specs.declared.snapshot.Snapshot.{Snapshot}
use Rattle.es_model.specs.History.{log, latest}
use Rattle.es_model.specs.Snapshots.{put_snapshot}
use Rattle.es_model.specs.Values.{Name, Id}
use Rattle.es_domain.specs.Readings.{Reading, folded, unreadable as unread}
use Rattle.es_domain.specs.declared.command.Command.{Command as CommandOf}
use Rattle.es_recorder.specs.Insert.{too_many, inserted}
use Rattle.es_recorder.specs.declared.recorder.InsertFault.{InsertFault}
use Rattle.es_repo.specs.Snapshots.{is_there}
use Rattle.es_lines.specs.CommandText.{command_text}
use Rattle.es_lines.specs.declared.request.Request.{Request}
use Rattle.es_lines.specs.declared.request.Request.TheVariants as request
use Rattle.es_lines.specs.declared.replies.Reply.{Reply}
use Rattle.es_lines.specs.declared.replies.Reply.TheVariants as reply
use Rattle.es_lines.specs.declared.ends.End.{End}
use Rattle.es_lines.specs.declared.ends.End.TheVariants.{Full, Refused, Turns, Unreadable}
use Rattle.es_process.specs.Decision.{Rules, Logs, Decision, events, refused, unreadable}
use Rattle.es_process.specs.Questions.{get_reply, log_reply, tracking_reply}

-- how many events each application may hold, and how many notifications each follower may record in a run
pub record Options : Type 0 where
  pub capacity : ℕ
  pub turns : ℕ

abbrev pub options : ℕ → ℕ → Options
options capacity turns = record { capacity = capacity; turns = turns }

abbrev pub recording_of : Cause → ℤ → List StoredEvent → Recording
recording_of cause at es = record { cause = cause; at = at; events = es }

-- ---- snapshots

-- some snapshots are put, one after the other
abbrev pub put_each : List Snapshot → List Snapshot → List Snapshot
put_each q [] = q
put_each q (s ∷ ss) = put_each (put_snapshot q s) ss

abbrev pub with_due : Option Snapshot → List Snapshot → List Snapshot
with_due None ss = ss
with_due (Some s) ss = s ∷ ss

-- the snapshots that are to be taken after some events among the recordings, in the order of the events
abbrev pub due_each : Rules → List Recording → List StoredEvent → List Snapshot
due_each rules h [] = []
due_each rules h (e ∷ es) = with_due (rules.due h e) (due_each rules h es)

-- those that are to be taken after a recording that comes behind others
abbrev pub due_of : Rules → List Recording → Recording → List Snapshot
due_of rules before r = due_each rules (before ++ r ∷ []) r.events

-- ---- what is answered

-- a reply that changes nothing; a recording, the snapshots that are due after it, and then a reply; a snapshot and then a reply; or the end of the run
pub data Answer : Type 0 where
  says : Reply → Answer
  accepts : Recording → List Snapshot → Reply → Answer
  takes : Snapshot → Reply → Answer
  ends : End → Answer

-- the reply to an accepted command: the numbers of its recording, and the version of its aggregate after it
abbrev pub accepted : List Recording → Recording → Id → Reply
accepted before r id =
    reply.Accepted (inserted before r).recording (inserted before r).first (inserted before r).last (latest (log before ++ r.events) id)

-- the events are added, unless they don't fit any more
abbrev pub accept_unless : Rules → Option InsertFault → ℕ → Name → List Recording → Recording → Id → Answer
accept_unless rules None capacity app before r id = accepts r (due_of rules before r) (accepted before r id)
accept_unless rules (Some full) capacity app before r id = ends (Full app (length (log before)) capacity)

-- a command expects another version than its aggregate has
abbrev pub differs : List Recording → Id → Option ℕ → Bool
differs before id None = false
differs before id (Some version) = not (version == latest (log before) id)

-- what a decision makes of a command
abbrev pub answer_of : Rules → ℕ → Name → List Recording → List ℕ → Id → ℤ → Decision → Answer
answer_of rules capacity app before text id at (refused code rule) = says (reply.Refused code)
answer_of rules capacity app before text id at (unreadable other n) = says (reply.Unreadable other n)
answer_of rules capacity app before text id at (events es) =
    accept_unless rules (too_many capacity (length (log before)) es) capacity app before (recording_of (Command text) at es) id

-- the answer to a command over an application's recordings so far, at a moment
abbrev pub command_answer : Rules → ℕ → Name → List Recording → Logs → CommandOf → ℤ → Answer
command_answer rules capacity app before logs c at =
    if differs before c.id c.expect then says (reply.Conflict (latest (log before) c.id)) else
    answer_of rules capacity app before (command_text app c) c.id at (rules.decide app before logs (Command (command_text app c)) at)

-- a snapshot is taken unless one of its aggregate, its version and its class version is there
abbrev pub take_unless : Bool → Snapshot → Answer
take_unless true s = says (reply.Unchanged s.originator_version)
take_unless false s = takes s (reply.Snapshot s.originator_version)

-- the answer where a snapshot is asked for of what is read, beside those that are kept
abbrev pub snapshot_answer : Rules → Name → List Snapshot → Reading → Answer
snapshot_answer rules app q (folded None) = says reply.NotFound
snapshot_answer rules app q (folded (Some a)) = take_unless (is_there q (rules.snapshot a)) (rules.snapshot a)
snapshot_answer rules app q (unread n) = says (reply.Unreadable app n)

-- the answer to what a line asks of an application, over its recordings so far and its snapshots, at a moment
abbrev pub request_answer : Rules → ℕ → Name → List Recording → List Snapshot → Logs → Request → ℤ → Answer
request_answer rules capacity app h q logs (request.Do other c) at = command_answer rules capacity app h logs c at
request_answer rules capacity app h q logs (request.Get other id version) at = says (get_reply rules app id version h)
request_answer rules capacity app h q logs (request.Log other section) at = says (log_reply rules app section h)
request_answer rules capacity app h q logs (request.Tracking other leader) at = says (tracking_reply leader h)
request_answer rules capacity app h q logs (request.Snapshot other id) at = snapshot_answer rules app q (rules.read h id None)
request_answer rules capacity app h q logs request.Sync at = says reply.Sync
request_answer rules capacity app h q logs request.Stop at = says reply.Stop

-- it takes a reading of the clock: a command, unless it expects another version than its aggregate has
abbrev pub takes_reading : List Recording → Request → Bool
takes_reading h (request.Do other c) = not (differs h c.id c.expect)
takes_reading h (request.Get other id version) = false
takes_reading h (request.Log other section) = false
takes_reading h (request.Tracking other leader) = false
takes_reading h (request.Snapshot other id) = false
takes_reading h request.Sync = false
takes_reading h request.Stop = false

-- ---- what follows from a notification

-- the next notification of a leader gives a recording, and the snapshots that are due after it, or the end of the run
pub data Followed : Type 0 where
  adds : Recording → List Snapshot → Followed
  stops : End → Followed

abbrev pub add_unless : Rules → Option InsertFault → ℕ → Name → List Recording → Recording → Followed
add_unless rules None capacity app before r = adds r (due_of rules before r)
add_unless rules (Some full) capacity app before r = stops (Full app (length (log before)) capacity)

-- what a decision makes of a notification
abbrev pub followed_of : Rules → ℕ → Name → List Recording → Name → ℕ → ℤ → Decision → Followed
followed_of rules capacity app before leader id at (refused code rule) = stops (Refused app leader id (length before) code rule)
followed_of rules capacity app before leader id at (unreadable other n) = stops (Unreadable other n)
followed_of rules capacity app before leader id at (events es) =
    add_unless rules (too_many capacity (length (log before)) es) capacity app before (recording_of (Notification leader id) at es)

-- what a follower that has recorded so many notifications in this run makes of the next one
abbrev pub followed : Rules → Options → Name → List Recording → ℕ → Logs → Name → ℕ → ℤ → Followed
followed rules options app before used logs leader id at =
    if nat_le options.turns used then stops (Turns app options.turns) else
    followed_of rules options.capacity app before leader id at (rules.decide app before logs (Notification leader id) at)
