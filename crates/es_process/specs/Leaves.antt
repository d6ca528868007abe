-- What an application makes of what is asked of it and of a notification, and what it leaves.
use Rattle.std.specs.Prelude.{◌≡◌, ◌⊎◌, ◌≤◌, ◌<◌, ◌+◌, ◌-◌, ℕ, List, [], ◌∷◌, ◌++◌, length, slice_get, Option, Some, None, Result, Ok, Err}
use Rattle.es_model.specs.declared.declaration.System.{System}
use Rattle.es_model.specs.declared.domain_event.DomainEvent.{DomainEvent}
use Rattle.es_model.specs.declared.event.Notification.{Notification}
use Rattle.es_model.specs.declared.event.Recording.{Recording}
use Rattle.es_model.specs.declared.event.StoredEvent.{StoredEvent}
use Rattle.es_model.specs.declared.snapshot.Snapshot.{Snapshot}
use Rattle.es_model.specs.History.{log}
use Rattle.es_model.specs.Snapshots.{put_snapshot}
use Rattle.es_model.specs.Tracking.{tracked_in}
use Rattle.es_model.specs.Values.{Name}
use Rattle.es_mapper.specs.Mapped.{event_of}
use Rattle.es_io.specs.Readings.{Readings, later_readings}
use Rattle.es_process.specs.declared.application.Processed.{Processed}
use Rattle.es_process.specs.declared.application.Processed.TheVariants.{Recorded, Skipped, Gap}
use Rattle.es_process.specs.declared.faults.RunFault.{RunFault}
use Rattle.es_process.specs.declared.faults.RunFault.TheVariants as fault
use Rattle.es_lines.specs.CommandText.{command_text}
use Rattle.es_lines.specs.Requests.{asks, request_in}
use Rattle.es_lines.specs.declared.replies.Reply.{Reply}
use Rattle.es_lines.specs.declared.request.Request.{Request}
use Rattle.es_lines.specs.declared.request.Request.TheVariants.{Do, Get, Log, Tracking, Snapshot as SnapshotOf, Sync, Stop}
use Rattle.es_process.specs.Answer.{Answer, says, accepts, takes, ends, put_each, Followed, adds, stops}
use Rattle.es_process.specs.Decision.{Logs}
use Rattle.es_process.specs.Faults.{ByFault}

-- these are all causes for which a recording that fits isn't added
abbrev pub MayFailToAdd : RunFault → Type 0
MayFailToAdd (fault.Full name last most) = Unit {0}
MayFailToAdd fault.Recorder = Unit {0}
MayFailToAdd fault.NoMemory = Unit {0}
MayFailToAdd (fault.Refused name leader id recordings code rule) = ⊥
MayFailToAdd (fault.Turns name turns) = ⊥
MayFailToAdd (fault.Unreadable name id) = ⊥

-- what may be asked of an application: a command whose canonical text asks for it, or anything else
abbrev pub MayAsk : System → Name → Request → Type 0
MayAsk sys app (Do other c) = request_in sys (command_text app c) ≡ asks (Do app c)
MayAsk sys app (Get other id version) = Unit {0}
MayAsk sys app (Log other section) = Unit {0}
MayAsk sys app (Tracking other leader) = Unit {0}
MayAsk sys app (SnapshotOf other id) = Unit {0}
MayAsk sys app Sync = Unit {0}
MayAsk sys app Stop = Unit {0}

-- ---- what is left of an application's recordings `h` and snapshots `q`, which its recorder tells as `new` and `now`

-- it tells these
pub record Tells (h : List Recording) (q : List Snapshot) (new : Option (List Recording)) (now : Option (List Snapshot)) : Type 0 where
  pub recordings : new ≡ Some h
  pub snapshots : now ≡ Some q

-- the first of some snapshots were put
pub record PutsFirst (ss : List Snapshot) (h : List Recording) (q : List Snapshot) (new : Option (List Recording)) (now : Option (List Snapshot)) : Type 0 where
  pub front : List Snapshot
  pub rest : List Snapshot
  pub parts : ss ≡ front ++ rest
  pub tells : Tells h (put_each q front) new now

-- a reply was given, and what belongs to it was added
abbrev pub Gives : Answer → List Recording → List Snapshot → Reply → Option (List Recording) → Option (List Snapshot) → Type 0
Gives (says expected) h q reply new now = (reply ≡ expected) × Tells h q new now
Gives (accepts r ss expected) h q reply new now = (reply ≡ expected) × Tells (h ++ r ∷ []) (put_each q ss) new now
Gives (takes s expected) h q reply new now = (reply ≡ expected) × Tells h (put_snapshot q s) new now
Gives (ends end) h q reply new now = ⊥

-- nothing was added, or the first of what belongs to the answer: its recording, and then its snapshots one by one
abbrev pub MayAdd : Answer → List Recording → List Snapshot → Option (List Recording) → Option (List Snapshot) → Type 0
MayAdd (says expected) h q new now = Tells h q new now
MayAdd (accepts r ss expected) h q new now = Tells h q new now ⊎ PutsFirst ss (h ++ r ∷ []) q new now
MayAdd (takes s expected) h q new now = Tells h q new now ⊎ Tells h (put_snapshot q s) new now
MayAdd (ends end) h q new now = Tells h q new now

-- what a result leaves
abbrev pub Leaves : Answer → List Recording → List Snapshot → Result Reply RunFault → Option (List Recording) → Option (List Snapshot) → Type 0
Leaves a h q (Ok reply) new now = Gives a h q reply new now
Leaves a h q (Err f) new now = ByFault f (λ e. (a ≡ ends e) × Tells h q new now) (MayAdd a h q new now) (MayAdd a h q new now)

-- ---- a leader's notifications

-- a leader's entry is converted to its domain event, or it has no meaning
abbrev pub Converts : System → Name → Notification → Result DomainEvent RunFault → Type 0
Converts sys leader n (Ok e) = event_of sys n.event ≡ Some e
Converts sys leader n (Err (fault.Unreadable name id)) = (event_of sys n.event ≡ None) × (name ≡ leader) × (id ≡ n.id)
Converts sys leader n (Err fault.NoMemory) = Unit {0}
Converts sys leader n (Err f) = ⊥

-- the entry of a leader's log with this id stands for this event
pub record IsEntry (sys : System) (logs : Logs) (leader : Name) (id : ℕ) (e : DomainEvent) : Type 0 where
  pub entry : StoredEvent
  pub there : slice_get (logs leader) (id - 1) ≡ Some entry
  pub means : event_of sys entry ≡ Some e

-- a notification was recorded
abbrev pub IsRecorded : Result Processed RunFault → Type 0
IsRecorded (Ok (Recorded first last)) = Unit {0}
IsRecorded (Ok (Skipped tracked)) = ⊥
IsRecorded (Ok (Gap tracked)) = ⊥
IsRecorded (Err f) = ⊥

-- the recording that follows was added, and its snapshots were put
pub record IsAdded (f : Followed) (h : List Recording) (q : List Snapshot) (first last : ℕ) (new : Option (List Recording)) (now : Option (List Snapshot)) : Type 0 where
  pub recording : Recording
  pub snapshots : List Snapshot
  pub follows : f ≡ adds recording snapshots
  pub added : Tells (h ++ recording ∷ []) (put_each q snapshots) new now
  pub from : first ≡ length (log h) + 1
  pub to : last ≡ length (log h) + length recording.events

-- the same, after one reading of the clock
pub record Took (f : Followed) (h : List Recording) (q : List Snapshot) (used : ℕ) (r : Readings) (first last : ℕ) (new : Option (List Recording)) (now : Option (List Snapshot)) (count : ℕ) (later : Option Readings) : Type 0 where
  pub is : IsAdded f h q first last new now
  pub counted : count ≡ used + 1
  pub read : later ≡ Some (later_readings r)

-- nothing was added, or the first of what follows: the recording, and then its snapshots one by one
abbrev pub MayTake : Followed → List Recording → List Snapshot → Option (List Recording) → Option (List Snapshot) → Type 0
MayTake (adds r ss) h q new now = Tells h q new now ⊎ PutsFirst ss (h ++ r ∷ []) q new now
MayTake (stops end) h q new now = Tells h q new now

-- a notification that isn't the next one changes nothing
pub record Passes (h : List Recording) (q : List Snapshot) (used : ℕ) (r : Readings) (new : Option (List Recording)) (now : Option (List Snapshot)) (count : ℕ) (later : Option Readings) : Type 0 where
  pub same : Tells h q new now
  pub uncounted : count ≡ used
  pub unread : later ≡ Some r

-- what any notification leaves: it is tracked already, or comes after a gap, or is the next one
abbrev pub Processes : Name → ℕ → Followed → List Recording → List Snapshot → ℕ → Readings → Result Processed RunFault → Option (List Recording) → Option (List Snapshot) → ℕ → Option Readings → Type 0
Processes leader id f h q used r (Ok (Skipped tracked)) new now count later = (tracked ≡ tracked_in h leader) × (id ≤ tracked) × Passes h q used r new now count later
Processes leader id f h q used r (Ok (Gap tracked)) new now count later = (tracked ≡ tracked_in h leader) × (tracked + 1 < id) × Passes h q used r new now count later
Processes leader id f h q used r (Ok (Recorded first last)) new now count later = (id ≡ tracked_in h leader + 1) × Took f h q used r first last new now count later
Processes leader id f h q used r (Err e) new now count later =
    ByFault e (λ x. (id ≡ tracked_in h leader + 1) × (f ≡ stops x) × Tells h q new now)
    (Tells h q new now ⊎ ((id ≡ tracked_in h leader + 1) × MayTake f h q new now))
    (Tells h q new now ⊎ ((id ≡ tracked_in h leader + 1) × MayTake f h q new now))
