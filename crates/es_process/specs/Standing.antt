-- Where the objects of a run stand, and what a part of the run leaves.
use Rattle.std.specs.Prelude.{◌≡◌, ◌≤◌, ◌<◌, ◌^◌, ◌+◌, ◌⊎◌, ℕ, Bool, true, false, List, [], ◌∷◌, ◌++◌, length, map, slice_get, Option, Some, None, Result, OnOk}
use Rattle.std.specs.Io.KnownBytes.{Appends}
use Rattle.es_model.specs.declared.event.Notification.{Notification}
use Rattle.es_model.specs.declared.event.Recording.{Recording}
use Rattle.es_model.specs.declared.event.StoredEvent.{StoredEvent}
use Rattle.es_model.specs.declared.snapshot.Snapshot.{Snapshot}
use Rattle.es_model.specs.Causes.{Rose}
use Rattle.es_model.specs.History.{Histories, log}
use Rattle.es_model.specs.Tracking.{tracked_in}
use Rattle.es_model.specs.Lines.{Line}
use Rattle.es_model.specs.Values.{Name}
use Rattle.es_io.specs.Readings.{Readings}
use Rattle.es_recorder.specs.Stable.{GrowsTold}
use Rattle.es_lines.specs.declared.ends.End.{End}
use Rattle.es_process.specs.declared.application.Application.{Application}
use Rattle.es_process.specs.declared.faults.RunFault.{RunFault}
use Rattle.es_process.specs.declared.faults.RunFault.TheVariants as fault
use Rattle.es_process.specs.Answer.{Options}
use Rattle.es_process.specs.Faults.{ByFault}
use Rattle.es_process.specs.Contents.{Contents}
use Rattle.es_process.specs.SingleThread.{is_among, Place, Step, records, snaps, writes, Run, IsRun, Goes, left_by, written_by, as_line}
use Rattle.es_process.specs.Terms.{Terms}

-- what the applications and the clock hold: what the applications keep, the readings to come, and how many notifications each application has recorded in this run
pub record State : Type 0 where
  pub contents : Contents
  pub readings : Readings
  pub used : Name → ℕ

-- an application tells what the state has of it, all of which is settled, and has the limits of the run
pub record HoldsOne {R : Type 0} (history : R → Option (List Recording)) (settled : R → Bool) (snapshots : R → Option (List Snapshot)) (capacity : R → ℕ) (options : Options) (a : Application R) (s : State) : Type 0 where
  pub told : history a.recorder ≡ Some (s.contents.histories a.name)
  pub told_snapshots : snapshots a.recorder ≡ Some (s.contents.snapshots a.name)
  pub whole : settled a.recorder ≡ true
  pub room : capacity a.recorder ≡ options.capacity
  pub turns : a.turns ≡ options.turns
  pub counted : a.used ≡ s.used a.name

abbrev pub names_in : {R : Type 0} → List (Application R) → List Name
names_in apps = map (λ a. a.name) apps

-- something is this but at the applications
abbrev pub AreElsewhere : {A R : Type 0} → (Name → A) → List (Application R) → (Name → A) → Type 0
AreElsewhere base apps h = (n : Name) → is_among n (names_in apps) ≡ false → h n ≡ base n

-- elsewhere than at the applications all is kept as at the opening
pub record IsKeptElsewhere {R : Type 0} (base : Contents) (apps : List (Application R)) (c : Contents) : Type 0 where
  pub histories : AreElsewhere base.histories apps c.histories
  pub snapshots : AreElsewhere base.snapshots apps c.snapshots

-- a follower tracks no more of a leader than this leader's log has
abbrev pub TracksWithin : Histories → Name → Name → Type 0
TracksWithin histories leader follower = tracked_in (histories follower) leader ≤ length (log (histories leader))

-- whoever did so at the opening does so still
abbrev pub StayWithin : Histories → Histories → Type 0
StayWithin openings histories = (leader follower : Name) → (leader ≡ follower → ⊥) → TracksWithin openings leader follower → TracksWithin histories leader follower

-- what is stable has so many notifications
abbrev pub HasStable : Option (List Recording) → ℕ → Type 0
HasStable None id = ⊥
HasStable (Some h) id = id ≤ length (log h)

-- the applications and the clock tell this state, in which nobody has come ahead, and elsewhere all is as at the opening
pub record Holds {R : Type 0} (history : R → Option (List Recording)) (settled : R → Bool) (snapshots : R → Option (List Snapshot)) (capacity : R → ℕ) (base : Contents) (options : Options) (apps : List (Application R)) (readings : Option Readings) (s : State) : Type 0 where
  pub each : (i : ℕ) (a : Application R) → slice_get apps i ≡ Some a → HoldsOne history settled snapshots capacity options a s
  pub clock : readings ≡ Some s.readings
  pub within : StayWithin base.histories s.contents.histories
  pub elsewhere : IsKeptElsewhere base apps s.contents

-- an application tells what is kept of it
pub record TellsContents {R : Type 0} (history : R → Option (List Recording)) (snapshots : R → Option (List Snapshot)) (a : Application R) (c : Contents) : Type 0 where
  pub told : history a.recorder ≡ Some (c.histories a.name)
  pub told_snapshots : snapshots a.recorder ≡ Some (c.snapshots a.name)

-- the applications tell what they keep, whoever tracked no more than there was tracks no more than what is stable of its leader has, and elsewhere all is as at the opening
pub record HoldContents {R : Type 0} (history stable : R → Option (List Recording)) (snapshots : R → Option (List Snapshot)) (base : Contents) (apps : List (Application R)) (c : Contents) : Type 0 where
  pub each : (i : ℕ) (a : Application R) → slice_get apps i ≡ Some a → TellsContents history snapshots a c
  pub within : (i : ℕ) (a : Application R) → slice_get apps i ≡ Some a → (follower : Name) → (a.name ≡ follower → ⊥) → TracksWithin base.histories a.name follower → HasStable (stable a.recorder) (tracked_in (c.histories follower) a.name)
  pub elsewhere : IsKeptElsewhere base apps c

-- the names of the applications are different
abbrev pub AreDistinct : List Name → Type 0
AreDistinct names = (i j : ℕ) (n : Name) → slice_get names i ≡ Some n → slice_get names j ≡ Some n → i ≡ j

-- the entry after one that is tracked, with its id, or that there is none
abbrev pub IsNextAfter : List StoredEvent → ℕ → Option Notification → Type 0
IsNextAfter entries tracked None = slice_get entries tracked ≡ None
IsNextAfter entries tracked (Some n) = (slice_get entries tracked ≡ Some n.event) × (n.id ≡ tracked + 1)

-- the numbers of a notification that a recorder gives
pub record IsSmall (n : Notification) : Type 0 where
  pub id : n.id < 2 ^ 62
  pub version : n.event.originator_version < 2 ^ 62

-- the faults of reading
abbrev pub MayFailToRead : RunFault → Type 0
MayFailToRead f = (f ≡ fault.Recorder) ⊎ (f ≡ fault.NoMemory)

-- what every call leaves of an application: its name and its limits; no count of faults falls
pub record Stays {R : Type 0} (capacity : R → ℕ) (faults : R → ℕ) (old new : Application R) : Type 0 where
  pub name : new.name ≡ old.name
  pub turns : new.turns ≡ old.turns
  pub room : capacity new.recorder ≡ capacity old.recorder
  pub later : faults old.recorder ≤ faults new.recorder

-- and all else that it holds
pub record IsSame {R : Type 0} (history : R → Option (List Recording)) (settled : R → Bool) (capacity : R → ℕ) (snapshots : R → Option (List Snapshot)) (faults : R → ℕ) (old new : Application R) : Type 0 where
  pub stays : Stays capacity faults old new
  pub told : history new.recorder ≡ history old.recorder
  pub settled_is : settled new.recorder ≡ settled old.recorder
  pub kept : snapshots new.recorder ≡ snapshots old.recorder
  pub used : new.used ≡ old.used

-- what a call that may add leaves of what was all settled: so it is after an Ok, and in any case what was held then is stable
pub record Settles {R T : Type 0} (history stable : R → Option (List Recording)) (settled : R → Bool) (old new : Application R) (result : Result T RunFault) : Type 0 where
  pub whole : settled old.recorder ≡ true → OnOk result (settled new.recorder ≡ true)
  pub grows : settled old.recorder ≡ true → GrowsTold (history old.recorder) (stable new.recorder)

-- how often the recorder of the application at a place has failed
abbrev pub count_of : {R : Type 0} → (R → ℕ) → Option (Application R) → ℕ
count_of faults None = 0
count_of faults (Some a) = faults a.recorder

abbrev pub faults_at : {R : Type 0} → (R → ℕ) → List (Application R) → ℕ → ℕ
faults_at faults apps i = count_of faults (slice_get apps i)

-- no count of faults has fallen
abbrev pub Later : {R : Type 0} → (R → ℕ) → List (Application R) → List (Application R) → Type 0
Later faults old new = (i : ℕ) → faults_at faults old i ≤ faults_at faults new i

-- what every call leaves of some applications: their names; no count of faults falls
pub record AllStay {R : Type 0} (faults : R → ℕ) (old new : List (Application R)) : Type 0 where
  pub names : names_in new ≡ names_in old
  pub later : Later faults old new

-- one of them has risen
abbrev pub SomeRose : {R : Type 0} → (R → ℕ) → List (Application R) → List (Application R) → Type 0
SomeRose faults old new = (i : ℕ) × Rose (faults_at faults old i) (faults_at faults new i)

-- the place of a run with this state
abbrev pub stand : State → List Name → List (Name × Name) → List Line → ℕ → Place
stand s prompted pending lines answered = record {
  contents = s.contents;
  readings = s.readings;
  used = s.used;
  prompted = prompted;
  pending = pending;
  lines = lines;
  answered = answered;
}

-- what a part of a run doesn't look at: the openings, the lines after its own, and how many lines were answered before
pub record Setting : Type 0 where
  pub openings : Histories
  pub lines : List Line
  pub answered : ℕ

-- a place of a run in each setting
abbrev pub Places : Type 0
Places = Setting → Place

abbrev pub standing : State → List Name → List (Name × Name) → Places
standing s prompted pending = λ σ. stand s prompted pending σ.lines σ.answered

-- these bytes are a front of the next text, or none where no text is next
abbrev pub IsFrontOf : List ℕ → List Step → Type 0
IsFrontOf front [] = front ≡ []
IsFrontOf front (records app r ∷ rest) = front ≡ []
IsFrontOf front (snaps app s ∷ rest) = front ≡ []
IsFrontOf front (writes t ∷ rest) = (more : List ℕ) × (as_line t ≡ front ++ more)

-- some steps are the first of all, and these bytes a front of the next one's text
pub record AreFirst (done : List Step) (front : List ℕ) (whole : List Step) : Type 0 where
  pub rest : List Step
  pub parts : whole ≡ done ++ rest
  pub next : IsFrontOf front rest

-- where there is a run from a place, these are the first of its steps
pub record Cut (t : Terms) (openings : Histories) (at : Place) (done : List Step) (front : List ℕ) : Type 0 where
  pub of_run : (run : Run) → IsRun t.rules t.options openings at run → AreFirst done front run.steps

-- from the first place the run came to the second, in each setting, by steps that wrote what was written; the objects hold the state there
pub record Came (t : Terms) (at : Places) (holds : State → Type 0) (before now : Option (List ℕ)) (next : State → Places) : Type 0 where
  pub state : State
  pub steps : List Step
  pub held : holds state
  pub goes : (σ : Setting) → Goes t.rules t.options σ.openings (at σ) (next state σ) steps
  pub written : Appends before now (written_by steps)

-- from this place the run came to its end: all its steps were made, and the applications keep what these leave
pub record Ended (t : Terms) (at : Places) (left : Contents → Type 0) (before now : Option (List ℕ)) (end : End) : Type 0 where
  pub steps : List Step
  pub contents : Contents
  pub held : left contents
  pub run : (σ : Setting) → IsRun t.rules t.options σ.openings (at σ) (record { steps = steps; end = end })
  pub made : (σ : Setting) → left_by steps (at σ).contents ≡ contents
  pub written : Appends before now (written_by steps)

-- from this place the run was cut short: its first steps were made, and this front of the next text was written besides
pub record CutShort (t : Terms) (at : Places) (left : Contents → Type 0) (before now : Option (List ℕ)) (front : List ℕ) : Type 0 where
  pub done : List Step
  pub contents : Contents
  pub held : left contents
  pub cut : (σ : Setting) → Cut t σ.openings (at σ) done front
  pub made : (σ : Setting) → left_by done (at σ).contents ≡ contents
  pub written : Appends before now (written_by done ++ front)

-- the same with some front
abbrev pub CutInText : Terms → Places → (Contents → Type 0) → Option (List ℕ) → Option (List ℕ) → Type 0
CutInText t at left before now = (front : List ℕ) × CutShort t at left before now front

-- what a fault of a part of a run leaves; no part of a text was written
abbrev pub Faulted : Terms → Places → RunFault → (Contents → Type 0) → Option (List ℕ) → Option (List ℕ) → Type 0
Faulted t at f left before now = ByFault f (λ end. Ended t at left before now end) (CutShort t at left before now []) (CutShort t at left before now [])
