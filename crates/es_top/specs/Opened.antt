-- Applications that were opened.
use Rattle.std.specs.Prelude.{◌≡◌, ◌<◌, ℕ, Bool, true, false, List, [], ◌++◌, slice_get, if◌then◌else◌, Option, Some, IfSome}
use Rattle.es_model.specs.declared.event.Recording.{Recording}
use Rattle.es_model.specs.declared.snapshot.Snapshot.{Snapshot}
use Rattle.es_model.specs.History.{Histories}
use Rattle.es_model.specs.Values.{Name}
use Rattle.es_io.specs.Readings.{Readings}
use Rattle.es_recorder.specs.Stable.{IsPrefix}
use Rattle.es_process.specs.declared.application.Application.{Application}
use Rattle.es_process.specs.Answer.{Options}
use Rattle.es_process.specs.Applications.{name_of, recorder_of, turns_of, used_of}
use Rattle.es_process.specs.Contents.{Contents}
use Rattle.es_process.specs.SingleThread.{is_among}
use Rattle.es_process.specs.Standing.{State, Holds, AllStay, AreDistinct, faults_at, names_in}
use Rattle.es_top.specs.Limits.{limits}

-- this at each of some names, and elsewhere what was there
abbrev pub marked : (Name → Bool) → List Name → Bool → Name → Bool
marked out names b n = if is_among n names then b else out n

-- the stores tell, and elsewhere than at these names they hold what this says
pub record HoldElsewhere {A : Type 0} (names : List Name) (base : Name → A) (held : Option (Name → A)) : Type 0 where
  pub things : Name → A
  pub told : held ≡ Some things
  pub same : (n : Name) → is_among n names ≡ false → things n ≡ base n

-- the recorder of each application tells what this says of its name
abbrev pub TellEach : {A R : Type 0} → (R → Option A) → (Name → A) → List (Application R) → Type 0
TellEach {A} {R} tell q apps = (i : ℕ) (a : Application R) → slice_get apps i ≡ Some a → tell (recorder_of a) ≡ Some (q (name_of a))

-- closing these applications leaves in the stores what each tells, and elsewhere what was there, where their names differ and all are out
abbrev pub ClosesEach : {A R : Type 0} → (R → Option A) → List (Application R) → (Name → Bool) → Option (Name → A) → Option (Name → A) → Type 0
ClosesEach {A} {R} tell apps out held new = (base q : Name → A) → AreDistinct (names_in apps) → ((n : Name) → is_among n (names_in apps) ≡ true → out n ≡ true)
    → HoldElsewhere (names_in apps) base held → TellEach tell q apps → ((n : Name) → is_among n (names_in apps) ≡ false → q n ≡ base n) → new ≡ Some q

-- what is stable is told, and elsewhere than at these names it has only grown
pub record GrowElsewhere (names : List Name) (base : Histories) (stable : Option Histories) : Type 0 where
  pub fronts : Histories
  pub told : stable ≡ Some fronts
  pub grows : (n : Name) → is_among n names ≡ false → IsPrefix (base n) (fronts n)

-- the same where the stores told what they held and what of it was stable
abbrev pub GrowsBut : List Name → (held stable now : Option Histories) → Type 0
GrowsBut names held stable now = (h base : Histories) → held ≡ Some h → stable ≡ Some base → GrowElsewhere names base now

-- and at each name
abbrev pub GrowsEach : (held stable now : Option Histories) → Type 0
GrowsEach held stable now = GrowsBut [] held stable now

-- what is stable is told: of each of these applications what its recorder tells, and elsewhere what was there
pub record AreFronts {R : Type 0} (stable : R → Option (List Recording)) (apps : List (Application R)) (base : Histories) (now : Option Histories) : Type 0 where
  pub fronts : Histories
  pub told : now ≡ Some fronts
  pub each : (i : ℕ) (a : Application R) → slice_get apps i ≡ Some a → IfSome (stable (recorder_of a)) (λ h. fronts (name_of a) ≡ h)
  pub elsewhere : (n : Name) → is_among n (names_in apps) ≡ false → fronts n ≡ base n

-- closing these applications leaves that, where their names differ and all are out
abbrev pub ClosesFronts : {R : Type 0} → (R → Option (List Recording)) → List (Application R) → (Name → Bool) → (held now : Option Histories) → Type 0
ClosesFronts stable apps out held now = (base : Histories) → AreDistinct (names_in apps) → ((n : Name) → is_among n (names_in apps) ≡ true → out n ≡ true) → held ≡ Some base → AreFronts stable apps base now

-- the recorders of some applications tell what the stores held, which now hold the rest
pub record AreHandedOut {A R : Type 0} (tell : R → Option A) (held now : Option (Name → A)) (apps : List (Application R)) : Type 0 where
  pub each : (q : Name → A) → held ≡ Some q → TellEach tell q apps
  pub elsewhere : (q : Name → A) → held ≡ Some q → HoldElsewhere (names_in apps) q now

-- no recorder has failed
abbrev pub AreFresh : {R : Type 0} → (R → ℕ) → List (Application R) → Type 0
AreFresh faults apps = (i : ℕ) → faults_at faults apps i ≡ 0

-- the recorder at a place has failed
abbrev pub SomeFailed : {R : Type 0} → (R → ℕ) → List (Application R) → Type 0
SomeFailed faults apps = (i : ℕ) × (0 < faults_at faults apps i)

-- an application as it is opened: nothing has happened in this run, and all that it has is settled
pub record IsUnused {R : Type 0} (settled : R → Bool) (capacity faults : R → ℕ) (a : Application R) : Type 0 where
  pub whole : settled (recorder_of a) ≡ true
  pub room : capacity (recorder_of a) ≡ limits.capacity
  pub turns : turns_of a ≡ limits.turns
  pub unused : used_of a ≡ 0
  pub fresh : faults (recorder_of a) ≡ 0

-- these applications were opened, and no others
pub record AreOpened {R : Type 0} (settled : R → Bool) (capacity faults : R → ℕ) (out out_now : Name → Bool) (apps : List (Application R)) : Type 0 where
  pub each : (i : ℕ) (a : Application R) → slice_get apps i ≡ Some a → IsUnused settled capacity faults a
  pub marks : (n : Name) → out_now n ≡ marked out (names_in apps) true n
  pub were_in : (n : Name) → is_among n (names_in apps) ≡ true → out n ≡ false

-- the recorders of some applications tell what they told of each name
pub record AreTold {R : Type 0} (history : R → Option (List Recording)) (snapshots : R → Option (List Snapshot)) (old new : List (Application R)) : Type 0 where
  pub told : (h : Histories) → TellEach history h old → TellEach history h new
  pub told_snapshots : (q : Name → List Snapshot) → TellEach snapshots q old → TellEach snapshots q new

-- the applications hold what they held
pub record AreKept {R : Type 0} (history : R → Option (List Recording)) (settled : R → Bool) (capacity : R → ℕ) (snapshots : R → Option (List Snapshot)) (faults : R → ℕ) (old new : List (Application R)) : Type 0 where
  pub holds : (base : Contents) (options : Options) (readings : Option Readings) (s : State) → Holds history settled snapshots capacity base options old readings s → Holds history settled snapshots capacity base options new readings s
  pub tells : AreTold history snapshots old new
  pub stay : AllStay faults old new

-- some names are the first of these
abbrev pub IsFrontOfNames : List Name → List Name → Type 0
IsFrontOfNames front names = (rest : List Name) × (front ++ rest ≡ names)
