-- What a runner has, and what its calls leave.
use Rattle.std.specs.Prelude.{◌≡◌, ℕ, Bool, List, [], Option}
use Rattle.es_model.specs.declared.declaration.System.{System}
use Rattle.es_model.specs.declared.event.Recording.{Recording}
use Rattle.es_model.specs.declared.snapshot.Snapshot.{Snapshot}
use Rattle.es_model.specs.Values.{Name}
use Rattle.es_io.specs.Readings.{Readings}
use Rattle.es_process.specs.declared.application.Application.{Application}
use Rattle.es_process.specs.Answer.{Options}
use Rattle.es_process.specs.Contents.{Contents}
use Rattle.es_process.specs.Drains.{ArePairs, ArePrompted}
use Rattle.es_process.specs.Standing.{State, Holds, AllStay, names_in}
use Rattle.es_single.specs.declared.runner.SingleRunner.{SingleRunner}

abbrev pub system_of : {R : Type 0} → SingleRunner R → System
system_of r = r.sys

abbrev pub apps_of : {R : Type 0} → SingleRunner R → List (Application R)
apps_of r = r.apps.items

abbrev pub names_of : {R : Type 0} → SingleRunner R → List Name
names_of r = names_in (apps_of r)

-- a runner of this system over these applications, which hasn't begun
pub record IsNew {R : Type 0} (sys : System) (apps : List (Application R)) (r : SingleRunner R) : Type 0 where
  pub system : system_of r ≡ sys
  pub applications : apps_of r ≡ apps
  pub none : r.prompted.items ≡ []

-- it has begun: it knows the places of its pairs
abbrev pub IsReady : {R : Type 0} → SingleRunner R → Type 0
IsReady r = ArePairs (system_of r) (names_of r) r.pairs.items

-- what every call leaves of it: its system, and the names of its applications; no count of faults falls
pub record GoesOn {R : Type 0} (faults : R → ℕ) (old new : SingleRunner R) : Type 0 where
  pub system : system_of new ≡ system_of old
  pub applications : AllStay faults (apps_of old) (apps_of new)

-- its applications and the clock tell this state, and these leaders are to be drained
pub record HoldsPrompted {R : Type 0} (history : R → Option (List Recording)) (settled : R → Bool) (snapshots : R → Option (List Snapshot)) (capacity : R → ℕ) (base : Contents) (options : Options) (r : SingleRunner R) (readings : Option Readings) (s : State) (prompted : List Name) : Type 0 where
  pub holds : Holds history settled snapshots capacity base options (apps_of r) readings s
  pub prompts : ArePrompted (names_of r) r.prompted.items prompted
