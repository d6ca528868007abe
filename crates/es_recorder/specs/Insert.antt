-- What an insert answers, and what it leaves.
use Rattle.std.specs.Prelude.{◌≡◌, ◌⊎◌, ◌≤◌, ◌<◌, ◌^◌, ℕ, ◌+◌, ◌==◌, nat_lt, nat_le, Bool, true, List, [], ◌∷◌, ◌++◌, length, All, if◌then◌else◌, Option, Some, None, Result, Ok, Err, IsErrOf}
use Rattle.std.specs.Option.{option_or}
use Rattle.es_model.specs.declared.event.Recording.{Recording}
use Rattle.es_model.specs.declared.event.StoredEvent.{StoredEvent}
use Rattle.es_model.specs.declared.event.Cause.{Cause}
use Rattle.es_model.specs.declared.event.Cause.TheVariants.{Command, Notification}
use Rattle.es_model.specs.Causes.{Rose}
use Rattle.es_model.specs.History.{log, latest}
use Rattle.es_model.specs.Tracking.{tracked_in}
use Rattle.es_recorder.specs.declared.recorder.Inserted.{Inserted}
use Rattle.es_recorder.specs.declared.recorder.InsertFault.{InsertFault}
use Rattle.es_recorder.specs.declared.recorder.InsertFault.TheVariants.{Conflict, Tracking, Full, Failed, NoMemory}
use Rattle.es_recorder.specs.Stable.{GrowsTold}

-- the id of a notification is below 2^62
abbrev pub IdIsSmall : Cause → Type 0
IdIsSmall (Command text) = Unit {0}
IdIsSmall (Notification leader id) = id < 2 ^ 62

-- what may be handed to an insert
pub record IsInsertable (r : Recording) : Type 0 where
  pub cause : IdIsSmall r.cause
  pub versions : All (λ e. e.originator_version < 2 ^ 63) r.events

-- the first event that isn't the next version of its originator, after the events before
abbrev pub first_conflict : List StoredEvent → List StoredEvent → Option InsertFault
first_conflict before [] = None
first_conflict before (e ∷ es) =
    if e.originator_version == latest before e.originator_id + 1 then first_conflict (before ++ e ∷ []) es else
    Some (Conflict e.originator_id e.originator_version (latest before e.originator_id))

-- a notification that is tracked already
abbrev pub repeated : List Recording → Cause → Option InsertFault
repeated h (Command text) = None
repeated h (Notification leader id) = if nat_le id (tracked_in h leader) then Some (Tracking leader id (tracked_in h leader)) else None

-- events that don't fit any more
abbrev pub too_many : ℕ → ℕ → List StoredEvent → Option InsertFault
too_many capacity last [] = None
too_many capacity last (e ∷ es) = if nat_lt capacity (last + length (e ∷ es)) then Some (Full last capacity) else None

-- why a recording can't be added to a history, where it can't
abbrev pub refusal : ℕ → List Recording → Recording → Option InsertFault
refusal capacity h r = option_or (first_conflict (log h) r.events) (option_or (repeated h r.cause) (too_many capacity (length (log h)) r.events))

-- the numbers of an added recording
abbrev pub inserted : List Recording → Recording → Inserted
inserted h r = record { recording = length h + 1; first = length (log h) + 1; last = length (log h) + length r.events }

-- the recording is added, or nothing changes and this is why; after a failure either may be, but what would be refused is never added
abbrev pub Inserts : ℕ → List Recording → Recording → Option (List Recording) → Result Inserted InsertFault → Type 0
Inserts capacity h r new (Ok i) = (refusal capacity h r ≡ None) × (new ≡ Some (h ++ r ∷ [])) × (i ≡ inserted h r)
Inserts capacity h r new (Err Failed) = (new ≡ Some h) ⊎ ((refusal capacity h r ≡ None) × (new ≡ Some (h ++ r ∷ [])))
Inserts capacity h r new (Err NoMemory) = new ≡ Some h
Inserts capacity h r new (Err (Conflict id version newest)) = (new ≡ Some h) × (refusal capacity h r ≡ Some (Conflict id version newest))
Inserts capacity h r new (Err (Tracking leader id tracked)) = (new ≡ Some h) × (refusal capacity h r ≡ Some (Tracking leader id tracked))
Inserts capacity h r new (Err (Full last most)) = (new ≡ Some h) × (refusal capacity h r ≡ Some (Full last most))

-- the same where the history is told
abbrev pub InsertsTold : ℕ → Option (List Recording) → Recording → Option (List Recording) → Result Inserted InsertFault → Type 0
InsertsTold capacity None r new result = Unit {0}
InsertsTold capacity (Some h) r new result = Inserts capacity h r new result

-- after an Ok a stop leaves the whole history, after a failure no less than before, and else the same
abbrev pub StableAfter : Option (List Recording) → Option (List Recording) → Option (List Recording) → Result Inserted InsertFault → Type 0
StableAfter old new history (Ok i) = new ≡ history
StableAfter old new history (Err Failed) = GrowsTold old new
StableAfter old new history (Err NoMemory) = new ≡ old
StableAfter old new history (Err (Conflict id version newest)) = new ≡ old
StableAfter old new history (Err (Tracking leader id tracked)) = new ≡ old
StableAfter old new history (Err (Full last most)) = new ≡ old

-- after an Ok all is settled, after a failure it may not be, and else nothing changes
abbrev pub SettledAfter : Bool → Bool → Result Inserted InsertFault → Type 0
SettledAfter old new (Ok i) = new ≡ true
SettledAfter old new (Err Failed) = Unit {0}
SettledAfter old new (Err NoMemory) = new ≡ old
SettledAfter old new (Err (Conflict id version newest)) = new ≡ old
SettledAfter old new (Err (Tracking leader id tracked)) = new ≡ old
SettledAfter old new (Err (Full last most)) = new ≡ old

-- the numbers of an added recording, and the last id of a full history, are below 2^62, told or not
abbrev pub IsSmall : Result Inserted InsertFault → Type 0
IsSmall (Ok i) = (i.recording < 2 ^ 62) × (i.first ≤ i.last + 1) × (i.last < 2 ^ 62)
IsSmall (Err Failed) = Unit {0}
IsSmall (Err NoMemory) = Unit {0}
IsSmall (Err (Conflict id version newest)) = Unit {0}
IsSmall (Err (Tracking leader id tracked)) = Unit {0}
IsSmall (Err (Full last most)) = last < 2 ^ 62

-- what is told to be full has that capacity, and the events pass it, told or not
abbrev pub PassesCapacity : ℕ → Recording → Result Inserted InsertFault → Type 0
PassesCapacity capacity r (Ok i) = Unit {0}
PassesCapacity capacity r (Err Failed) = Unit {0}
PassesCapacity capacity r (Err NoMemory) = Unit {0}
PassesCapacity capacity r (Err (Conflict id version newest)) = Unit {0}
PassesCapacity capacity r (Err (Tracking leader id tracked)) = Unit {0}
PassesCapacity capacity r (Err (Full last most)) = (most ≡ capacity) × (0 < length r.events) × (capacity < last + length r.events)

-- only a recorder that tells its history answers a conflict or a repeated notification
abbrev pub RefusesTold : Option (List Recording) → Result Inserted InsertFault → Type 0
RefusesTold (Some h) result = Unit {0}
RefusesTold None (Ok i) = Unit {0}
RefusesTold None (Err Failed) = Unit {0}
RefusesTold None (Err NoMemory) = Unit {0}
RefusesTold None (Err (Conflict id version newest)) = ⊥
RefusesTold None (Err (Tracking leader id tracked)) = ⊥
RefusesTold None (Err (Full last most)) = Unit {0}

-- the count never falls, and a failure is answered only where it rose
pub record InsertHasCause (before now : ℕ) (result : Result Inserted InsertFault) : Type 0 where
  pub later : before ≤ now
  pub failed : IsErrOf result Failed → Rose before now
