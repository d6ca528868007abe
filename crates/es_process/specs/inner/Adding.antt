-- What adding a recording leaves of a history, and what a policy decides.
use Rattle.std.specs.Prelude.{◌≡◌, ◌⊎◌, ℕ, List, [], ◌∷◌, ◌++◌, length, Option, Some, None, Result, Ok, Err, is_some, true}
use Rattle.es_model.specs.declared.event.StoredEvent.{StoredEvent}
use Rattle.es_model.specs.declared.event.Recording.{Recording}
use Rattle.es_model.specs.declared.snapshot.Snapshot.{Snapshot}
use Rattle.es_model.specs.History.{log}
use Rattle.es_model.specs.Snapshots.{put_snapshot}
use Rattle.es_model.specs.Values.{Name}
use Rattle.es_io.specs.Readings.{Readings}
use Rattle.es_recorder.specs.Insert.{first_conflict, repeated, too_many, inserted}
use Rattle.es_recorder.specs.declared.recorder.Inserted.{Inserted}
use Rattle.es_process.specs.declared.faults.RunFault.{RunFault}
use Rattle.es_process.specs.declared.faults.RunFault.TheVariants as fault
use Rattle.es_process.specs.Answer.{Followed, stops, put_each}
use Rattle.es_process.specs.Decision.{Decision, events, refused, unreadable}
use Rattle.es_process.specs.Faults.{ByFault}
use Rattle.es_process.specs.Leaves.{Tells, PutsFirst, IsAdded, Took, MayTake}

-- nothing but want of room refuses a recording
pub record Fits (h : List Recording) (r : Recording) : Type 0 where
  pub next_versions : first_conflict (log h) r.events ≡ None
  pub untracked : repeated h r.cause ≡ None

-- a recording that fits is added, or its events are too many; a failed recorder may have added it where they aren't
abbrev pub Adds : ℕ → Name → List Recording → Recording → Result Inserted RunFault → Option (List Recording) → Type 0
Adds capacity app h r (Ok i) new = (too_many capacity (length (log h)) r.events ≡ None) × (new ≡ Some (h ++ r ∷ [])) × (i ≡ inserted h r)
Adds capacity app h r (Err (fault.Full name last most)) new =
    (is_some (too_many capacity (length (log h)) r.events) ≡ true) × (name ≡ app) × (last ≡ length (log h)) × (most ≡ capacity) × (new ≡ Some h)
Adds capacity app h r (Err fault.Recorder) new = (new ≡ Some h) ⊎ ((too_many capacity (length (log h)) r.events ≡ None) × (new ≡ Some (h ++ r ∷ [])))
Adds capacity app h r (Err fault.NoMemory) new = new ≡ Some h
Adds capacity app h r (Err (fault.Refused name leader id recordings code rule)) new = ⊥
Adds capacity app h r (Err (fault.Turns name turns)) new = ⊥
Adds capacity app h r (Err (fault.Unreadable name id)) new = ⊥

-- the events that a decision of an application gives on a notification, or the fault by which it refuses
abbrev pub Decides : Name → List Recording → Name → ℕ → Decision → Result (List StoredEvent) RunFault → Type 0
Decides app h leader id d (Ok es) = d ≡ events es
Decides app h leader id d (Err (fault.Refused name from n recordings code rule)) = (d ≡ refused code rule) × (name ≡ app) × (from ≡ leader) × (n ≡ id) × (recordings ≡ length h)
Decides app h leader id d (Err (fault.Unreadable name n)) = d ≡ unreadable name n
Decides app h leader id d (Err fault.Recorder) = Unit {0}
Decides app h leader id d (Err fault.NoMemory) = Unit {0}
Decides app h leader id d (Err (fault.Full name last most)) = ⊥
Decides app h leader id d (Err (fault.Turns name turns)) = ⊥

-- these are all causes for which a policy gives no events
abbrev pub MayRefuse : RunFault → Type 0
MayRefuse (fault.Refused name leader id recordings code rule) = Unit {0}
MayRefuse (fault.Unreadable name id) = Unit {0}
MayRefuse fault.Recorder = Unit {0}
MayRefuse fault.NoMemory = Unit {0}
MayRefuse (fault.Full name last most) = ⊥
MayRefuse (fault.Turns name turns) = ⊥

-- a snapshot is put, or not where memory ran out; of a failed recorder either may be
abbrev pub PutsOne : Snapshot → List Snapshot → Result (Unit {0}) RunFault → Option (List Snapshot) → Type 0
PutsOne s q (Ok x) now = now ≡ Some (put_snapshot q s)
PutsOne s q (Err f) now = (now ≡ Some q) ⊎ (now ≡ Some (put_snapshot q s))

-- some snapshots are put, or the first of them where the recorder failed or memory ran out
abbrev pub PutsDue : List Snapshot → List Recording → List Snapshot → Result (Unit {0}) RunFault → Option (List Recording) → Option (List Snapshot) → Type 0
PutsDue ss h q (Ok x) new now = Tells h (put_each q ss) new now
PutsDue ss h q (Err f) new now = PutsFirst ss h q new now

-- what the next notification leaves
abbrev pub Takes : Followed → List Recording → List Snapshot → ℕ → Readings → Result Inserted RunFault → Option (List Recording) → Option (List Snapshot) → ℕ → Option Readings → Type 0
Takes f h q used r (Ok i) new now count later = Took f h q used r i.first i.last new now count later
Takes f h q used r (Err e) new now count later = ByFault e (λ x. (f ≡ stops x) × Tells h q new now) (MayTake f h q new now) (MayTake f h q new now)

-- what the recording of the next notification at a moment leaves
abbrev pub Records : Followed → List Recording → List Snapshot → Result Inserted RunFault → Option (List Recording) → Option (List Snapshot) → Type 0
Records f h q (Ok i) new now = IsAdded f h q i.first i.last new now
Records f h q (Err e) new now = ByFault e (λ x. (f ≡ stops x) × Tells h q new now) (MayTake f h q new now) (MayTake f h q new now)
