-- What a clock may have held before a reading.
use Rattle.std.proofs.Common.{◌≡◌, ℤ, ◌∷◌, List, ◌⊎◌, inr, Option, Some, None, refl, ap}
use Rattle.es_model.specs.declared.event.Recording.{Recording}
use Rattle.es_model.specs.declared.snapshot.Snapshot.{Snapshot}
use Rattle.es_process.specs.declared.faults.RunFault.{RunFault}
use Rattle.es_process.specs.declared.faults.RunFault.TheVariants as fault
use Rattle.es_process.specs.Answer.{Followed, stops}
use Rattle.es_process.specs.Faults.{ByFault}
use Rattle.es_process.specs.Leaves.{Tells, MayTake}
use Rattle.es_io.specs.Readings.{Readings, later_readings, Reads, GoesOn}
use Rattle.es_io.specs.Remains.{MayHold}

pub reading_taken : (u v : Option Readings) (m : ℤ) → Reads u m → GoesOn u v → (r : Readings) → MayHold v r → (s : Readings) × MayHold u s × (Reads (Some s) m × GoesOn (Some s) (Some r))
reading_taken None v m reads goes r may = (record { next = m ∷ r.next; after = r.after }, tt, (refl, refl))
reading_taken (Some s) v m reads goes r may = (s, refl, (reads, let e : r ≡ later_readings s = rw goes at may in ap (λ (t : Readings). Some t) e))

-- what a fault of the next notification leaves, which is the next one
pub faulted : (P : Type 0) (f : Followed) (h : List Recording) (q : List Snapshot) (new : Option (List Recording)) (now : Option (List Snapshot)) (e : RunFault) → P
    → ByFault e (λ x. (f ≡ stops x) × Tells h q new now) (MayTake f h q new now) (MayTake f h q new now)
    → ByFault e (λ x. P × (f ≡ stops x) × Tells h q new now) (Tells h q new now ⊎ (P × MayTake f h q new now)) (Tells h q new now ⊎ (P × MayTake f h q new now))
faulted P f h q new now (fault.Refused app leader id recordings code rule) p so = (p, so.0, so.1)
faulted P f h q new now (fault.Turns app turns) p so = (p, so.0, so.1)
faulted P f h q new now (fault.Unreadable app id) p so = (p, so.0, so.1)
faulted P f h q new now (fault.Full app last capacity) p so = (p, so.0, so.1)
faulted P f h q new now fault.Recorder p so = inr (p, so)
faulted P f h q new now fault.NoMemory p so = inr (p, so)
