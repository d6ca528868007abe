-- What putting a snapshot leaves.
use Rattle.std.specs.Prelude.{◌≡◌, ◌⊎◌, List, Option, Some, None, Result, Ok, Err}
use Rattle.es_model.specs.declared.memory.CallFault.{CallFault}
use Rattle.es_model.specs.declared.memory.CallFault.TheVariants.{Failed, NoMemory}
use Rattle.es_model.specs.declared.snapshot.Snapshot.{Snapshot}
use Rattle.es_model.specs.Snapshots.{put_snapshot}

-- the snapshot is put, or nothing changes; after a failure either may be
abbrev pub Puts : List Snapshot → Snapshot → Option (List Snapshot) → Result (Unit {0}) CallFault → Type 0
Puts ss s new (Ok done) = new ≡ Some (put_snapshot ss s)
Puts ss s new (Err Failed) = (new ≡ Some ss) ⊎ (new ≡ Some (put_snapshot ss s))
Puts ss s new (Err NoMemory) = new ≡ Some ss

-- the same where the snapshots are told
abbrev pub PutsTold : Option (List Snapshot) → Snapshot → Option (List Snapshot) → Result (Unit {0}) CallFault → Type 0
PutsTold None s new result = Unit {0}
PutsTold (Some ss) s new result = Puts ss s new result
