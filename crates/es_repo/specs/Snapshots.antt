-- Snapshots of aggregates: what one holds, when one is due, and whether one is kept.
use Rattle.std.specs.Prelude.{ℕ, ◌%◌, ◌==◌, Bool, false, ◌&&◌, List, if◌then◌else◌, Option, None, Some}
use Rattle.std.specs.List.{list_any}
use Rattle.es_model.specs.Declaration.{class_named, event_named}
use Rattle.es_model.specs.Snapshots.{is_same}
use Rattle.es_model.specs.Values.{Name}
use Rattle.es_model.specs.declared.declaration.Class.{Class}
use Rattle.es_model.specs.declared.declaration.EventClass.{EventClass}
use Rattle.es_model.specs.declared.declaration.System.{System}
use Rattle.es_model.specs.declared.event.StoredEvent.{StoredEvent}
use Rattle.es_model.specs.declared.snapshot.Snapshot.{Snapshot}
use Rattle.es_transcode.specs.CanonicalText.{record_text}
use Rattle.es_domain.specs.Readings.{Reading, folded, unreadable}
use Rattle.es_domain.specs.declared.aggregate.Aggregate.{Aggregate}
use Rattle.es_repo.specs.Readings.{reading_at}

-- ---- what a snapshot holds

-- the version that a class declares, and 1 where there is no class
abbrev pub declared_version : Option Class → ℕ
declared_version None = 1
declared_version (Some c) = c.version

-- the version of a class, as it is declared
abbrev pub class_version : System → Name → ℕ
class_version sys name = declared_version (class_named sys.classes name)

-- the snapshot of an aggregate: its fields as their canonical text, with its class and the version of that
abbrev pub snapshot_of : System → Aggregate → Snapshot
snapshot_of sys a = record {
  originator_id = a.id;
  originator_version = a.version;
  topic = a.class;
  class_version = class_version sys a.class;
  created_on = a.created_on;
  modified_on = a.modified_on;
  state = record_text a.fields;
}

-- ---- when one is due

-- a version is a multiple of the interval, where there is one
abbrev pub is_multiple : Option ℕ → ℕ → Bool
is_multiple None version = false
is_multiple (Some n) version = version % n == 0

-- the interval that a class declares, where it declares one
abbrev pub declared_interval : Option (Class × EventClass) → Option ℕ
declared_interval None = None
declared_interval (Some p) = p.0.interval

-- the interval of the class that declares an event's topic
abbrev pub interval_of : System → StoredEvent → Option ℕ
interval_of sys e = declared_interval (event_named sys.classes e.topic)

-- the snapshot of what is read, where it is an aggregate
abbrev pub snapshot_read : System → Reading → Option Snapshot
snapshot_read sys (folded None) = None
snapshot_read sys (folded (Some a)) = Some (snapshot_of sys a)
snapshot_read sys (unreadable id) = None

-- the snapshot to be taken after an event was saved, over the log with the event in it: that of its aggregate at its version, where this is a multiple of the interval
abbrev pub due_after : System → List StoredEvent → StoredEvent → Option Snapshot
due_after sys log e =
    if is_multiple (interval_of sys e) e.originator_version then snapshot_read sys (reading_at sys log e.originator_id (Some e.originator_version)) else
    None

-- ---- whether one is kept

-- a snapshot of the same aggregate, version and class version is among these
abbrev pub is_there : List Snapshot → Snapshot → Bool
is_there ss s = list_any (λ x. is_same x s && (x.class_version == s.class_version)) ss
