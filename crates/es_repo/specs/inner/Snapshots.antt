-- What a snapshot that was selected is compared by.
use Rattle.std.specs.Prelude.{◌==◌, Bool, ◌&&◌}
use Rattle.es_model.specs.declared.snapshot.Snapshot.{Snapshot}

-- two snapshots of one aggregate are of one version and of one class version
abbrev pub is_alike : Snapshot → Snapshot → Bool
is_alike x s = (x.originator_version == s.originator_version) && (x.class_version == s.class_version)
