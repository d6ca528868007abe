use Rattle.std.proofs.Common.{List, take, sym, subst}
use Rattle.std.specs.Option.{option_copied}
use Rattle.es_model.specs.declared.snapshot.Snapshot.{Snapshot}
use Rattle.es_recorder.specs.Selections.{snapshots_upto, IsNewest}
use Rattle.es_memory.proofs.SnapshotsLemmas.{take-place}
use Rattle.es_memory.proofs.snapshots.newest_of.Goals as goal

pub loop-snapshot-preserved : goal.loop-snapshot-preserved
loop-snapshot-preserved c =
    subst (λ (xs : List Snapshot). IsNewest (snapshots_upto xs c.args.id c.args.lte) (option_copied c.newest_with-newest.result))
    (sym (take-place c.args.snapshots.now c.loop-snapshot.snapshot-index c.snapshot-item.result c.loop-snapshot-test.true c.snapshot-item.is))
    (c.newest_with-newest.ensures (take c.loop-snapshot.snapshot-index c.args.snapshots.now) c.loop-snapshot.invariant)
