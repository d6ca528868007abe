use Rattle.es_repo.proofs.SnapshotLemmas.{kept-told, none-told}
use Rattle.es_repo.proofs.snapshots.is_kept.Goals as goal

pub returns-in-Ok-Some-clause-value : goal.returns-in-Ok-Some-clause-value
returns-in-Ok-Some-clause-value g c =
    kept-told c.args.snapshot.now (g.R.AggregateRecorder.snapshots c.args.recorder.now) c.in-Ok-Some.field-0 c.in-Ok-Some.found c.is_alike.result c.in-Ok-Some.field-0-is
    (g.met.R.AggregateRecorder.snapshots_once c.args.recorder.now) c.in-Ok-Some.ensures.value c.is_alike.ensures

pub returns-in-Ok-None-clause-value : goal.returns-in-Ok-None-clause-value
returns-in-Ok-None-clause-value g c =
    none-told c.args.snapshot.now (g.R.AggregateRecorder.snapshots c.args.recorder.now) c.in-Ok-None.field-0 c.in-Ok-None.field-0-is c.in-Ok-None.ensures.value
