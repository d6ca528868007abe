use Rattle.es_repo.proofs.DueLemmas.{due-told}
use Rattle.es_repo.proofs.snapshots.snapshot_due.Goals as goal

pub returns-clause-due : goal.returns-clause-due
returns-clause-due g c =
    due-told c.args.sys.now c.args.event.now (g.R.AggregateRecorder.history c.args.recorder.now) c.interval_of.result c.is_multiple.result c.read-found.result c.snapshot_read.result
    c.interval_of.ensures.interval c.is_multiple.ensures c.if-not-is_multiple.false c.read-found.ensures.reading c.snapshot_read.ensures.snapshot
