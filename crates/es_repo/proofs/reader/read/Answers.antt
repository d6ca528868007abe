use Rattle.es_repo.proofs.FoldingLemmas.{selected-told}
use Rattle.std.proofs.Common.{rules}
use Rattle.es_repo.proofs.reader.read.Goals as goal

pub returns-in-Ok-fold_events-clause-reading : goal.returns-in-Ok-fold_events-clause-reading
returns-in-Ok-fold_events-clause-reading g c =
    selected-told c.args.sys.now (g.R.AggregateRecorder.history c.args.recorder.now) (g.R.AggregateRecorder.history c.select_events.new.self) c.args.id c.args.version c.in-Ok.events c.in-Ok-fold_events.folded _
    c.in-Ok.ensures.same.history c.in-Ok.ensures.value (search rules) (c.answer.ensures.reading c.args.sys.now c.args.version)
