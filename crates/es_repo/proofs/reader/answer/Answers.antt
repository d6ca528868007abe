use Rattle.es_repo.proofs.FoldingLemmas.{whole-told, stuck-told}
use Rattle.es_repo.proofs.reader.answer.Goals as goal

pub returns-in-Whole-clause-reading : goal.returns-in-Whole-clause-reading
returns-in-Whole-clause-reading g c = λ sys upto.
    whole-told sys (g.R.AggregateRecorder.history c.args.recorder.now) c.args.id upto c.args.folded c.in-Whole.found c.of_id.result c.in-Whole.is c.of_id.ensures.same

pub returns-in-Stuck-clause-reading : goal.returns-in-Stuck-clause-reading
returns-in-Stuck-clause-reading g c = λ sys upto.
    stuck-told sys (g.R.AggregateRecorder.history c.args.recorder.now) c.args.id upto c.args.folded c.in-Stuck.version c.stuck_at.result (g.met.R.AggregateRecorder.formed c.args.recorder.now) c.in-Stuck.is c.stuck_at.ensures.reading
