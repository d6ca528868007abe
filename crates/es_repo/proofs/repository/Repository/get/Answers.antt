use Rattle.es_repo.proofs.GetsLemmas.{gets-told, found-told, got-cause}
use Rattle.es_repo.proofs.repository.Repository.get.Goals as goal

pub returns-clause-fold : goal.returns-clause-fold
returns-clause-fold g c =
    gets-told c.args.sys.now (g.R.AggregateRecorder.history c.args.recorder.now) c.args.id c.args.version c.read-found.result c.answer_of.result c.answer_of.ensures c.read-found.ensures.reading

pub returns-clause-found : goal.returns-clause-found
returns-clause-found g c = found-told c.args.sys.now c.args.id c.read-found.result c.answer_of.result c.answer_of.ensures c.read-found.ensures.found

pub returns-clause-cause : goal.returns-clause-cause
returns-clause-cause g c =
    got-cause (g.R.AggregateRecorder.faults c.args.recorder.now) (g.R.AggregateRecorder.faults c.read-found.new.recorder) c.read-found.result c.answer_of.result c.answer_of.ensures c.read-found.ensures.cause
