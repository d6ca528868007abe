use Rattle.es_repo.proofs.ToldLemmas.{finds-told}
use Rattle.es_repo.proofs.reader.ReaderAggregates.find.Goals as goal

pub returns-clause-answer : goal.returns-clause-answer
returns-clause-answer g c =
    finds-told c.args.self.now.sys.now c.args.id (g.R.AggregateRecorder.history c.args.self.now.recorder.now) (g.R.AggregateRecorder.history c.read-answer.new.recorder) c.args.self.now.asked c.with_note.new.asked c.read-answer.result c.with_note.result
    (g.met.R.AggregateRecorder.formed c.args.self.now.recorder.now) c.read-answer.ensures.same.history c.read-answer.ensures.reading c.with_note.ensures.notes
