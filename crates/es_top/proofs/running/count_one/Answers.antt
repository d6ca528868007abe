use Rattle.es_process.specs.Applications.{recorder_of}
use Rattle.es_process.proofs.StableLemmas.{has-kept}
use Rattle.es_top.proofs.running.count_one.Goals as goal

pub returns-in-Err-Failed-clause-stable : goal.returns-in-Err-Failed-clause-stable
returns-in-Err-Failed-clause-stable g c = λ id. has-kept (g.R.AggregateRecorder.stable (recorder_of c.args.app.now)) (g.R.AggregateRecorder.stable (recorder_of c.recordings.new.self)) id c.recordings.result c.recordings.ensures.stable
