use Rattle.std.proofs.Common.{arith}
use Rattle.es_model.specs.History.{log}
use Rattle.es_model.proofs.HistoryLemmas.{latest-drop, latest-length}
use Rattle.es_memory.proofs.walks.latest_of.Goals as goal

pub overflow_add-count : goal.overflow_add-count
overflow_add-count c =
    omega (arith, latest-drop c.args.history.now c.loop-recording.recording-index c.recording-item.result c.args.id c.loop-recording-test.true c.recording-item.is, latest-length (log c.args.history.now) c.args.id)

pub returns-clause-few : goal.returns-clause-few
returns-clause-few c = omega (arith, latest-length (log c.args.history.now) c.args.id, c.loop-recording.invariant)
