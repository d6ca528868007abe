use Rattle.std.proofs.Common.{◌≡◌, ◌+◌, drop}
use Rattle.es_model.specs.History.{log, latest}
use Rattle.es_memory.proofs.walks.latest_of.Given as goal

abbrev pub invariant-loop-recording : goal.invariant-loop-recording
invariant-loop-recording l = l.count + latest (log (drop l.recording-index l.history)) l.id ≡ latest (log l.history) l.id
