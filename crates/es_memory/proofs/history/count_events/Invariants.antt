use Rattle.std.proofs.Common.{◌≡◌, ◌<◌, ◌+◌, ◌^◌, length, drop}
use Rattle.es_model.specs.History.{log}
use Rattle.es_memory.proofs.history.count_events.Given as goal

abbrev pub invariant-loop-recording : goal.invariant-loop-recording
invariant-loop-recording l = record {
  counted : l.count + length (log (drop l.recording-index l.history)) ≡ length (log l.history);
  few : l.count < 2 ^ 62;
}
