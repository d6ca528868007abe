use Rattle.std.proofs.Common.{◌≡◌, ◌≤◌, ◌+◌, ◌++◌, length, take, drop}
use Rattle.es_model.specs.History.{log}
use Rattle.es_recorder.specs.Selections.{ids_from, numbered_from, select_notifications}
use Rattle.es_memory.proofs.selections.notifications_of.Given as goal

abbrev pub invariant-loop-recording : goal.invariant-loop-recording
invariant-loop-recording l = record {
  few : length l.found ≤ l.limit;
  counted : l.before + length (log (drop l.recording-index l.history)) ≡ length (log l.history);
  found : take l.limit (l.found ++ ids_from l.start (numbered_from (l.before + 1) (log (drop l.recording-index l.history)))) ≡ select_notifications (log l.history) l.start l.limit;
}
