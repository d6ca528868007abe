use Rattle.std.proofs.Common.{◌≡◌, ◌+◌, length, drop}
use Rattle.std.specs.List.{position_from}
use Rattle.es_model.specs.History.{log}
use Rattle.es_recorder.specs.Selections.{is_version, notification_of}
use Rattle.es_memory.proofs.selections.place_of_version.Given as goal

abbrev pub invariant-loop-recording : goal.invariant-loop-recording
invariant-loop-recording l = record {
  counted : l.before + length (log (drop l.recording-index l.history)) ≡ length (log l.history);
  place : position_from (is_version l.id l.version) (l.before + 1) (log (drop l.recording-index l.history)) ≡ notification_of (log l.history) l.id l.version;
}
