use Rattle.std.proofs.Common.{◌≡◌, ◌++◌, drop}
use Rattle.es_model.specs.History.{log}
use Rattle.es_recorder.specs.Selections.{events_between}
use Rattle.es_memory.proofs.selections.events_of.Given as goal

abbrev pub invariant-loop-recording : goal.invariant-loop-recording
invariant-loop-recording l = l.found ++ events_between (log (drop l.recording-index l.history)) l.id l.gt l.lte ≡ events_between (log l.history) l.id l.gt l.lte
