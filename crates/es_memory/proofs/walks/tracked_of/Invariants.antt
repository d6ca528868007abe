use Rattle.std.proofs.Common.{◌≡◌, max, drop}
use Rattle.es_model.specs.Tracking.{tracked_in}
use Rattle.es_memory.proofs.walks.tracked_of.Given as goal

abbrev pub invariant-loop-recording : goal.invariant-loop-recording
invariant-loop-recording l = max l.tracked (tracked_in (drop l.recording-index l.history) l.leader) ≡ tracked_in l.history l.leader
