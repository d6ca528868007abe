use Rattle.std.proofs.Common.{◌≡◌, ◌++◌, take, drop}
use Rattle.es_model.specs.History.{log}
use Rattle.es_recorder.specs.Insert.{first_conflict}
use Rattle.es_memory.proofs.history.conflict_of.Given as goal

abbrev pub invariant-loop-i : goal.invariant-loop-i
invariant-loop-i l = first_conflict (log l.history ++ take l.i l.events) (drop l.i l.events) ≡ first_conflict (log l.history) l.events
