use Rattle.std.proofs.Common.{◌≡◌, ◌+◌, ◌-◌, ◌++◌, take, drop}
use Rattle.es_model.specs.History.{log}
use Rattle.es_recorder.specs.Selections.{numbered_from}
use Rattle.es_memory.proofs.index.Index.notifications_at.Given as goal

abbrev pub invariant-loop-place : goal.invariant-loop-place
invariant-loop-place l = l.found ++ take (l.upto - l.place) (numbered_from (l.place + 1) (drop l.place (log l.history))) ≡ take (l.upto - l.from) (numbered_from (l.from + 1) (drop l.from (log l.history)))
