use Rattle.std.proofs.Common.{◌≡◌, ◌++◌, drop}
use Rattle.es_recorder.specs.Selections.{events_between}
use Rattle.es_memory.proofs.selections.add_between.Given as goal

abbrev pub invariant-loop-event : goal.invariant-loop-event
invariant-loop-event l = l.found ++ events_between (drop l.event-index l.events) l.id l.gt l.lte ≡ l.initial.found ++ events_between l.events l.id l.gt l.lte
