use Rattle.std.proofs.Common.{◌≡◌, ◌≤◌, ◌+◌, ◌++◌, length, take, drop}
use Rattle.es_recorder.specs.Selections.{ids_from, numbered_from}
use Rattle.es_memory.proofs.selections.add_notifications.Given as goal

abbrev pub invariant-loop-i : goal.invariant-loop-i
invariant-loop-i l = record {
  few : length l.found ≤ l.limit;
  added : take l.limit (l.found ++ ids_from l.start (numbered_from (l.before + l.i + 1) (drop l.i l.events))) ≡ take l.limit (l.initial.found ++ ids_from l.start (numbered_from (l.before + 1) l.events));
}
