use Rattle.std.proofs.Common.{◌≤◌}
use Rattle.es_sqlite.proofs.refusing.count_of.Given as goal

abbrev pub invariant-loop-event : goal.invariant-loop-event
invariant-loop-event l = l.count ≤ l.event-index
