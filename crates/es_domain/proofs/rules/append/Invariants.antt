use Rattle.std.proofs.Common.{◌≡◌, ◌++◌}
use Rattle.es_domain.proofs.rules.append.Given as goal

abbrev pub invariant-loop-event : goal.invariant-loop-event
invariant-loop-event l = l.events ≡ l.initial.events ++ l.yielded
