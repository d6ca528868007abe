use Rattle.std.proofs.Common.{length}
use Rattle.es_domain.proofs.effect.+guarded.Given as goal

abbrev pub decreases-guarded : goal.decreases-guarded
decreases-guarded l = length l.guards.now
