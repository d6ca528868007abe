use Rattle.std.proofs.Common.{length}
use Rattle.es_domain.proofs.effect.+fire_all.Given as goal

abbrev pub decreases-fire_all : goal.decreases-fire_all
decreases-fire_all l = length l.triggers.now
