use Rattle.std.proofs.Common.{length}
use Rattle.es_domain.proofs.rules.+latest.Given as goal

abbrev pub decreases-latest : goal.decreases-latest
decreases-latest l = length l.changed.now
