use Rattle.std.proofs.Common.{length}
use Rattle.es_expr.proofs.environments.+extend.Given as goal

abbrev pub decreases-extend : goal.decreases-extend
decreases-extend g l = length l.items.now
