use Rattle.std.proofs.Common.{length}
use Rattle.es_expr.proofs.walk.expressions.+some_members.Given as goal

abbrev pub decreases-some_members : goal.decreases-some_members
decreases-some_members l = length l.members.now
