use Rattle.std.proofs.Common.{length}
use Rattle.es_domain.proofs.values.+push_after.Given as goal

abbrev pub decreases-push_after : goal.decreases-push_after
decreases-push_after l = length l.fields.now
