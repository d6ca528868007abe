use Rattle.std.proofs.Common.{length}
use Rattle.es_domain.proofs.rules.+run_rules.Given as goal

abbrev pub decreases-run_rules : goal.decreases-run_rules
decreases-run_rules g l = length l.rules.now
