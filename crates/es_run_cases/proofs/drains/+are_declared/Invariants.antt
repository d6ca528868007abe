use Rattle.std.proofs.Common.{length}
use Rattle.es_run_cases.proofs.drains.+are_declared.Given as goal

abbrev pub decreases-are_declared : goal.decreases-are_declared
decreases-are_declared l = length l.names.now
