use Rattle.std.proofs.Common.{length}
use Rattle.es_run_cases.proofs.worlds.+are_named.Given as goal

abbrev pub decreases-are_named : goal.decreases-are_named
decreases-are_named l = length l.declared.now
