use Rattle.std.proofs.Common.{length}
use Rattle.es_run_cases.proofs.several.held.Given as goal

abbrev pub decreases-loop-app : goal.decreases-loop-app
decreases-loop-app l = length l.apps.items
