use Rattle.std.proofs.Common.{length}
use Rattle.es_model.proofs.value.+do_values_fit.Given as goal

abbrev pub decreases-do_values_fit : goal.decreases-do_values_fit
decreases-do_values_fit l = length l.fields.now
