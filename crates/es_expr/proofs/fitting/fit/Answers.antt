use Rattle.std.proofs.Common.{◌∙◌, sym, ap}
use Rattle.es_expr.proofs.FittingLemmas.{all_fit}
use Rattle.es_expr.specs.Sound.{fit}
use Rattle.es_expr.proofs.fitting.fit.Goals as goal

pub returns-clause-fits : goal.returns-clause-fits
returns-clause-fits c = λ h. all_fit c.args.env.now c.args.kinds.now (sym (c.do_fit.ensures ∙ ap (fit c.args.env.now) c.as_slice.ensures.value) ∙ cc h)
