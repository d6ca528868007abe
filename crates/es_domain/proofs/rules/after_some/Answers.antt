use Rattle.std.proofs.Common.{subst}
use Rattle.es_domain.specs.inner.Overlay.{IsEffectBelow}
use Rattle.es_domain.proofs.rules.after_some.Goals as goal

pub returns-in-Some-clause-below : goal.returns-in-Some-clause-below
returns-in-Some-clause-below c = λ sys limit are below. c.after_effect.ensures.below sys limit are (subst (IsEffectBelow sys limit) c.in-Some.is below)

pub returns-in-Some-clause-new : goal.returns-in-Some-clause-new
returns-in-Some-clause-new c = λ sys limit below. c.after_effect.ensures.new sys limit (subst (IsEffectBelow sys limit) c.in-Some.is below)
