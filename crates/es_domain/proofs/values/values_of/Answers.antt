use Rattle.std.proofs.Common.{[], refl, sym, subst}
use Rattle.es_domain.specs.inner.Evaluation.{AreChecked}
use Rattle.es_domain.proofs.values.values_of.Goals as goal

pub returns-clause-kinds : goal.returns-clause-kinds
returns-clause-kinds c = λ wanted checked.
    c.in_ok-push_values.ensures.kinds [] wanted (rw c.new-values.ensures refl) (subst (λ ys. AreChecked wanted ys c.args.env.now) (sym c.as_slice.ensures.value) checked)
