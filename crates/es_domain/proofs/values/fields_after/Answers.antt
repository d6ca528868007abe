use Rattle.std.proofs.Common.{[], IsTrue, refl, sym, subst}
use Rattle.es_model.specs.Values.{are_of_kinds}
use Rattle.es_domain.proofs.values.fields_after.Goals as goal

pub returns-clause-kinds : goal.returns-clause-kinds
returns-clause-kinds c = λ wanted are can.
    c.in_ok-push_after.ensures.kinds [] wanted (rw c.new-after.ensures refl) (subst (λ ys. IsTrue (are_of_kinds ys wanted)) (sym c.as_slice.ensures.value) are) can
