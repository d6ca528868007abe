use Rattle.std.proofs.Common.{◌∙◌, ap, subst}
use Rattle.std.specs.List.{list_any}
use Rattle.es_expr.specs.inner.Evaluates.{Evaluates}
use Rattle.es_expr.specs.Operators.{truth, is_equal_atom}
use Rattle.es_expr.proofs.operators.contained.Goals as goal

pub returns-in-List-One : goal.returns-in-List-One
returns-in-List-One c =
    rw c.in-List-One.is-0 (rw c.in-List-One.is-1 (
    subst (λ b. Evaluates (truth b) c.truth.result) (c.has.ensures ∙ ap (list_any (λ x. is_equal_atom x c.in-List-One.item)) c.as_slice.ensures) c.truth.ensures))
