use Rattle.std.proofs.Common.{◌≡◌, ◌∙◌, sym, subst}
use Rattle.std.specs.Bool.{Decides}
use Rattle.es_model.specs.declared.value.Value.TheVariants.{List as Many}
use Rattle.es_expr.proofs.EqualityLemmas.{is_equal-Decides}
use Rattle.es_expr.specs.Operators.{are_equal}
use Rattle.es_expr.proofs.operators.is_equal.Goals as goal

pub returns-in-List-List-clause-equality : goal.returns-in-List-List-clause-equality
returns-in-List-List-clause-equality c =
    let told : c.are_equal.result ≡ are_equal c.in-List-List.xs c.in-List-List.ys =
    c.are_equal.ensures ∙ (λ i. are_equal (c.as_slice.ensures i) (c.as_slice-in-List-List.ensures i)) in
    rw c.in-List-List.is-0 (rw c.in-List-List.is-1 (
    subst (λ r. Decides r (Many c.in-List-List.xs ≡ Many c.in-List-List.ys)) (sym told) (is_equal-Decides (Many c.in-List-List.xs) (Many c.in-List-List.ys))))
