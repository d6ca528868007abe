use Rattle.std.proofs.Common.{◌∙◌, ap}
use Rattle.serde_json.specs.View.{view}
use Rattle.es_decl.specs.Expressions.{depth, nodes, deeper, more, children}
use Rattle.es_decl.specs.inner.Operands.{item_depths, item_nodes}
use Rattle.es_decl.proofs.ExpressionLemmas.{folded-none, no-child, no-children, no-three, leaf-spent, none-spent}
use Rattle.es_decl.proofs.expressions.+spending.Goals as goal

pub spend-returns-in-None : goal.spend-returns-in-None
spend-returns-in-None t c =
    let tree = c.args.tree.now in
    leaf-spent (depth (view tree)) (nodes (view tree)) c.args.levels c.args.budget
    (folded-none 1 deeper tree c.in-Object.members c.in-Object.is c.in-None.ensures) (folded-none 1 more tree c.in-Object.members c.in-Object.is c.in-None.ensures)
    c.if-levels-eq0.false c.if-budget-eq0.false

pub spend_operands-returns-in-None : goal.spend_operands-returns-in-None
spend_operands-returns-in-None t c =
    let vs = c.args.items.now in
    none-spent _ _ c.args.levels c.args.budget
    (ap (λ o. children o (item_depths vs)) c.in-One.is ∙ no-child 1 deeper c.in-One.field-0 vs c.in-None.ensures) (ap (λ o. children o (item_nodes vs)) c.in-One.is ∙ no-child 1 more c.in-One.field-0 vs c.in-None.ensures)

pub spend_operands-returns-in-None-pair : goal.spend_operands-returns-in-None-pair
spend_operands-returns-in-None-pair t c =
    let vs = c.args.items.now in
    none-spent _ _ c.args.levels c.args.budget
    (ap (λ o. children o (item_depths vs)) c.in-Two.is ∙ no-children 1 deeper c.in-Two.field-0 vs c.in-None-pair.ensures) (ap (λ o. children o (item_nodes vs)) c.in-Two.is ∙ no-children 1 more c.in-Two.field-0 vs c.in-None-pair.ensures)

pub spend_operands-returns-in-None-triple : goal.spend_operands-returns-in-None-triple
spend_operands-returns-in-None-triple t c =
    let vs = c.args.items.now in
    none-spent _ _ c.args.levels c.args.budget
    (ap (λ o. children o (item_depths vs)) c.in-Choice.is ∙ no-three 1 deeper vs c.in-None-triple.ensures) (ap (λ o. children o (item_nodes vs)) c.in-Choice.is ∙ no-three 1 more vs c.in-None-triple.ensures)
