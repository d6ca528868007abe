use Rattle.std.proofs.Common.{◌+◌, ◌*◌, max}
use Rattle.es_model.specs.declared.expr.Expr.{size-Expr}
use Rattle.es_expr.proofs.evaluation.+evaluation.Given as goal

abbrev pub decreases-value_of : goal.decreases-value_of
decreases-value_of l = 2 * size-Expr l.expr.now

abbrev pub decreases-one : goal.decreases-one
decreases-one l = 2 * size-Expr l.a.now + 1

abbrev pub decreases-two : goal.decreases-two
decreases-two l = 2 * max (size-Expr l.a.now) (size-Expr l.b.now) + 1

abbrev pub decreases-choice : goal.decreases-choice
decreases-choice l = 2 * max (size-Expr l.a.now) (max (size-Expr l.b.now) (size-Expr l.c.now)) + 1
