use Rattle.std.proofs.Common.{◌+◌, ◌*◌, max}
use Rattle.es_model.specs.declared.expr.Expr.{size-Expr}
use Rattle.es_expr.proofs.checking.+check.Given as goal

abbrev pub decreases-check : goal.decreases-check
decreases-check l = 3 * size-Expr l.expr.now

abbrev pub decreases-operand : goal.decreases-operand
decreases-operand l = 3 * size-Expr l.expr.now + 1

abbrev pub decreases-one : goal.decreases-one
decreases-one l = 3 * size-Expr l.a.now + 2

abbrev pub decreases-two : goal.decreases-two
decreases-two l = 3 * max (size-Expr l.a.now) (size-Expr l.b.now) + 2

abbrev pub decreases-choice : goal.decreases-choice
decreases-choice l = 3 * max (size-Expr l.a.now) (max (size-Expr l.b.now) (size-Expr l.c.now)) + 2
