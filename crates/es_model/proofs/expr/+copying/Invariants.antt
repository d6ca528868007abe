use Rattle.std.proofs.Common.{◌+◌, ◌*◌, max}
use Rattle.es_model.specs.declared.expr.Expr.{size-Expr}
use Rattle.es_model.proofs.expr.+copying.Given as goal

abbrev pub decreases-ExprDuplicate::copy : goal.decreases-ExprDuplicate::copy
decreases-ExprDuplicate::copy l = 3 * size-Expr l.self.now

abbrev pub decreases-copied : goal.decreases-copied
decreases-copied l = 3 * size-Expr l.operand.now + 1

abbrev pub decreases-one : goal.decreases-one
decreases-one l = 3 * size-Expr l.a.now + 2

abbrev pub decreases-two : goal.decreases-two
decreases-two l = 3 * max (size-Expr l.a.now) (size-Expr l.b.now) + 2

abbrev pub decreases-choice : goal.decreases-choice
decreases-choice l = 3 * max (size-Expr l.a.now) (max (size-Expr l.b.now) (size-Expr l.c.now)) + 2
