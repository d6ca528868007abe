-- How much of an expression is counted.
use Rattle.std.specs.Prelude.{◌≡◌, ◌+◌, min}
use Rattle.es_model.specs.declared.expr.Expr.{Expr}
use Rattle.es_model.specs.declared.limits.TheConstants.{MOST_LEVELS, MOST_NODES}
use Rattle.es_expr.specs.Limits.{depth, nodes, has_small_literals}
use Rattle.es_expr.specs.declared.limits.Weight.{Weight}

-- depth and nodes up to one more than the limit
pub record IsWeight (e : Expr) (w : Weight) : Type 0 where
  pub depth_is : w.depth ≡ min (depth e) (MOST_LEVELS + 1)
  pub nodes_is : w.nodes ≡ min (nodes e) (MOST_NODES + 1)
  pub literals_is : w.is_small ≡ has_small_literals e
