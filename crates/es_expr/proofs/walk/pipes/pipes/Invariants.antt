use Rattle.std.proofs.Common.{◌≡◌, drop}
use Rattle.es_expr.specs.Misfits.{each, pipe_misfits}
use Rattle.es_expr.proofs.walk.pipes.pipes.Given as goal

abbrev pub invariant-loop-place : goal.invariant-loop-place
invariant-loop-place l = each (pipe_misfits l.sys l.path) 0 l.pipes ≡ each (pipe_misfits l.sys l.path) l.place (drop l.place l.pipes)
