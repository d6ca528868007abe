use Rattle.std.proofs.Common.{◌≡◌, drop}
use Rattle.es_expr.specs.Misfits.{each, joined_misfits}
use Rattle.es_expr.proofs.walk.pipes.members.Given as goal

abbrev pub invariant-loop-place : goal.invariant-loop-place
invariant-loop-place l = each (joined_misfits l.sys l.pipe l.path) 0 l.pipe ≡ each (joined_misfits l.sys l.pipe l.path) l.place (drop l.place l.pipe)
