use Rattle.std.proofs.Common.{◌≡◌, drop}
use Rattle.es_expr.specs.Misfits.{each, guard_misfits}
use Rattle.es_expr.proofs.walk.classes.guards.Given as goal

abbrev pub invariant-loop-place : goal.invariant-loop-place
invariant-loop-place l = each (guard_misfits l.env l.path) 0 l.guards ≡ each (guard_misfits l.env l.path) l.place (drop l.place l.guards)
