use Rattle.std.proofs.Common.{◌≡◌, drop}
use Rattle.es_expr.specs.Misfits.{each, listed_misfits}
use Rattle.es_expr.proofs.walk.apps.listed.Given as goal

abbrev pub invariant-loop-place : goal.invariant-loop-place
invariant-loop-place l = each (listed_misfits l.sys l.app l.path) 0 l.names ≡ each (listed_misfits l.sys l.app l.path) l.place (drop l.place l.names)
