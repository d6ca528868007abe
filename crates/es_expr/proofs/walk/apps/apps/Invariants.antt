use Rattle.std.proofs.Common.{◌≡◌, drop}
use Rattle.es_expr.specs.Misfits.{each, app_misfits}
use Rattle.es_expr.proofs.walk.apps.apps.Given as goal

abbrev pub invariant-loop-place : goal.invariant-loop-place
invariant-loop-place l = each (app_misfits l.sys l.path) 0 l.apps ≡ each (app_misfits l.sys l.path) l.place (drop l.place l.apps)
