use Rattle.std.proofs.Common.{◌≡◌, drop}
use Rattle.es_expr.specs.Misfits.{each, trigger_misfits}
use Rattle.es_expr.proofs.walk.classes.triggers.Given as goal

abbrev pub invariant-loop-place : goal.invariant-loop-place
invariant-loop-place l = each (trigger_misfits l.class l.command l.path) 0 l.triggers ≡ each (trigger_misfits l.class l.command l.path) l.place (drop l.place l.triggers)
