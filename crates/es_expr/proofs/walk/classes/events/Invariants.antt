use Rattle.std.proofs.Common.{◌≡◌, drop}
use Rattle.es_expr.specs.Misfits.{each, event_misfits}
use Rattle.es_expr.proofs.walk.classes.events.Given as goal

abbrev pub invariant-loop-place : goal.invariant-loop-place
invariant-loop-place l = each (event_misfits l.class l.path) 0 l.events ≡ each (event_misfits l.class l.path) l.place (drop l.place l.events)
