use Rattle.std.proofs.Common.{◌≡◌, drop}
use Rattle.es_expr.specs.Misfits.{each, command_misfits}
use Rattle.es_expr.proofs.walk.classes.commands.Given as goal

abbrev pub invariant-loop-place : goal.invariant-loop-place
invariant-loop-place l = each (command_misfits l.class l.path) 0 l.commands ≡ each (command_misfits l.class l.path) l.place (drop l.place l.commands)
