use Rattle.std.proofs.Common.{◌≡◌, drop}
use Rattle.es_expr.specs.Misfits.{each, rule_misfits}
use Rattle.es_expr.proofs.walk.apps.rules.Given as goal

abbrev pub invariant-loop-place : goal.invariant-loop-place
invariant-loop-place l = each (rule_misfits l.sys l.app l.path) 0 l.rules ≡ each (rule_misfits l.sys l.app l.path) l.place (drop l.place l.rules)
