use Rattle.std.proofs.Common.{◌∷◌, refl, codes}
use Rattle.es_expr.specs.Environments.{prefixed}
use Rattle.es_expr.proofs.EnvironmentsLemmas.{comes_last-pushed}
use Rattle.es_expr.proofs.environments.rule_env.Goals as goal

pub push-requires : goal.push-requires
push-requires g c =
    comes_last-pushed c.in_ok-env.env ((codes "at", c.args.at) ∷ prefixed (codes "event.") c.args.event.now) (codes "id", c.args.id) (codes "leader")
    c.in_ok-env.ensures refl

pub push-requires-2 : goal.push-requires-2
push-requires-2 g c =
    comes_last-pushed c.push.new.env c.in_ok-env.env (codes "leader", c.args.leader) (codes "position") c.in_ok-push.ensures refl

pub push-requires-3 : goal.push-requires-3
push-requires-3 g c =
    comes_last-pushed c.push-2.new.env c.push.new.env (codes "position", c.args.position) (codes "version") c.in_ok-push-2.ensures refl
