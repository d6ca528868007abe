use Rattle.std.proofs.Common.{◌++◌, ◌∷◌, [], refl, ap, ◌∙◌, codes}
use Rattle.es_expr.proofs.EnvironmentsLemmas.{IsRising-extended, comes_last-extended, comes_last-pushed}
use Rattle.es_expr.proofs.environments.created_env.Goals as goal

pub extend-requires : goal.extend-requires
extend-requires g c =
    IsRising-extended c.push.new.env ((codes "at", c.args.at) ∷ []) c.args.event.now (codes "event.")
    (c.in_ok-push.ensures ∙ ap (λ e. e ++ (codes "at", c.args.at) ∷ []) c.new-env.ensures) (refl, tt) c.requires (λ n. refl)

pub push-requires-2 : goal.push-requires-2
push-requires-2 g c =
    comes_last-extended c.extend.new.env c.push.new.env c.args.event.now (codes "event.") (codes "id") c.in_ok-extend.ensures
    (comes_last-pushed c.push.new.env c.new-env.result (codes "at", c.args.at) (codes "id") c.in_ok-push.ensures refl) (λ n. refl)
