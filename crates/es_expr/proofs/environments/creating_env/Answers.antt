use Rattle.std.proofs.Common.{ℕ, IsTrue, List, [], refl, subst, sym, codes}
use Rattle.es_model.specs.Rising.{comes_last}
use Rattle.es_expr.proofs.EnvironmentsLemmas.{IsRising-extended, comes_last-extended, comes_last-pushed}
use Rattle.es_expr.proofs.environments.creating_env.Goals as goal

pub extend-requires : goal.extend-requires
extend-requires g c = IsRising-extended c.new-env.result [] c.args.args.now (codes "arg.") c.new-env.ensures tt c.requires (λ n. refl)

pub push-requires : goal.push-requires
push-requires g c =
    comes_last-extended c.extend.new.env c.new-env.result c.args.args.now (codes "arg.") (codes "at") c.in_ok-extend.ensures
    (subst (λ (e : List (List ℕ × g.row.T.Denot)). IsTrue (comes_last e (codes "at"))) (sym c.new-env.ensures) refl) (λ n. refl)

pub push-requires-2 : goal.push-requires-2
push-requires-2 g c = comes_last-pushed c.push.new.env c.extend.new.env (codes "at", c.args.at) (codes "id") c.in_ok-push.ensures refl
