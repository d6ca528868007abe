use Rattle.std.proofs.Common.{◌++◌, IsTrue, [], subst, sym, codes}
use Rattle.es_model.specs.Rising.{comes_last}
use Rattle.es_expr.specs.Environments.{prefixed}
use Rattle.es_expr.proofs.EnvironmentsLemmas.{IsRising-front, comes_last-front}
use Rattle.es_expr.proofs.environments.with_self.Goals as goal

pub extend-requires : goal.extend-requires
extend-requires g c =
    IsRising-front (c.args.env ++ prefixed (codes "self.") c.args.fields.now) (codes "version", c.args.version) [] c.requires

pub push-requires : goal.push-requires
push-requires g c =
    subst (λ e. IsTrue (comes_last e (codes "version"))) (sym c.in_ok-extend.ensures)
    (comes_last-front (c.args.env ++ prefixed (codes "self.") c.args.fields.now) (codes "version", c.args.version) [] c.requires)
