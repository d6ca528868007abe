use Rattle.std.proofs.Common.{◌++◌, ◌∷◌, [], subst, sym, codes}
use Rattle.es_model.specs.Rising.{IsRising}
use Rattle.es_expr.specs.Environments.{prefixed}
use Rattle.es_expr.proofs.EnvironmentsLemmas.{IsRising-assign}
use Rattle.es_expr.proofs.environments.assign_env.Goals as goal

pub with_self-requires : goal.with_self-requires
with_self-requires g c =
    subst (λ e. IsRising (e ++ prefixed (codes "self.") c.args.fields.now ++ (codes "version", c.args.version) ∷ [])) (sym c.in_ok-env.ensures)
    (IsRising-assign c.args.event.now c.args.id c.args.at c.args.fields.now c.args.version c.requires.event_rises c.requires.fields_rise)
