use Rattle.std.proofs.Common.{◌++◌, ◌∷◌, [], subst, sym, codes}
use Rattle.es_model.specs.Rising.{IsRising}
use Rattle.es_expr.specs.Environments.{prefixed}
use Rattle.es_expr.proofs.EnvironmentsLemmas.{IsRising-command}
use Rattle.es_expr.proofs.environments.command_env.Goals as goal

pub with_self-requires : goal.with_self-requires
with_self-requires g c =
    subst (λ e. IsRising (e ++ prefixed (codes "self.") c.args.fields.now ++ (codes "version", c.args.version) ∷ [])) (sym c.in_ok-env.ensures)
    (IsRising-command c.args.args.now c.args.id c.args.at c.args.fields.now c.args.version c.requires.args_rise c.requires.fields_rise)
