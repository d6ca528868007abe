use Rattle.std.proofs.Common.{◌≡◌, ◌∙◌, refl, sym, subst}
use Rattle.es_model.specs.Declaration.{class_named}
use Rattle.es_expr.specs.Environments.{assign_env}
use Rattle.es_domain.specs.inner.Evaluation.{CanBeAssigned}
use Rattle.es_domain.specs.Fold.{before_env}
use Rattle.es_domain.proofs.FoldLemmas.{assignable, kinds_then}
use Rattle.es_domain.proofs.fold.fields_then.Goals as goal

pub fields_after-requires : goal.fields_after-requires
fields_after-requires c =
    let env : c.in_ok-env.env ≡ before_env c.args.aggregate.now c.args.fields.now c.args.at =
    c.in_ok-env.ensures ∙ (λ i. assign_env c.args.fields.now (c.id_value-id.ensures i) (c.moment_value.ensures i) c.args.aggregate.now.fields (c.version_value-version.ensures i)) in
    subst (λ env. CanBeAssigned c.args.aggregate.now.fields c.args.event_class.now.assigns env) (sym env)
    (assignable c.args.sys.now c.args.aggregate.now c.args.event_class.now c.args.fields.now c.args.at (class_named c.args.sys.now.classes c.args.aggregate.now.class) refl
    c.requires.checked c.requires.itself c.requires.later c.requires.fields c.rises.ensures)

pub returns-clause-kinds : goal.returns-clause-kinds
returns-clause-kinds c =
    let env : c.in_ok-env.env ≡ before_env c.args.aggregate.now c.args.fields.now c.args.at =
    c.in_ok-env.ensures ∙ (λ i. assign_env c.args.fields.now (c.id_value-id.ensures i) (c.moment_value.ensures i) c.args.aggregate.now.fields (c.version_value-version.ensures i)) in
    kinds_then c.args.sys.now c.args.aggregate.now c.args.event_class.now c.args.fields.now c.args.at (class_named c.args.sys.now.classes c.args.aggregate.now.class) c.fields_after.result refl
    c.requires.checked c.requires.itself c.requires.later c.requires.fields c.rises.ensures
    (rw env at c.fields_after.ensures.kinds)
