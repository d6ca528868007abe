use Rattle.std.proofs.Common.{IsTrue, sym, subst}
use Rattle.es_model.specs.Values.{are_of_kinds}
use Rattle.es_domain.specs.inner.Evaluation.{AreChecked}
use Rattle.es_domain.specs.Steps.{IsOfEvent, created_in}
use Rattle.es_domain.proofs.FiringLemmas.{opened_ready}
use Rattle.es_domain.proofs.effect.open.Goals as goal

pub values_of-requires : goal.values_of-requires
values_of-requires c =
    (c.args.class.now.created.fields, subst (λ env. AreChecked c.args.class.now.created.fields c.args.trigger.now.fields env) (sym c.in_ok-env.ensures) (c.requires.fields c.rises.ensures c.rises-2.ensures))

pub create-requires-clause-fields : goal.create-requires-clause-fields
create-requires-clause-fields c =
    let are : IsTrue (are_of_kinds c.in_ok-fields.fields c.args.class.now.created.fields) =
    c.in_ok-fields.ensures.kinds c.args.class.now.created.fields
    (subst (λ env. AreChecked c.args.class.now.created.fields c.args.trigger.now.fields env) (sym c.in_ok-env.ensures) (c.requires.fields c.rises.ensures c.rises-2.ensures)) in
    subst (λ o. IsOfEvent (created_in o) c.in_ok-fields.fields) (sym c.requires.class) are

pub returns-clause-ready : goal.returns-clause-ready
returns-clause-ready c =
    let are : IsTrue (are_of_kinds c.in_ok-fields.fields c.args.class.now.created.fields) =
    c.in_ok-fields.ensures.kinds c.args.class.now.created.fields
    (subst (λ env. AreChecked c.args.class.now.created.fields c.args.trigger.now.fields env) (sym c.in_ok-env.ensures) (c.requires.fields c.rises.ensures c.rises-2.ensures)) in
    opened_ready c.args.sys.now c.args.command.now.class c.args.class.now c.args.command.now.id c.in_ok-fields.fields c.args.at c.create.result
    c.requires.checked c.requires.class are c.create.ensures.outcome c.create.ensures.fields
