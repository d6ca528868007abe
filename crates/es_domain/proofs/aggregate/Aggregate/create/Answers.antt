use Rattle.std.proofs.Common.{◌≡◌, Some, rules}
use Rattle.es_model.specs.Declaration.{class_named}
use Rattle.es_domain.proofs.FoldLemmas.{create_fits, create_ok, create_err, created_class, of_class}
use Rattle.es_domain.proofs.aggregate.Aggregate.create.Goals as goal

pub created-requires : goal.created-requires
created-requires c =
    let is : class_named c.args.sys.now.classes c.args.class.now ≡ Some c.in-Some.class.now = search rules in
    create_fits c.args.sys.now c.args.class.now c.in-Some.class.now c.args.id c.args.fields.now c.args.at c.in_ok-copy.field-0 c.in_ok-copy-2.field-0
    c.requires.checked is c.in_ok-copy.ensures c.in_ok-copy-2.ensures c.requires.fields c.rises.ensures c.rises-2.ensures

pub returns-in_err-aggregate-clause-outcome : goal.returns-in_err-aggregate-clause-outcome
returns-in_err-aggregate-clause-outcome c =
    let is : class_named c.args.sys.now.classes c.args.class.now ≡ Some c.in-Some.class.now = search rules in
    let h = create_err c.args.sys.now c.args.class.now c.in-Some.class.now c.args.id c.args.fields.now c.args.at c.in_ok-copy.field-0 c.in_ok-copy-2.field-0
    c.requires.checked is c.in_ok-copy.ensures c.in_ok-copy-2.ensures c.in_err-aggregate.field-0.0 c.in_err-aggregate.ensures.outcome in
    search (rules, h)

pub returns-clause-outcome : goal.returns-clause-outcome
returns-clause-outcome c =
    let is : class_named c.args.sys.now.classes c.args.class.now ≡ Some c.in-Some.class.now = search rules in
    create_ok c.args.sys.now c.args.class.now c.in-Some.class.now c.args.id c.args.fields.now c.args.at c.in_ok-copy.field-0 c.in_ok-copy-2.field-0
    c.requires.checked is c.in_ok-copy.ensures c.in_ok-copy-2.ensures c.in_ok-aggregate.aggregate c.push.new.self c.in_ok-aggregate.ensures.outcome c.in_ok-push.ensures.ok

pub returns-clause-fields : goal.returns-clause-fields
returns-clause-fields c =
    let is : class_named c.args.sys.now.classes c.args.class.now ≡ Some c.in-Some.class.now = search rules in
    of_class c.args.sys.now c.in-Some.class.now c.in_ok-aggregate.aggregate.class c.in_ok-aggregate.aggregate.fields
    (created_class c.args.sys.now c.args.class.now c.in-Some.class.now c.requires.checked is) c.in_ok-aggregate.ensures.class c.in_ok-aggregate.ensures.fields
