use Rattle.std.proofs.Common.{◌≡◌, true, rules}
use Rattle.es_model.specs.Declaration.{is_created}
use Rattle.es_domain.proofs.FoldLemmas.{of_class}
use Rattle.es_expr.proofs.UniqueLemmas.{class-of-topic}
use Rattle.es_domain.proofs.Projections.{created_checked}
use Rattle.es_domain.proofs.fold.begin_by.Goals as goal

pub created-requires : goal.created-requires
created-requires c =
    let created : is_created c.args.class.now c.args.event.now.topic ≡ true = search rules in
    created_checked c.args.sys.now c.args.class.now c.args.event_class.now c.args.event.now c.requires.checked c.requires.declared created c.requires.fields c.rises.ensures c.rises-2.ensures

pub returns-in-Ok-clause-fields : goal.returns-in-Ok-clause-fields
returns-in-Ok-clause-fields c =
    of_class c.args.sys.now c.args.class.now c.in-Ok.aggregate.class c.in-Ok.aggregate.fields
    (class-of-topic c.args.sys.now c.args.class.now c.args.event_class.now c.args.event.now.topic c.requires.checked c.requires.declared)
    c.in-Ok.ensures.class c.in-Ok.ensures.fields
