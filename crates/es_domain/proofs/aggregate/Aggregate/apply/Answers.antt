use Rattle.std.proofs.Common.{refl, rules}
use Rattle.es_model.specs.Declaration.{class_named}
use Rattle.es_domain.proofs.FoldLemmas.{later_fits}
use Rattle.es_domain.proofs.aggregate.Aggregate.apply.Goals as goal

pub fields_then-requires-clause-fields : goal.fields_then-requires-clause-fields
fields_then-requires-clause-fields c =
    later_fits c.args.sys.now c.args.self.now.class c.args.event.now.topic c.in-Some.event_class.now c.args.event.now.fields
    (class_named c.args.sys.now.classes c.args.self.now.class) refl c.requires.checked (search rules) c.requires.event
