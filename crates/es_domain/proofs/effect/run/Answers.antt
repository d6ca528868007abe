use Rattle.es_domain.proofs.FoldLemmas.{created_class}
use Rattle.es_domain.proofs.effect.run.Goals as goal

pub fire_all-requires-clause-class : goal.fire_all-requires-clause-class
fire_all-requires-clause-class c = created_class c.args.sys.now c.args.command.now.class c.args.class.now c.requires.checked c.requires.class
