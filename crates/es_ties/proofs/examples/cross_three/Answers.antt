use Rattle.es_ties.proofs.Prefixes.{prefix_trans}
use Rattle.es_ties.proofs.examples.cross_three.Goals as goal

pub returns-clause-told : goal.returns-clause-told
returns-clause-told c = prefix_trans _ _ _ c.cross.ensures.told (c.cross-2.ensures.all c.args.first.now.log)
