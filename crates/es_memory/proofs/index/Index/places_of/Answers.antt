use Rattle.std.proofs.Common.{◌∙◌}
use Rattle.es_memory.proofs.IndexLemmas.{at_id-get}
use Rattle.es_memory.proofs.index.Index.places_of.Goals as goal

pub returns-in-Some : goal.returns-in-Some
returns-in-Some c = c.as_slice.ensures.value ∙ at_id-get c.args.self.now.ids c.args.id _ c.in-Some.ensures.value

pub returns-in-None : goal.returns-in-None
returns-in-None c = at_id-get c.args.self.now.ids c.args.id _ c.in-None.ensures.value
