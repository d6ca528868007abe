use Rattle.std.proofs.Common.{◌∙◌}
use Rattle.es_memory.proofs.LookupLemmas.{is-among}
use Rattle.es_memory.proofs.lookups.is_among.Goals as goal

pub returns : goal.returns
returns c = c.is_ok.ensures.value ∙ is-among c.args.numbers.now c.args.number c.binary_search.result c.requires c.binary_search.ensures.position
