use Rattle.es_model.specs.History.{log}
use Rattle.es_memory.proofs.FormedLemmas.{follow-none}
use Rattle.es_memory.proofs.history.versions_come.Goals as goal

pub returns : goal.returns
returns c = follow-none (log c.args.history.now) c.args.events.now c.conflict_of.result c.is_none.result c.is_none.ensures c.conflict_of.ensures
