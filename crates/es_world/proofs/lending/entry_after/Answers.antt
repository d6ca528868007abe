use Rattle.std.proofs.Common.{Some}
use Rattle.es_process.proofs.PlaceLemmas.{next_found}
use Rattle.es_world.proofs.lending.entry_after.Goals as goal

pub returns-in-Ok-clause-found : goal.returns-in-Ok-clause-found
returns-in-Ok-clause-found c =
    next_found (Some c.args.recorder.now.history) c.args.before c.into_vec.result.len c.in-Ok.found c.into_vec.result.items c.pop.new.self.items c.pop.result c.into_vec.ensures (c.in-Ok.ensures {u = tt}).value c.pop.ensures.items c.into_vec.result.ok.0
    (λ none. (rw none at c.pop.ensures.cases).0)
