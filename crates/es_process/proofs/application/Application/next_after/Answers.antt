use Rattle.es_process.proofs.PlaceLemmas.{next_found}
use Rattle.es_process.proofs.application.Application.next_after.Goals as goal

pub returns-clause-found : goal.returns-clause-found
returns-clause-found g c =
    next_found _ c.args.tracked c.into_vec.result.len c.in_ok-next.next c.into_vec.result.items c.pop.new.self.items c.pop.result c.into_vec.ensures (c.in_ok-next.ensures {u = tt}).value c.pop.ensures.items c.into_vec.result.ok.0
    (λ none. (rw none at c.pop.ensures.cases).0)
