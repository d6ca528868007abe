use Rattle.std.proofs.Common.{◌∙◌}
use Rattle.es_process.specs.Drains.{names_of_pair}
use Rattle.es_process.specs.inner.Following.{ahead_by}
use Rattle.es_process.proofs.ahead.ahead_of.Goals as goal

pub returns-in_ok-ahead_by-in-Ok-clause-told : goal.returns-in_ok-ahead_by-in-Ok-clause-told
returns-in_ok-ahead_by-in-Ok-clause-told g c = λ base options readings s held.
    let n = (c.in-Ok.ensures {u = tt}).told base options readings s held in
    c.in_ok-ahead_by-in-Ok.ensures {u = tt} ∙ (λ i. ahead_by (names_of_pair c.args.pair.now) (n.0 i) (n.1 i))
