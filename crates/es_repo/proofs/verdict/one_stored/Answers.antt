use Rattle.std.proofs.Common.{◌≡◌}
use Rattle.es_mapper.specs.Mapping.{IsDeclared, IsEvent, stored}
use Rattle.es_repo.specs.inner.Stored.{IsReadBack}
use Rattle.es_repo.proofs.BackLemmas.{new-back}
use Rattle.es_repo.proofs.JudgeLemmas.{if-ok, both-ok}
use Rattle.es_repo.proofs.verdict.one_stored.Goals as goal

pub returns-clause-back : goal.returns-clause-back
returns-clause-back c = λ checked new.
    let sys = c.args.sys.now in
    let e = c.args.event.now in
    if-ok (λ s. (s ≡ stored sys e) × (IsDeclared sys e → IsEvent sys s e)) (λ s. IsReadBack sys e) c.to_stored.result
    (λ s both. new-back sys e s checked c.as_slice.ensures.rising both.0 both.1 new)
    (both-ok (λ s. s ≡ stored sys e) (λ s. IsDeclared sys e → IsEvent sys s e) c.to_stored.result c.to_stored.ensures.stored c.to_stored.ensures.back)
