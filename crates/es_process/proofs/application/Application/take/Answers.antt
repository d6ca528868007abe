use Rattle.std.proofs.Common.{arith, subst, Some}
use Rattle.std.proofs.lemmas.Bool.Decides.{nat_tests}
use Rattle.es_io.specs.Readings.{Reads, GoesOn}
use Rattle.es_process.proofs.TracedLemmas.{reading_taken}
use Rattle.es_process.proofs.ApplicationLemmas.{takes_next}
use Rattle.es_process.proofs.application.Application.take.Goals as goal

pub returns-in-Ok-clause-taken : goal.returns-in-Ok-clause-taken
returns-in-Ok-clause-taken g c = λ after may.
    let x = reading_taken _ _ c.now-at.result c.now-at.ensures.reading c.now-at.ensures.rest after may in (
      x.0,
      x.1,
      λ logs h q r is told kept reading.
          takes_next _ _ _ _ h q _ logs _ _ _ c.args.event.now r c.record.result _ _ _ _ (grind (arith, nat_tests)) is
          (rw (subst (λ o. Reads o c.now-at.result) reading x.2.0) at (c.record.ensures.records h q told kept)) c.record.ensures.counted
          (subst (λ o. GoesOn o (Some after)) reading x.2.1),
    )
