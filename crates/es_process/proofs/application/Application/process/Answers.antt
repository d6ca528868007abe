use Rattle.std.proofs.Common.{arith, ◌≡◌, ◌∙◌, ◌+◌, subst, IfSome}
use Rattle.es_process.proofs.TracedLemmas.{faulted}
use Rattle.es_model.specs.Tracking.{tracked_in}
use Rattle.es_process.proofs.application.Application.process.Goals as goal

pub returns-in-Ok-clause-processed : goal.returns-in-Ok-clause-processed
returns-in-Ok-clause-processed g c = λ after may.
    let x = (c.in-Ok.ensures {u = tt}).taken after may in (
      x.0,
      x.1,
      λ logs h q r is told kept reading.
          let tracked = subst (λ o. IfSome o (λ x. c.in_ok-tracked.tracked ≡ tracked_in x c.args.leader.now)) told (c.in_ok-tracked.ensures {u = tt}).value in (
            omega (arith, tracked, c.if-id-tracked.false, c.if-id-tracked-2.false),
            rw c.max_tracking_id.ensures.same.capacity at (x.2 logs h q r is (c.max_tracking_id.ensures.same.history ∙ told) (c.max_tracking_id.ensures.same.snapshots ∙ kept) reading),
          ),
    )

pub returns-in-Err-clause-processed : goal.returns-in-Err-clause-processed
returns-in-Err-clause-processed g c = λ after may.
    let x = (c.in-Err.ensures {u = tt}).taken after may in (
      x.0,
      x.1,
      λ logs h q r is told kept reading.
          let tracked = subst (λ o. IfSome o (λ x. c.in_ok-tracked.tracked ≡ tracked_in x c.args.leader.now)) told (c.in_ok-tracked.ensures {u = tt}).value in
          faulted (c.args.id ≡ tracked_in h c.args.leader.now + 1) _ h q _ _ c.in-Err.fault (omega (arith, tracked, c.if-id-tracked.false, c.if-id-tracked-2.false))
          (rw c.max_tracking_id.ensures.same.capacity at (x.2 logs h q r is (c.max_tracking_id.ensures.same.history ∙ told) (c.max_tracking_id.ensures.same.snapshots ∙ kept) reading)),
    )
