use Rattle.std.proofs.Common.{◌≡◌, ◌+◌, ◌-◌, ◌++◌, ◌∙◌, sym, ap, Some, take, drop, slice_get}
use Rattle.es_model.specs.History.{log}
use Rattle.es_recorder.specs.Selections.{numbered_from}
use Rattle.es_memory.proofs.PlaceLemmas.{number-more}
use Rattle.es_memory.proofs.index.Index.notifications_at.Goals as goal

pub loop-place-preserved : goal.loop-place-preserved
loop-place-preserved c =
    let es = log c.args.history.now in
    let place = c.loop-place.place in
    let upto = c.args.upto in
    let here : slice_get es place ≡ Some c.in_ok-copy.field-0 = c.event_at.ensures ∙ ap Some (sym c.in_ok-copy.ensures) in
    (λ i. c.in_ok-push.ensures.ok i ++ take (upto - (place + 1)) (numbered_from (place + 1 + 1) (drop (place + 1) es)))
    ∙ number-more es c.loop-place.found place upto c.in_ok-copy.field-0 _ c.loop-place-test.true here c.loop-place.invariant
