use Rattle.std.proofs.Common.{◌≡◌, Err, arith, rules}
use Rattle.es_expr.specs.Misfits.{event_misfits}
use Rattle.es_expr.proofs.FindsLemmas.{loop-on, loop-halts}
use Rattle.es_expr.proofs.walk.classes.events.Goals as goal

pub returns-in_err-event : goal.returns-in_err-event
returns-in_err-event c =
    let rethrown : c.from_residual.result ≡ Err c.in_err-event.field-0.0 = search rules in
    loop-halts (event_misfits c.args.class.now c.args.path.now) c.args.events.now c.loop-place.place c.loop-place.invariant
    c.index-events-place.result c.in_err-event.field-0.0 c.from_residual.result rethrown
    c.loop-place-test.true c.index-events-place.is c.in_err-event.ensures

pub loop-place-preserved : goal.loop-place-preserved
loop-place-preserved c =
    loop-on (event_misfits c.args.class.now c.args.path.now) c.args.events.now c.loop-place.place c.loop-place.invariant
    _ c.index-events-place.result (omega arith) c.loop-place-test.true c.index-events-place.is c.in_ok-event.ensures
