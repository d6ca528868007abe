use Rattle.std.proofs.Common.{◌≡◌, Err, arith, rules}
use Rattle.es_expr.specs.Misfits.{trigger_misfits}
use Rattle.es_expr.proofs.FindsLemmas.{loop-on, loop-halts}
use Rattle.es_expr.proofs.walk.classes.triggers.Goals as goal

pub returns-in_err-trigger : goal.returns-in_err-trigger
returns-in_err-trigger c =
    let rethrown : c.from_residual.result ≡ Err c.in_err-trigger.field-0.0 = search rules in
    loop-halts (trigger_misfits c.args.class.now c.args.command.now c.args.path.now) c.args.triggers.now c.loop-place.place c.loop-place.invariant
    c.index-triggers-place.result c.in_err-trigger.field-0.0 c.from_residual.result rethrown
    c.loop-place-test.true c.index-triggers-place.is c.in_err-trigger.ensures

pub loop-place-preserved : goal.loop-place-preserved
loop-place-preserved c =
    loop-on (trigger_misfits c.args.class.now c.args.command.now c.args.path.now) c.args.triggers.now c.loop-place.place c.loop-place.invariant
    _ c.index-triggers-place.result (omega arith) c.loop-place-test.true c.index-triggers-place.is c.in_ok-trigger.ensures
