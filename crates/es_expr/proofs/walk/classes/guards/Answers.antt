use Rattle.std.proofs.Common.{◌≡◌, Err, arith, rules}
use Rattle.es_expr.specs.Misfits.{guard_misfits}
use Rattle.es_expr.proofs.FindsLemmas.{loop-on, loop-halts}
use Rattle.es_expr.proofs.walk.classes.guards.Goals as goal

pub returns-in_err-guard : goal.returns-in_err-guard
returns-in_err-guard c =
    let rethrown : c.from_residual.result ≡ Err c.in_err-guard.field-0.0 = search rules in
    loop-halts (guard_misfits c.args.env.now c.args.path.now) c.args.guards.now c.loop-place.place c.loop-place.invariant
    c.index-guards-place.result c.in_err-guard.field-0.0 c.from_residual.result rethrown
    c.loop-place-test.true c.index-guards-place.is c.in_err-guard.ensures

pub loop-place-preserved : goal.loop-place-preserved
loop-place-preserved c =
    loop-on (guard_misfits c.args.env.now c.args.path.now) c.args.guards.now c.loop-place.place c.loop-place.invariant
    _ c.index-guards-place.result (omega arith) c.loop-place-test.true c.index-guards-place.is c.in_ok-guard.ensures
