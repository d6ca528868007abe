use Rattle.std.proofs.Common.{◌≡◌, Err, arith, rules}
use Rattle.es_expr.specs.Misfits.{app_misfits}
use Rattle.es_expr.proofs.FindsLemmas.{loop-on, loop-halts}
use Rattle.es_expr.proofs.walk.apps.apps.Goals as goal

pub returns-in_err-app : goal.returns-in_err-app
returns-in_err-app c =
    let rethrown : c.from_residual.result ≡ Err c.in_err-app.field-0.0 = search rules in
    loop-halts (app_misfits c.args.sys.now c.args.path.now) c.args.apps.now c.loop-place.place c.loop-place.invariant
    c.index-apps-place.result c.in_err-app.field-0.0 c.from_residual.result rethrown
    c.loop-place-test.true c.index-apps-place.is c.in_err-app.ensures

pub loop-place-preserved : goal.loop-place-preserved
loop-place-preserved c =
    loop-on (app_misfits c.args.sys.now c.args.path.now) c.args.apps.now c.loop-place.place c.loop-place.invariant
    _ c.index-apps-place.result (omega arith) c.loop-place-test.true c.index-apps-place.is c.in_ok-app.ensures
