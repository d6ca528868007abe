use Rattle.std.proofs.Common.{◌≡◌, Err, arith, rules}
use Rattle.es_expr.specs.Misfits.{listed_misfits}
use Rattle.es_expr.proofs.FindsLemmas.{loop-on, loop-halts}
use Rattle.es_expr.proofs.walk.apps.listed.Goals as goal

pub returns-in_err-listed_class : goal.returns-in_err-listed_class
returns-in_err-listed_class c =
    let rethrown : c.from_residual.result ≡ Err c.in_err-listed_class.field-0.0 = search rules in
    loop-halts (listed_misfits c.args.sys.now c.args.app.now c.args.path.now) c.args.names.now c.loop-place.place c.loop-place.invariant
    c.index-names-place.result c.in_err-listed_class.field-0.0 c.from_residual.result rethrown
    c.loop-place-test.true c.index-names-place.is c.in_err-listed_class.ensures

pub loop-place-preserved : goal.loop-place-preserved
loop-place-preserved c =
    loop-on (listed_misfits c.args.sys.now c.args.app.now c.args.path.now) c.args.names.now c.loop-place.place c.loop-place.invariant
    _ c.index-names-place.result (omega arith) c.loop-place-test.true c.index-names-place.is c.in_ok-listed_class.ensures
