use Rattle.std.proofs.Common.{◌≡◌, Err, arith, rules}
use Rattle.es_expr.specs.Misfits.{rule_misfits}
use Rattle.es_expr.proofs.FindsLemmas.{loop-on, loop-halts}
use Rattle.es_expr.proofs.walk.apps.rules.Goals as goal

pub returns-in_err-rule : goal.returns-in_err-rule
returns-in_err-rule c =
    let rethrown : c.from_residual.result ≡ Err c.in_err-rule.field-0.0 = search rules in
    loop-halts (rule_misfits c.args.sys.now c.args.app.now c.args.path.now) c.args.rules.now c.loop-place.place c.loop-place.invariant
    c.index-rules-place.result c.in_err-rule.field-0.0 c.from_residual.result rethrown
    c.loop-place-test.true c.index-rules-place.is c.in_err-rule.ensures

pub loop-place-preserved : goal.loop-place-preserved
loop-place-preserved c =
    loop-on (rule_misfits c.args.sys.now c.args.app.now c.args.path.now) c.args.rules.now c.loop-place.place c.loop-place.invariant
    _ c.index-rules-place.result (omega arith) c.loop-place-test.true c.index-rules-place.is c.in_ok-rule.ensures
