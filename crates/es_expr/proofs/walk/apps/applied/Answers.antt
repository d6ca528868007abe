use Rattle.std.proofs.Common.{◌≡◌, Err, sym, subst, rules}
use Rattle.es_expr.specs.inner.Walks.{Finds}
use Rattle.es_expr.specs.Misfits.{applied_misfits, call_misfits, condition_misfits}
use Rattle.es_expr.proofs.FindsLemmas.{goes, stops}
use Rattle.es_expr.proofs.walk.apps.applied.Goals as goal

pub returns-in_err-condition : goal.returns-in_err-condition
returns-in_err-condition c =
    let rethrown : c.from_residual.result ≡ Err c.in_err-condition.field-0.0 = search rules in
    subst (Finds (applied_misfits c.args.sys.now c.args.app.now c.args.env.now c.args.path.now c.args.rule.now)) (sym rethrown)
    (stops _ (call_misfits c.args.sys.now c.args.app.now c.args.env.now c.args.path.now c.args.rule.now) c.in_err-condition.field-0.0 c.in_err-condition.ensures)

pub returns : goal.returns
returns c = goes _ _ c.call.result c.in_ok-condition.ensures c.call.ensures
