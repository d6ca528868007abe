use Rattle.std.proofs.Common.{Some, subst, sym}
use Rattle.std.specs.Option.{option_copied}
use Rattle.es_expr.specs.inner.Walks.{Finds}
use Rattle.es_expr.specs.Misfits.{leader_misfits}
use Rattle.es_expr.proofs.walk.apps.leader.Goals as goal

pub returns-in-Some : goal.returns-in-Some
returns-in-Some c =
    subst (λ o. Finds (leader_misfits c.args.sys.now c.args.app.now c.args.path.now (option_copied o)) c.named_leader.result) (sym c.in-Some.is)
    (subst (λ n. Finds (leader_misfits c.args.sys.now c.args.app.now c.args.path.now (Some n)) c.named_leader.result) c.as_str.ensures c.named_leader.ensures)
