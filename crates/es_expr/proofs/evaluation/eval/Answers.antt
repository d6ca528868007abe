use Rattle.es_expr.proofs.SoundLemmas.{checked-fits, checked-not_stuck}
use Rattle.es_expr.proofs.evaluation.eval.Goals as goal

pub unreachable-requires : goal.unreachable-requires
unreachable-requires c =
    checked-not_stuck c.requires.0 c.args.expr.now c.args.env.now c.requires.1 (rw c.in-Err-Stuck.field-0-is at c.in-Err-Stuck.ensures)

pub returns-in-Ok-clause-kind : goal.returns-in-Ok-clause-kind
returns-in-Ok-clause-kind c = λ k h. checked-fits k c.args.expr.now c.args.env.now c.in-Ok.value h c.in-Ok.ensures
