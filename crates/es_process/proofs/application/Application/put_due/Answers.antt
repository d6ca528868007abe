use Rattle.std.proofs.Common.{◌≡◌, ◌∙◌, IfSome, sym, subst}
use Rattle.es_model.specs.History.{log}
use Rattle.es_repo.specs.Snapshots.{due_after}
use Rattle.es_process.proofs.ApplicationLemmas.{due_put}
use Rattle.es_process.proofs.application.Application.put_due.Goals as goal

pub returns-in-Some-clause-puts : goal.returns-in-Some-clause-puts
returns-in-Some-clause-puts g c = λ h q told kept.
    let due = subst (λ o. IfSome o (λ k. c.in_ok-snapshot.field-0 ≡ due_after c.args.sys.now (log k) c.args.event.now)) told (c.in_ok-snapshot.ensures {u = tt}).due in
    due_put _ c.in-Some.snapshot h q c.put.result _ _ (sym c.in-Some.is ∙ due) (c.put.ensures.told ∙ c.snapshot_due.ensures.same.history ∙ told) (c.put.ensures.puts q (c.snapshot_due.ensures.same.snapshots ∙ kept))
