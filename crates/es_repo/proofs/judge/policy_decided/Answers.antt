use Rattle.std.proofs.Common.{◌∙◌, sym, ap, subst}
use Rattle.es_model.specs.History.{log}
use Rattle.es_domain.specs.Decision.{Decides, policy_decision, notice}
use Rattle.es_repo.specs.inner.Reader.{Kept}
use Rattle.es_repo.proofs.PolicyLemmas.{policy-over}
use Rattle.es_repo.proofs.ToldLemmas.{decided-over}
use Rattle.es_repo.proofs.judge.policy_decided.Goals as goal

pub returns-clause-decision : goal.returns-clause-decision
returns-clause-decision g c = λ h is.
    let reader = c.decide_policy-decided.new.reader in
    let sys = c.args.sys.now in
    let n = notice c.args.leader.now c.args.id c.args.event.now in
    subst (λ d. Decides d c.decide_policy-decided.result) (sym (policy-over sys (log h) c.args.app.now n c.args.at))
    (decided-over sys h reader.asked (g.R.AggregateRecorder.history reader.recorder.now) (policy_decision sys c.args.app.now n c.args.at) c.decide_policy-decided.result
    (ap (λ (k : Kept). k.history) c.decide_policy-decided.ensures.same.kept ∙ is) c.decide_policy-decided.ensures.decision)
