use Rattle.std.proofs.Common.{◌≡◌, IfOk, refl, sym, subst}
use Rattle.es_model.specs.History.{log}
use Rattle.es_domain.specs.Decision.{notice}
use Rattle.es_repo.specs.Policies.{policy_by, readings_with}
use Rattle.es_repo.specs.Verdicts.{policy_verdict, stored_verdict, AcceptsAs, FollowsIn}
use Rattle.es_repo.specs.inner.Stored.{AreReadBack}
use Rattle.es_repo.proofs.FollowsLemmas.{policy-follows}
use Rattle.es_repo.proofs.JudgeLemmas.{if-ok, both-ok, cause-of}
use Rattle.es_repo.proofs.StoredLemmas.{accepts}
use Rattle.es_repo.proofs.judge.judge_policy.Goals as goal

pub returns-clause-verdict : goal.returns-clause-verdict
returns-clause-verdict g c = λ h is.
    let n = notice c.args.leader.now c.args.id c.args.event.now in
    c.verdict_in.ensures.verdict (policy_by c.args.sys.now c.args.app.now n c.args.at (readings_with c.args.sys.now (log h))) (c.policy_decided-decided.ensures.decision h is)

pub returns-clause-stored : goal.returns-clause-stored
returns-clause-stored g c = λ h is.
    let sys = c.args.sys.now in
    let n = notice c.args.leader.now c.args.id c.args.event.now in
    let d = policy_by sys c.args.app.now n c.args.at (readings_with sys (log h)) in
    let decides = c.policy_decided-decided.ensures.decision h is in
    if-ok (λ v. (v ≡ policy_verdict sys c.args.app.now n c.args.at h) × IfOk d (AreReadBack sys)) (AcceptsAs (stored_verdict sys c.args.app.now n c.args.at h)) c.verdict_in.result
    (λ v both. accepts sys (log h) c.args.app.now n c.args.at v d refl both.0 both.1)
    (both-ok (λ v. v ≡ policy_verdict sys c.args.app.now n c.args.at h) (λ v. IfOk d (AreReadBack sys)) c.verdict_in.result
    (c.verdict_in.ensures.verdict d decides) (c.verdict_in.ensures.back d decides c.requires.checked c.policy_decided-decided.ensures.events))

pub returns-clause-follows : goal.returns-clause-follows
returns-clause-follows g c = λ h is.
    let n = notice c.args.leader.now c.args.id c.args.event.now in
    if-ok (λ v. v ≡ policy_verdict c.args.sys.now c.args.app.now n c.args.at h) (FollowsIn (log h)) c.verdict_in.result
    (λ v same. subst (FollowsIn (log h)) (sym same) (policy-follows c.args.sys.now (log h) c.args.app.now n c.args.at))
    (c.verdict_in.ensures.verdict (policy_by c.args.sys.now c.args.app.now n c.args.at (readings_with c.args.sys.now (log h))) (c.policy_decided-decided.ensures.decision h is))

pub returns-clause-cause : goal.returns-clause-cause
returns-clause-cause g c =
    cause-of (g.R.AggregateRecorder.faults c.args.recorder.now) (g.R.AggregateRecorder.faults c.policy_decided-decided.new.recorder) c.policy_decided-decided.result c.verdict_in.result c.policy_decided-decided.ensures.cause c.verdict_in.ensures.failed
