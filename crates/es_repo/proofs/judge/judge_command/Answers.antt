use Rattle.std.proofs.Common.{◌≡◌, sym, subst}
use Rattle.es_model.specs.History.{log}
use Rattle.es_domain.specs.Decision.{command_decision}
use Rattle.es_repo.specs.Readings.{readings_of}
use Rattle.es_repo.specs.Verdicts.{command_verdict, FollowsIn}
use Rattle.es_repo.proofs.FollowsLemmas.{command-follows}
use Rattle.es_repo.proofs.JudgeLemmas.{if-ok, cause-of}
use Rattle.es_repo.proofs.judge.judge_command.Goals as goal

pub returns-clause-verdict : goal.returns-clause-verdict
returns-clause-verdict g c = λ h is.
    c.verdict_in.ensures.verdict (command_decision c.args.sys.now c.args.command.now c.args.at (readings_of c.args.sys.now (log h))) (c.command_decided-decided.ensures.decision h is)

pub returns-clause-follows : goal.returns-clause-follows
returns-clause-follows g c = λ h is.
    if-ok (λ v. v ≡ command_verdict c.args.sys.now c.args.command.now c.args.at h) (FollowsIn (log h)) c.verdict_in.result
    (λ v same. subst (FollowsIn (log h)) (sym same) (command-follows c.args.sys.now (log h) c.args.command.now c.args.at))
    (c.verdict_in.ensures.verdict (command_decision c.args.sys.now c.args.command.now c.args.at (readings_of c.args.sys.now (log h))) (c.command_decided-decided.ensures.decision h is))

pub returns-clause-cause : goal.returns-clause-cause
returns-clause-cause g c =
    cause-of (g.R.AggregateRecorder.faults c.args.recorder.now) (g.R.AggregateRecorder.faults c.command_decided-decided.new.recorder) c.command_decided-decided.result c.verdict_in.result c.command_decided-decided.ensures.cause c.verdict_in.ensures.failed
