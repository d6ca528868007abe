use Rattle.std.proofs.Common.{◌∙◌, ap}
use Rattle.es_domain.specs.Decision.{command_decision}
use Rattle.es_repo.specs.inner.Reader.{Kept}
use Rattle.es_repo.proofs.ToldLemmas.{decided-over}
use Rattle.es_repo.proofs.judge.command_decided.Goals as goal

pub returns-clause-decision : goal.returns-clause-decision
returns-clause-decision g c = λ h is.
    let reader = c.decide_command-decided.new.reader in
    decided-over c.args.sys.now h reader.asked (g.R.AggregateRecorder.history reader.recorder.now) (command_decision c.args.sys.now c.args.command.now c.args.at) c.decide_command-decided.result
    (ap (λ (k : Kept). k.history) c.decide_command-decided.ensures.same.kept ∙ is) c.decide_command-decided.ensures.decision
