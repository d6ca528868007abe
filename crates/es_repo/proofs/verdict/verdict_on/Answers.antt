use Rattle.std.proofs.Common.{rules}
use Rattle.es_repo.proofs.JudgeLemmas.{small-verdict}
use Rattle.es_repo.proofs.verdict.verdict_on.Goals as goal

pub returns-in-Ok-clause-small : goal.returns-in-Ok-clause-small
returns-in-Ok-clause-small c = small-verdict c.args.sys.now c.args.decision c.in-Events.events c.in-Ok.events c.in-Events.is (search rules)
