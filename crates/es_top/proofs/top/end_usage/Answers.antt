use Rattle.es_top.proofs.EndLemmas.{usage_told}
use Rattle.es_top.proofs.top.end_usage.Goals as goal

pub returns-clause-ends : goal.returns-clause-ends
returns-clause-ends g c = usage_told c.finish.result (g.T.Sink.written c.args.out.now) (g.T.Sink.written c.finish.new.out) c.finish.ensures.told
