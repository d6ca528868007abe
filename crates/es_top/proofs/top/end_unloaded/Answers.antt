use Rattle.std.proofs.Common.{subst}
use Rattle.es_top.specs.Ends.{end_of_load, ended, Writes}
use Rattle.es_top.proofs.EndLemmas.{load_told}
use Rattle.es_top.proofs.top.end_unloaded.Given as given
use Rattle.es_top.proofs.top.end_unloaded.Goals as goal

told : (g : given.Over) (c : goal.After-finish g) → Writes (end_of_load c.args.fault) (g.T.Sink.written c.args.out.now) (g.T.Sink.written c.finish.new.out) (ended c.finish.result)
told g c = subst (λ e. Writes e (g.T.Sink.written c.args.out.now) (g.T.Sink.written c.finish.new.out) (ended c.finish.result)) c.load_end.ensures c.finish.ensures.told

pub returns-clause-told : goal.returns-clause-told
returns-clause-told g c = told g c

pub returns-clause-ends : goal.returns-clause-ends
returns-clause-ends g c = load_told c.args.fault c.finish.result (g.T.Sink.written c.args.out.now) (g.T.Sink.written c.finish.new.out) (told g c)
