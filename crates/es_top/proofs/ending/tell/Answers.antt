use Rattle.es_top.proofs.EndLemmas.{line_told, told_not_sink}
use Rattle.es_top.proofs.ending.tell.Goals as goal

pub returns-in-Ok-clause-told : goal.returns-in-Ok-clause-told
returns-in-Ok-clause-told g c = line_told c.args.end c.args.line.now (g.T.Sink.written c.args.out.now) (g.T.Sink.written c.write_line.new.out) c.from.result c.from.ensures (c.in-Ok.ensures {u = tt}).all

pub returns-in-Ok-clause-sink : goal.returns-in-Ok-clause-sink
returns-in-Ok-clause-sink g c = told_not_sink c.from.result c.args.end c.from.ensures
