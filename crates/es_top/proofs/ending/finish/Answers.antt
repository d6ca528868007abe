use Rattle.std.proofs.Common.{rules, ◌≡◌, ◌∙◌, false, is_some, sym}
use Rattle.es_top.proofs.EndLemmas.{line_writes, starved_writes}
use Rattle.es_top.proofs.ending.finish.Goals as goal

pub returns-in-Some-clause-told : goal.returns-in-Some-clause-told
returns-in-Some-clause-told g c = line_writes c.args.end c.in-Some.line.now (g.T.Sink.written c.args.out.now) (g.T.Sink.written c.tell.new.out) c.tell.result (c.in-Some.ensures {u = tt}).line c.tell.ensures.told

pub returns-in-Ok-clause-told : goal.returns-in-Ok-clause-told
returns-in-Ok-clause-told g c = line_writes c.args.end c.as_slice.result.now (g.T.Sink.written c.args.out.now) (g.T.Sink.written c.tell-in-Ok.new.out) c.tell-in-Ok.result (c.as_slice.ensures ∙ c.in-Ok.ensures {u = tt}) c.tell-in-Ok.ensures.told

pub returns-in-Err-clause-told : goal.returns-in-Err-clause-told
returns-in-Err-clause-told g c = starved_writes c.args.end c.memory_line.result.now (g.T.Sink.written c.args.out.now) (g.T.Sink.written c.tell-in-Err.new.out) c.tell-in-Err.result (sym c.fixed_end_line.ensures.fixed ∙ (let none : is_some c.fixed_end_line.result ≡ false = search rules in none)) c.memory_line.ensures c.tell-in-Err.ensures.told
