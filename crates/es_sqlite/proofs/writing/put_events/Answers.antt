use Rattle.std.proofs.Common.{◌∙◌, arith}
use Rattle.sqlite.specs.Held.{state}
use Rattle.es_sqlite.proofs.CommitLemmas.{nothing_then}
use Rattle.es_sqlite.proofs.writing.put_events.Goals as goal

pub loop-event-preserved : goal.loop-event-preserved
loop-event-preserved g c = record {
  same = c.put_event.ensures.same_reference ∙ c.loop-event.invariant.same;
  survives = nothing_then (state g.S.Store c.args.tx.now.conn.now) (state g.S.Store c.loop-event.tx.conn.now) (state g.S.Store c.put_event.new.tx.conn.now) c.loop-event.invariant.survives c.put_event.ensures.survives;
  number = omega (arith, c.loop-event.invariant.number);
}
