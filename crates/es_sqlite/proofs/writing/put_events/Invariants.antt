use Rattle.std.proofs.Common.{◌≡◌, ◌+◌}
use Rattle.sqlite.specs.State.{Survives}
use Rattle.sqlite.specs.Held.{state}
use Rattle.es_sqlite.proofs.writing.put_events.Given as goal

abbrev pub invariant-loop-event : goal.invariant-loop-event
invariant-loop-event g l = record {
  same : l.tx.conn.ghost_name ≡ l.initial.tx.conn.ghost_name;
  survives : Survives (state g.S.Store l.fn.tx.conn.now) (state g.S.Store l.tx.conn.now) (λ _. ⊥);
  number : l.notification ≡ l.first + l.event-index;
}
