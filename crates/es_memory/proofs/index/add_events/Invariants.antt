use Rattle.std.proofs.Common.{◌≡◌, ◌++◌, ◌+◌, drop}
use Rattle.es_model.specs.Values.{Id}
use Rattle.es_memory.specs.inner.Index.{at_id, places_from}
use Rattle.es_memory.proofs.index.add_events.Given as goal

abbrev pub invariant-loop-i : goal.invariant-loop-i
invariant-loop-i l = (id : Id) → at_id l.ids id ++ places_from (l.first + l.i) (drop l.i l.events) id ≡ at_id l.initial.ids id ++ places_from l.first l.events id
