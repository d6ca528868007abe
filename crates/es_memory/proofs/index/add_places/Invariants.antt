use Rattle.es_memory.specs.inner.Index.{AddsPlaces}
use Rattle.es_memory.proofs.index.add_places.Given as goal

abbrev pub invariant-loop-i : goal.invariant-loop-i
invariant-loop-i l = AddsPlaces l.recording l.i l.initial.places.items l.places.items
