use Rattle.std.proofs.Common.{◌≡◌, ◌++◌, Some, map, drop, slice_get}
use Rattle.es_model.specs.History.{log}
use Rattle.es_memory.proofs.index.Index.events_at.Given as goal

abbrev pub invariant-loop-place : goal.invariant-loop-place
invariant-loop-place l = map Some l.found ++ map (slice_get (log l.history)) (drop l.place-index l.places) ≡ map (slice_get (log l.history)) l.places
