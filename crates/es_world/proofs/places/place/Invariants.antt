use Rattle.std.proofs.Common.{◌≡◌, ◌+◌, drop}
use Rattle.es_world.specs.Told.{place_in}
use Rattle.es_world.proofs.places.place.Given as goal

abbrev pub invariant-loop-i : goal.invariant-loop-i
invariant-loop-i l = l.i + place_in (drop l.i l.histories) l.app ≡ place_in l.histories l.app
