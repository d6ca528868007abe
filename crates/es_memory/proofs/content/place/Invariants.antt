use Rattle.std.proofs.Common.{◌≡◌, ◌+◌, drop}
use Rattle.es_memory.specs.Contents.{place_of}
use Rattle.es_memory.proofs.content.place.Given as goal

abbrev pub invariant-loop-i : goal.invariant-loop-i
invariant-loop-i l = l.i + place_of (drop l.i l.contents) l.app ≡ place_of l.contents l.app
