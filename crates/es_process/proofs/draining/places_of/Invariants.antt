use Rattle.std.proofs.Common.{take}
use Rattle.es_process.specs.Drains.{ArePrompted}
use Rattle.es_process.specs.Standing.{names_in}
use Rattle.es_process.proofs.draining.places_of.Given as goal

abbrev pub invariant-loop-name : goal.invariant-loop-name
invariant-loop-name g l = ArePrompted (names_in l.fn.apps) l.queue.items (take l.name-index l.fn.names)
