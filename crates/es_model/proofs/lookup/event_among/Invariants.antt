use Rattle.std.proofs.Common.{◌≡◌, drop}
use Rattle.es_model.specs.Declaration.{event_named}
use Rattle.es_model.proofs.lookup.event_among.Given as goal

abbrev pub invariant-loop-class : goal.invariant-loop-class
invariant-loop-class l = event_named (drop l.class-index l.classes) l.topic ≡ event_named l.classes l.topic
