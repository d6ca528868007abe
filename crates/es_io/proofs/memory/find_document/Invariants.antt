use Rattle.std.proofs.Common.{◌≡◌, drop}
use Rattle.es_io.specs.Documents.{first_named}
use Rattle.es_io.proofs.memory.find_document.Given as goal

abbrev pub invariant-loop-known : goal.invariant-loop-known
invariant-loop-known l = first_named (drop l.known-index l.documents) l.name ≡ first_named l.documents l.name
