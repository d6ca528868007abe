use Rattle.std.proofs.Common.{◌≡◌, drop}
use Rattle.es_mapper.specs.Mapping.{upcast_by}
use Rattle.es_mapper.proofs.domain.upcast_by.Given as goal

abbrev pub invariant-loop-edits : goal.invariant-loop-edits
invariant-loop-edits l = upcast_by l.steps l.initial.fields ≡ upcast_by (drop l.edits-index l.steps) l.fields
