use Rattle.std.proofs.Common.{◌≡◌, drop}
use Rattle.es_mapper.specs.Upcasts.{edited_by}
use Rattle.es_mapper.proofs.edits.upcast.Given as goal

abbrev pub invariant-loop-edit : goal.invariant-loop-edit
invariant-loop-edit l = edited_by l.edits l.initial.fields ≡ edited_by (drop l.edit-index l.edits) l.fields
