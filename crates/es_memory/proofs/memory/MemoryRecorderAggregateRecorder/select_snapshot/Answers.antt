use Rattle.std.proofs.Common.{List, subst}
use Rattle.es_model.specs.declared.snapshot.Snapshot.{Snapshot}
use Rattle.es_recorder.specs.Selections.{snapshots_upto, IsNewest}
use Rattle.es_recorder.proofs.SelectionLemmas.{IsNewest-small}
use Rattle.es_memory.proofs.memory.MemoryRecorderAggregateRecorder.select_snapshot.Goals as goal

pub returns-clause-small : goal.returns-clause-small
returns-clause-small c =
    let a = c.args in
    IsNewest-small a.self.now.snapshots.items a.id a.lte c.in_ok-newest_copy.field-0 a.self.now.snapshots.once
    (subst (λ (ss : List Snapshot). IsNewest (snapshots_upto ss a.id a.lte) c.in_ok-newest_copy.field-0) c.as_slice.ensures c.in_ok-newest_copy.ensures)
