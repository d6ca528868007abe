use Rattle.std.proofs.Common.{arith, ◌≡◌, ◌∙◌, refl, sym, ap, true, false, List}
use Rattle.es_model.specs.declared.event.Recording.{Recording}
use Rattle.es_model.specs.declared.snapshot.Snapshot.{Snapshot}
use Rattle.es_recorder.specs.Held.{put}
use Rattle.es_recorder.proofs.HeldLemmas.{closes}
use Rattle.es_memory.specs.Contents.{histories_of, snapshots_of}
use Rattle.es_memory.proofs.ContentsLemmas.{found, histories-set, snapshots-set, flags-set, flags-down, flag-place, past_end, get_or-default}
use Rattle.es_memory.proofs.memory_stores.MemoryStoresStores.close.Goals as goal
use Rattle.es_memory.proofs.memory_stores.MemoryStoresStores.close.Goals.{else-at-len-via-then-at-len+else-index, else-at-len-via-else-at-len}

pub returns-then-index-clause-closed : goal.returns-then-index-clause-closed
returns-then-index-clause-closed c =
    let entry = found c.args.self.now.contents.items _ c.place-at.result c.index_mut-entry.result.now c.args.app.now c.as_slice.ensures.value c.place-at.ensures.place (omega arith) c.index_mut-entry.ensures.value in
    let raised = flag-place c.args.self.now.contents.items _ c.args.self.now.out.items _ c.args.app.now true c.as_slice.ensures.value c.place-at.ensures.place (get_or-default c.args.self.now.out.items c.place-at.result _ _ (omega arith) ∙ sym c.index.ensures ∙ c.if-index.true) in
    let given : c.into_parts-history.result.0 ≡ c.args.recorder.history = cc c.into_parts-history.ensures.history in
    closes _ _ _ _ _ raised (histories-set _ _ _ _ _ entry refl ∙ ap (λ (x : List Recording). put (histories_of c.args.self.now.contents.items) c.args.app.now x) given)

pub returns-then-index-clause-closed_stable : goal.returns-then-index-clause-closed_stable
returns-then-index-clause-closed_stable c =
    let entry = found c.args.self.now.contents.items _ c.place-at.result c.index_mut-entry.result.now c.args.app.now c.as_slice.ensures.value c.place-at.ensures.place (omega arith) c.index_mut-entry.ensures.value in
    let raised = flag-place c.args.self.now.contents.items _ c.args.self.now.out.items _ c.args.app.now true c.as_slice.ensures.value c.place-at.ensures.place (get_or-default c.args.self.now.out.items c.place-at.result _ _ (omega arith) ∙ sym c.index.ensures ∙ c.if-index.true) in
    let given : c.into_parts-history.result.0 ≡ c.args.recorder.history = cc c.into_parts-history.ensures.history in
    closes _ _ _ _ _ raised (histories-set _ _ _ _ _ entry refl ∙ ap (λ (x : List Recording). put (histories_of c.args.self.now.contents.items) c.args.app.now x) given)

pub returns-then-index-clause-closed_snapshots : goal.returns-then-index-clause-closed_snapshots
returns-then-index-clause-closed_snapshots c =
    let entry = found c.args.self.now.contents.items _ c.place-at.result c.index_mut-entry.result.now c.args.app.now c.as_slice.ensures.value c.place-at.ensures.place (omega arith) c.index_mut-entry.ensures.value in
    let raised = flag-place c.args.self.now.contents.items _ c.args.self.now.out.items _ c.args.app.now true c.as_slice.ensures.value c.place-at.ensures.place (get_or-default c.args.self.now.out.items c.place-at.result _ _ (omega arith) ∙ sym c.index.ensures ∙ c.if-index.true) in
    let given : c.into_parts-history.result.1.items ≡ c.args.recorder.snapshots.items = cc c.into_parts-history.ensures.snapshots in
    closes _ _ _ _ _ raised (snapshots-set _ _ _ _ _ entry refl ∙ ap (λ (x : List Snapshot). put (snapshots_of c.args.self.now.contents.items) c.args.app.now x) given)

pub returns-then-index-clause-in_again : goal.returns-then-index-clause-in_again
returns-then-index-clause-in_again c =
    let entry = found c.args.self.now.contents.items _ c.place-at.result c.index_mut-entry.result.now c.args.app.now c.as_slice.ensures.value c.place-at.ensures.place (omega arith) c.index_mut-entry.ensures.value in
    flags-set _ _ _ _ _ _ false entry refl (omega arith)

pub returns-else-at-len-clause-in_again : goal.returns-else-at-len-clause-in_again
returns-else-at-len-clause-in_again c = elim c.else-at-len.branch [
  | else-at-len-via-then-at-len+else-index w ↦
      flags-down c.args.self.now.contents.items c.args.self.now.out.items c.args.app.now
      (flag-place c.args.self.now.contents.items _ c.args.self.now.out.items _ c.args.app.now false c.as_slice.ensures.value c.place-at.ensures.place (get_or-default c.args.self.now.out.items c.place-at.result _ _ (omega arith) ∙ sym w.index.ensures ∙ w.if-index.false))
  | else-at-len-via-else-at-len w ↦
      flags-down c.args.self.now.contents.items c.args.self.now.out.items c.args.app.now
      (flag-place c.args.self.now.contents.items _ c.args.self.now.out.items _ c.args.app.now false c.as_slice.ensures.value c.place-at.ensures.place (past_end c.args.self.now.out.items c.place-at.result (omega arith)))
]
