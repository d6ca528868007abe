use Rattle.std.proofs.Common.{arith, ◌∙◌, ap, Some, List, true, if◌then◌else◌}
use Rattle.std.specs.Str.{bytes_eq}
use Rattle.es_model.specs.declared.event.Recording.{Recording}
use Rattle.es_model.specs.declared.snapshot.Snapshot.{Snapshot}
use Rattle.es_model.specs.Values.{Name}
use Rattle.es_recorder.specs.Held.{put}
use Rattle.es_recorder.proofs.HeldLemmas.{put-put}
use Rattle.es_memory.specs.Contents.{place_of}
use Rattle.es_memory.proofs.ContentsLemmas.{Found, histories-place, snapshots-place, histories-set, snapshots-set, flags-set}
use Rattle.es_memory.proofs.memory_stores.MemoryStoresStores.open.Goals as goal
use Rattle.es_memory.proofs.memory_stores.MemoryStoresStores.open.Goals.{After-of_counted}

-- the entry of the name
entry : (c : After-of_counted) → Found c.entry_of.new.contents.items c.in_ok-at.at c.index_mut-content.result.now c.args.app.now
entry c = record { is = (c.in_ok-at.ensures {u = tt}).place; within = (c.in_ok-at.ensures {u = tt}).within; entry = c.index_mut-content.ensures.value }

pub returns-clause-opened : goal.returns-clause-opened
returns-clause-opened c =
    c.of_counted.ensures.history ∙ ap Some ((c.in-Some.ensures {u = tt}).history ∙ histories-place _ _ _ _ (entry c) ∙ (λ i. c.entry_of.ensures.histories i c.args.app.now))

pub returns-clause-opened_snapshots : goal.returns-clause-opened_snapshots
returns-clause-opened_snapshots c =
    c.of_counted.ensures.snapshots ∙ ap Some ((c.in-Some.ensures {u = tt}).snapshots ∙ snapshots-place _ _ _ _ (entry c) ∙ (λ i. c.entry_of.ensures.snapshots i c.args.app.now))

pub returns-clause-out : goal.returns-clause-out
returns-clause-out c = λ name.
    flags-set _ _ _ _ _ _ true (entry c) c.take_out.ensures.app (omega (arith, (entry c).within, (c.in_ok-add_flags.ensures {u = tt}).enough, c.len.ensures)) name
    ∙ (λ i. if bytes_eq name c.args.app.now then true else
    (c.add_flags.ensures.same (place_of c.entry_of.new.contents.items name) ∙ c.entry_of.ensures.flags c.args.self.now.out.items name c.args.self.now.flags) i)

pub returns-clause-others : goal.returns-clause-others
returns-clause-others c = λ x.
    ap (λ (h : Name → List Recording). put h c.args.app.now x) (histories-set _ _ _ _ _ (entry c) c.take_out.ensures.app)
    ∙ put-put _ c.args.app.now x _
    ∙ ap (λ (h : Name → List Recording). put h c.args.app.now x) c.entry_of.ensures.histories

pub returns-clause-other_stable : goal.returns-clause-other_stable
returns-clause-other_stable c = λ x.
    ap (λ (h : Name → List Recording). put h c.args.app.now x) (histories-set _ _ _ _ _ (entry c) c.take_out.ensures.app)
    ∙ put-put _ c.args.app.now x _
    ∙ ap (λ (h : Name → List Recording). put h c.args.app.now x) c.entry_of.ensures.histories

pub returns-clause-other_snapshots : goal.returns-clause-other_snapshots
returns-clause-other_snapshots c = λ x.
    ap (λ (h : Name → List Snapshot). put h c.args.app.now x) (snapshots-set _ _ _ _ _ (entry c) c.take_out.ensures.app)
    ∙ put-put _ c.args.app.now x _
    ∙ ap (λ (h : Name → List Snapshot). put h c.args.app.now x) c.entry_of.ensures.snapshots
