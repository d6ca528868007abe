use Rattle.std.proofs.Common.{◌∙◌, ap}
use Rattle.es_memory.specs.Contents.{histories_of, snapshots_of}
use Rattle.es_memory.proofs.ContentsLemmas.{entry-place, histories-end, snapshots-end, flags-end}
use Rattle.es_memory.proofs.memory_stores.entry_of.Goals as goal

pub returns-clause-place : goal.returns-clause-place
returns-clause-place c =
    entry-place _ _ _ _ _ _ _ _ (c.in_ok-push.ensures {u = tt}).items c.as_slice.ensures.value c.as_slice.ensures.len c.len.ensures c.place-at.ensures.place c.place-at.ensures.within c.if-at-len.false (c.in_ok-copy.ensures {u = tt})

pub returns-clause-histories : goal.returns-clause-histories
returns-clause-histories c = ap histories_of (c.in_ok-push.ensures {u = tt}).items ∙ histories-end _ _ c.new.ensures

pub returns-clause-snapshots : goal.returns-clause-snapshots
returns-clause-snapshots c = ap snapshots_of (c.in_ok-push.ensures {u = tt}).items ∙ snapshots-end _ _ c.new-2.ensures

pub returns-clause-flags : goal.returns-clause-flags
returns-clause-flags c = λ flags name few. flags-end _ _ _ flags name (c.in_ok-push.ensures {u = tt}).items few
