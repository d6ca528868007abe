-- What the applications of a run keep.
use Rattle.std.specs.Prelude.{List, [], ◌∷◌, ◌++◌}
use Rattle.es_model.specs.declared.event.Recording.{Recording}
use Rattle.es_model.specs.declared.snapshot.Snapshot.{Snapshot}
use Rattle.es_model.specs.History.{Histories}
use Rattle.es_model.specs.Snapshots.{put_snapshot}
use Rattle.es_model.specs.Values.{Name}
use Rattle.es_recorder.specs.Held.{put}
use Rattle.es_process.specs.Answer.{put_each}

-- the history of each application, and its snapshots in the order in which they were put
pub record Contents : Type 0 where
  pub histories : Histories
  pub snapshots : Name → List Snapshot

abbrev pub contents : Histories → (Name → List Snapshot) → Contents
contents histories snapshots = record { histories = histories; snapshots = snapshots }

-- an application has one recording more
abbrev pub recorded : Contents → Name → Recording → Contents
recorded c app r = contents (put c.histories app (c.histories app ++ r ∷ [])) c.snapshots

-- it has put a snapshot
abbrev pub snapped : Contents → Name → Snapshot → Contents
snapped c app s = contents c.histories (put c.snapshots app (put_snapshot (c.snapshots app) s))

-- it has one recording more, and has put these snapshots after it
abbrev pub added : Contents → Name → Recording → List Snapshot → Contents
added c app r ss = contents (put c.histories app (c.histories app ++ r ∷ [])) (put c.snapshots app (put_each (c.snapshots app) ss))
