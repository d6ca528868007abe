-- What a stop may leave of a recorder's content.
use Rattle.std.specs.Prelude.{List, ◌⊎◌, All, Contains}
use Rattle.es_model.specs.declared.event.Recording.{Recording}
use Rattle.es_model.specs.declared.snapshot.Snapshot.{Snapshot}
use Rattle.es_model.specs.Snapshots.{AreSnapshots}
use Rattle.es_recorder.specs.Stable.{IsPrefix}

-- what a recorder holds: its history, what of it is stable, and the snapshots that it holds or that were put
pub record Content : Type 0 where
  pub stable : List Recording
  pub history : List Recording
  pub snapshots : List Snapshot

-- an image has the stable front and is itself a front of the history, with any of the snapshots, at most one of each version
pub record IsImage (c : Content) (history : List Recording) (snapshots : List Snapshot) : Type 0 where
  pub stable : IsPrefix c.stable history
  pub front : IsPrefix history c.history
  pub any : All (λ s. Contains c.snapshots s) snapshots
  pub once : AreSnapshots snapshots

-- a stop within a call leaves an image of the content before it or after it
abbrev pub IsStopImage : Content → Content → List Recording → List Snapshot → Type 0
IsStopImage before after history snapshots = IsImage before history snapshots ⊎ IsImage after history snapshots
