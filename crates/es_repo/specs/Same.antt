-- What a decision leaves of a recorder.
use Rattle.std.specs.Prelude.{ℕ, ◌≡◌, Bool, List, Option}
use Rattle.es_model.specs.declared.event.Recording.{Recording}
use Rattle.es_model.specs.declared.snapshot.Snapshot.{Snapshot}

-- its history `h`, whether all of it is stable, `w`, its snapshots `s` and its capacity `c` are as they were
pub record IsSameRecorder {R : Type 0} (h : R → Option (List Recording)) (w : R → Bool) (s : R → Option (List Snapshot)) (c : R → ℕ) (old new : R) : Type 0 where
  pub history : h new ≡ h old
  pub settled : w new ≡ w old
  pub snapshots : s new ≡ s old
  pub capacity : c new ≡ c old
