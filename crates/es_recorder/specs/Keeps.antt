-- What a call leaves alone of what a recorder tells: its history `h`, the stable front `f` of it, whether that is all of it, `w`, its snapshots `s`, how many events `n` it has handed out, and its capacity `c`.
use Rattle.std.specs.Prelude.{◌≡◌, ℕ, Bool, List, Option, Result}
use Rattle.es_model.specs.declared.event.Recording.{Recording}
use Rattle.es_model.specs.declared.memory.CallFault.{CallFault}
use Rattle.es_model.specs.declared.snapshot.Snapshot.{Snapshot}
use Rattle.es_recorder.specs.Stable.{KeepsStable}

-- all of it
pub record Keeps {R T : Type 0} (h f : R → Option (List Recording)) (w : R → Bool) (s : R → Option (List Snapshot)) (n : R → Option ℕ) (c : R → ℕ) (old new : R) (result : Result T CallFault) : Type 0 where
  pub history : h new ≡ h old
  pub stable : KeepsStable (f old) (f new) result
  pub settled : w new ≡ w old
  pub snapshots : s new ≡ s old
  pub selected : n new ≡ n old
  pub capacity : c new ≡ c old

-- all but how many events were handed out
pub record KeepsHeld {R T : Type 0} (h f : R → Option (List Recording)) (w : R → Bool) (s : R → Option (List Snapshot)) (c : R → ℕ) (old new : R) (result : Result T CallFault) : Type 0 where
  pub history : h new ≡ h old
  pub stable : KeepsStable (f old) (f new) result
  pub settled : w new ≡ w old
  pub snapshots : s new ≡ s old
  pub capacity : c new ≡ c old

-- all but the snapshots
pub record KeepsRecordings {R T : Type 0} (h f : R → Option (List Recording)) (w : R → Bool) (n : R → Option ℕ) (c : R → ℕ) (old new : R) (result : Result T CallFault) : Type 0 where
  pub history : h new ≡ h old
  pub stable : KeepsStable (f old) (f new) result
  pub settled : w new ≡ w old
  pub selected : n new ≡ n old
  pub capacity : c new ≡ c old

-- all but the history and its stable front
pub record KeepsSnapshots {R : Type 0} (s : R → Option (List Snapshot)) (n : R → Option ℕ) (c : R → ℕ) (old new : R) : Type 0 where
  pub snapshots : s new ≡ s old
  pub selected : n new ≡ n old
  pub capacity : c new ≡ c old
