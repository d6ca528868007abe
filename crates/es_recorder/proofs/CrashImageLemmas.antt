-- The least and the most that a stop may leave.
use Rattle.std.proofs.Common.{[], sym, append-nil, arith}
use Rattle.std.proofs.lemmas.List.Elements.{All-nil, All-contains_itself}
use Rattle.std.specs.Prelude.{Contains}
use Rattle.es_model.specs.Snapshots.{AreSnapshots, IsSmallSnapshot}
use Rattle.es_recorder.specs.CrashImage.{Content, IsImage}
use Rattle.es_recorder.specs.Stable.{IsPrefix}

-- all of it
pub whole-image : (c : Content) → IsPrefix c.stable c.history → AreSnapshots c.snapshots → IsImage c c.history c.snapshots
whole-image c front once = record { stable = front; front = ([], sym (append-nil c.history)); any = All-contains_itself c.snapshots; once = once }

-- what is stable, and no snapshot
pub stable-image : (c : Content) → IsPrefix c.stable c.history → IsImage c c.stable []
stable-image c front = record {
  stable = ([], sym (append-nil c.stable));
  front = front;
  any = All-nil (Contains c.snapshots);
  once = record { once = λ i j d before within. absurd (omega arith); small = All-nil IsSmallSnapshot };
}
