-- The same law under the name that it had.
pub use Rattle.es_recorder.proofs.HeldLemmas.{put-put}
