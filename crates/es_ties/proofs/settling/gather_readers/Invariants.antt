use Rattle.std.proofs.Common.{◌≡◌, ◌<◌, ℕ, Some, slice_get}
use Rattle.es_ties.specs.Seen.{Witness, IsWithin}
use Rattle.es_ties.proofs.settling.gather_readers.Given as goal

abbrev pub invariant-loop-k : goal.invariant-loop-k
invariant-loop-k g l = record {
  same : l.readers.items ≡ l.initial.readers.items;
  ties : l.all.ties ≡ l.initial.all.ties;
  kept : IsWithin l.initial.all.seen l.all.seen;
  above : (i : ℕ) (p : Witness _) → i < l.k → slice_get l.initial.readers.items i ≡ Some p → IsWithin p.seen l.all.seen;
}
