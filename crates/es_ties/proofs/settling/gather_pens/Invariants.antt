use Rattle.std.proofs.Common.{◌≡◌, ◌<◌, ℕ, Some, slice_get}
use Rattle.es_ties.specs.Seen.{Writer, IsWithin}
use Rattle.es_ties.proofs.settling.gather_pens.Given as goal

abbrev pub invariant-loop-k : goal.invariant-loop-k
invariant-loop-k g l = record {
  same : l.pens.items ≡ l.initial.pens.items;
  ties : l.all.ties ≡ l.initial.all.ties;
  kept : IsWithin l.initial.all.seen l.all.seen;
  above : (i : ℕ) (p : Writer _) → i < l.k → slice_get l.initial.pens.items i ≡ Some p → IsWithin p.seen l.all.seen;
}
