use Rattle.std.proofs.Common.{◌≡◌, ◌<◌, ◌≤◌, ℕ, Some, slice_get}
use mathlib.Core.List.{IsPrefix}
use Rattle.es_ties.specs.Seen.{Writer, of_log, ArePensOf}
use Rattle.es_ties.proofs.settling.spread.Given as goal

abbrev pub invariant-loop-k : goal.invariant-loop-k
invariant-loop-k g l = record {
  same : l.all ≡ l.initial.all;
  ties : ArePensOf l.ties l.pens.items;
  rest : (i : ℕ) → l.k ≤ i → slice_get l.pens.items i ≡ slice_get l.initial.pens.items i;
  above : (i : ℕ) (p : Writer _) → i < l.k → slice_get l.initial.pens.items i ≡ Some p → IsPrefix (of_log l.initial.all.seen p.log) (of_log p.seen p.log);
}
