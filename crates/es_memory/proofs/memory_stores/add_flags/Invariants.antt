use Rattle.std.proofs.Common.{◌≡◌, ◌≤◌, ◌-◌, ℕ, false, length, slice_index_or}
use Rattle.es_memory.proofs.memory_stores.add_flags.Given as goal

abbrev pub invariant-loop-flags : goal.invariant-loop-flags
invariant-loop-flags l = record {
  same : (at : ℕ) → slice_index_or l.flags.items at false ≡ slice_index_or l.initial.flags.items at false;
  bound : length l.initial.flags.items ≤ l.count → length l.flags.items ≤ l.count;
}

abbrev pub decreases-loop-flags : goal.decreases-loop-flags
decreases-loop-flags l = l.count - length l.flags.items
