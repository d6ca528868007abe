use Rattle.std.proofs.Common.{◌≡◌, ℕ, map, take, slice_get, Some}
use Rattle.es_decl.specs.Pairs.{leaders_in, pairs_of}
use Rattle.es_process.specs.declared.pairs.Pair.{Pair}
use Rattle.es_process.specs.Drains.{IsPairOf, names_of_pair}
use Rattle.es_process.specs.SystemRules.{app_names}
use Rattle.es_process.proofs.pairs.placed_pairs.Given as goal

abbrev pub invariant-loop-pair : goal.invariant-loop-pair
invariant-loop-pair l = record {
  found : l.pair-items ≡ pairs_of l.fn.sys.pipes;
  leaders : l.leaders-inside.items.items ≡ leaders_in (pairs_of l.fn.sys.pipes);
  named : map names_of_pair l.placed.items ≡ take l.pair-index l.pair-items;
  each : (i : ℕ) (p : Pair) → slice_get l.placed.items i ≡ Some p → IsPairOf l.fn.sys (app_names l.fn.sys) p;
}
