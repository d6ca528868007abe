use Rattle.std.proofs.Common.{◌≡◌, drop}
use Rattle.es_decl.specs.Pairs.{gathered, is_pair, all_neighbours, pairs_of}
use Rattle.es_decl.proofs.pipes.pairs.Given as goal

abbrev pub invariant-loop-pipe : goal.invariant-loop-pipe
invariant-loop-pipe l = pairs_of l.pipe-items ≡ gathered is_pair l.pairs (all_neighbours (drop l.pipe-index l.pipe-items))
