use Rattle.std.proofs.Common.{◌≡◌, ◌++◌, drop}
use Rattle.es_decl.specs.Pairs.{followers_of_in}
use Rattle.es_decl.proofs.pipes.followers_of_in.Given as goal

abbrev pub invariant-loop-pair : goal.invariant-loop-pair
invariant-loop-pair l = followers_of_in l.pairs l.leader ≡ l.names ++ followers_of_in (drop l.pair-index l.pairs) l.leader
