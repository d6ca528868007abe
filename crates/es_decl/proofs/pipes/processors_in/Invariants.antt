use Rattle.std.proofs.Common.{◌≡◌, ◌++◌, drop, filter}
use Rattle.es_decl.specs.Pairs.{follows}
use Rattle.es_decl.proofs.pipes.processors_in.Given as goal

abbrev pub invariant-loop-leader : goal.invariant-loop-leader
invariant-loop-leader l = filter (λ n. follows l.pairs n) l.leaders ≡ l.names ++ filter (λ n. follows l.pairs n) (drop l.leader-index l.leaders)
