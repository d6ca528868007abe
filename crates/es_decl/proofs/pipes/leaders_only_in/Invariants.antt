use Rattle.std.proofs.Common.{◌≡◌, ◌++◌, drop, filter, not}
use Rattle.es_decl.specs.Pairs.{follows}
use Rattle.es_decl.proofs.pipes.leaders_only_in.Given as goal

abbrev pub invariant-loop-leader : goal.invariant-loop-leader
invariant-loop-leader l = filter (λ n. not (follows l.pairs n)) l.leaders ≡ l.names ++ filter (λ n. not (follows l.pairs n)) (drop l.leader-index l.leaders)
