use Rattle.std.proofs.Common.{◌≡◌, drop, map}
use Rattle.std.specs.Str.{bytes_eq}
use Rattle.es_decl.specs.Pairs.{gathered, leaders_in}
use Rattle.es_decl.proofs.pipes.leaders_in.Given as goal

abbrev pub invariant-loop-pair : goal.invariant-loop-pair
invariant-loop-pair l = leaders_in l.pairs ≡ gathered bytes_eq l.names (map (λ p. p.0) (drop l.pair-index l.pairs))
