use Rattle.std.proofs.Common.{◌≡◌, ◌++◌, All, map, take, drop}
use Rattle.es_model.specs.History.{IsFormed}
use Rattle.es_world.proofs.StopLemmas.{settled}
use Rattle.es_world.proofs.stopping.settle_each.Given as goal

abbrev pub invariant-loop-held : goal.invariant-loop-held
invariant-loop-held l = record {
  settled : l.histories ≡ map (settled l.down l.kept) (take l.held-index l.initial.histories) ++ drop l.held-index l.initial.histories;
  formed : All (λ a. IsFormed a.recordings) l.histories;
}
