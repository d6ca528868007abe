use Rattle.std.proofs.Common.{length, map}
use Rattle.es_process.specs.Standing.{names_in}
use Rattle.es_top.specs.Opened.{IsFrontOfNames}
use Rattle.es_top.proofs.OpeningLemmas.{Closing}
use Rattle.es_top.proofs.opening.close_all.Given as goal

abbrev pub invariant-loop-app : goal.invariant-loop-app
invariant-loop-app g l = record {
  front : IsFrontOfNames (names_in l.apps.items) (map (λ a. a.name) l.declared);
  closing : Closing g.M.R.AggregateRecorder.history g.M.R.AggregateRecorder.stable g.M.R.AggregateRecorder.snapshots g.M.R.AggregateRecorder.faults l.initial.apps.items l.apps.items (g.M.Stores.held l.initial.stores) (g.M.Stores.held l.stores) (g.M.Stores.stable l.initial.stores) (g.M.Stores.stable l.stores) (g.M.Stores.snapshots l.initial.stores) (g.M.Stores.snapshots l.stores) (g.M.Stores.out l.initial.stores) (g.M.Stores.out l.stores) (g.M.Stores.faults l.initial.stores) (g.M.Stores.faults l.stores);
}

abbrev pub decreases-loop-app : goal.decreases-loop-app
decreases-loop-app g l = length l.apps.items
