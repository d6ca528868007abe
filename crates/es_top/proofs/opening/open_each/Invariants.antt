use Rattle.std.proofs.Common.{◌≡◌, ◌≤◌, ◌++◌, length, map, drop, vec_capacity}
use Rattle.es_process.specs.Standing.{names_in}
use Rattle.es_top.specs.Opened.{AreOpened, AreHandedOut, GrowsBut}
use Rattle.es_top.proofs.opening.open_each.Given as goal

abbrev pub invariant-loop-app : goal.invariant-loop-app
invariant-loop-app g l = record {
  opened : AreOpened g.M.R.AggregateRecorder.settled g.M.R.AggregateRecorder.capacity g.M.R.AggregateRecorder.faults (g.M.Stores.out l.initial.stores) (g.M.Stores.out l.stores) l.opened.items;
  histories : AreHandedOut g.M.R.AggregateRecorder.history (g.M.Stores.held l.initial.stores) (g.M.Stores.held l.stores) l.opened.items;
  snapshots : AreHandedOut g.M.R.AggregateRecorder.snapshots (g.M.Stores.snapshots l.initial.stores) (g.M.Stores.snapshots l.stores) l.opened.items;
  stable : GrowsBut (names_in l.opened.items) (g.M.Stores.held l.initial.stores) (g.M.Stores.stable l.initial.stores) (g.M.Stores.stable l.stores);
  names : names_in l.opened.items ++ map (λ a. a.name) (drop l.app-index l.apps) ≡ map (λ a. a.name) l.apps;
  counted : length l.opened.items ≡ l.app-index;
  room : length l.apps ≤ vec_capacity l.opened;
  later : g.M.Stores.faults l.initial.stores ≤ g.M.Stores.faults l.stores;
}
