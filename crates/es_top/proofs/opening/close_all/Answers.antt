use Rattle.std.proofs.Common.{◌≡◌, length, rules}
use Rattle.es_top.proofs.OpeningLemmas.{closing_none, closing_more, front_before, leave_all, named_there}
use Rattle.es_top.proofs.StableLemmas.{fronts_all}
use Rattle.es_top.proofs.opening.close_all.Goals as goal

pub loop-app-init : goal.loop-app-init
loop-app-init g c = record { front = c.requires.front; closing = closing_none g.M.R.AggregateRecorder.history g.M.R.AggregateRecorder.stable g.M.R.AggregateRecorder.snapshots g.M.R.AggregateRecorder.faults c.args.apps.items (g.M.Stores.held c.args.stores.now) (g.M.Stores.stable c.args.stores.now) (g.M.Stores.snapshots c.args.stores.now) (g.M.Stores.out c.args.stores.now) (g.M.Stores.faults c.args.stores.now) }

pub loop-app-preserved : goal.loop-app-preserved
loop-app-preserved g c = record {
  front = front_before c.args.declared.now c.loop-app.apps.items c.pop.new.self.items c.in-Some.app c.loop-app.invariant.front (c.in-Some.ensures {u = tt}).items;
  closing = closing_more g.M.R.AggregateRecorder.history g.M.R.AggregateRecorder.stable g.M.R.AggregateRecorder.snapshots g.M.R.AggregateRecorder.faults c.args.apps.items c.loop-app.apps.items c.pop.new.self.items c.in-Some.app (g.M.Stores.held c.args.stores.now) (g.M.Stores.held c.loop-app.stores) (g.M.Stores.stable c.args.stores.now) (g.M.Stores.stable c.loop-app.stores) (g.M.Stores.snapshots c.args.stores.now) (g.M.Stores.snapshots c.loop-app.stores)
      (g.M.Stores.out c.args.stores.now) (g.M.Stores.out c.loop-app.stores) (g.M.Stores.faults c.args.stores.now) (g.M.Stores.faults c.loop-app.stores) c.loop-app.invariant.closing (c.in-Some.ensures {u = tt}).items
      (g.M.Stores.held c.close_application.new.stores) (g.M.Stores.stable c.close_application.new.stores) (g.M.Stores.snapshots c.close_application.new.stores) (g.M.Stores.out c.close_application.new.stores) (g.M.Stores.faults c.close_application.new.stores) c.close_application.ensures.closed c.close_application.ensures.closed_snapshots c.close_application.ensures.closed_stable c.close_application.ensures.in_again
      c.close_application.ensures.later c.close_application.ensures.risen;
}

pub returns-clause-closed : goal.returns-clause-closed
returns-clause-closed g c =
    let none : length c.loop-app.apps.items ≡ 0 = search rules in
    leave_all g.M.R.AggregateRecorder.history c.args.apps.items c.loop-app.apps.items (g.M.Stores.out c.args.stores.now) (g.M.Stores.held c.args.stores.now) (g.M.Stores.held c.loop-app.stores) none c.loop-app.invariant.closing.holds

pub returns-clause-closed_snapshots : goal.returns-clause-closed_snapshots
returns-clause-closed_snapshots g c =
    let none : length c.loop-app.apps.items ≡ 0 = search rules in
    leave_all g.M.R.AggregateRecorder.snapshots c.args.apps.items c.loop-app.apps.items (g.M.Stores.out c.args.stores.now) (g.M.Stores.snapshots c.args.stores.now) (g.M.Stores.snapshots c.loop-app.stores) none c.loop-app.invariant.closing.keeps

pub returns-clause-closed_stable : goal.returns-clause-closed_stable
returns-clause-closed_stable g c =
    let none : length c.loop-app.apps.items ≡ 0 = search rules in
    fronts_all g.M.R.AggregateRecorder.stable c.args.apps.items c.loop-app.apps.items c.loop-app.invariant.closing.closed (g.M.Stores.out c.args.stores.now) (g.M.Stores.stable c.args.stores.now) (g.M.Stores.stable c.loop-app.stores) none c.loop-app.invariant.closing.parts c.loop-app.invariant.closing.fronts

pub close_application-requires : goal.close_application-requires
close_application-requires g c =
    let last : c.len.result ≡ length c.pop.new.self.items = search rules in
    named_there c.args.declared.now c.loop-app.apps.items c.pop.new.self.items c.in-Some.app c.len.result c.index-declared-len.result c.loop-app.invariant.front (c.in-Some.ensures {u = tt}).items last
