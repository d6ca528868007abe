use Rattle.std.proofs.Common.{List, [], ◌∷◌, ◌++◌, ◌+◌, length, map, drop, sym, ap, subst, ◌∙◌, arith, length-append}
use Rattle.es_model.specs.Values.{Name}
use Rattle.es_process.specs.Standing.{names_in}
use Rattle.es_top.specs.Opened.{AreOpened, AreHandedOut, GrowsBut}
use Rattle.es_top.proofs.OpeningLemmas.{names_last, names_more, opened_more, handed_more, handed_still}
use Rattle.es_top.proofs.StableLemmas.{grows_more, grows_refused}
use Rattle.es_top.proofs.opening.open_each.Goals as goal

pub loop-app-preserved : goal.loop-app-preserved
loop-app-preserved g c =
    let one = c.in_ok-application.ensures {u = tt} in
    record {
      opened = subst (AreOpened g.M.R.AggregateRecorder.settled g.M.R.AggregateRecorder.capacity g.M.R.AggregateRecorder.faults (g.M.Stores.out c.args.stores.now) (g.M.Stores.out c.open_application.new.stores)) (sym c.push_reserved.ensures.items)
          (opened_more g.M.R.AggregateRecorder.settled g.M.R.AggregateRecorder.capacity g.M.R.AggregateRecorder.faults (g.M.Stores.out c.args.stores.now) (g.M.Stores.out c.loop-app.stores) c.loop-app.opened.items c.in_ok-application.application c.app-item.result.name c.loop-app.invariant.opened one.named one.was_in (g.M.Stores.out c.open_application.new.stores) one.limited one.out);
      histories = subst (AreHandedOut g.M.R.AggregateRecorder.history (g.M.Stores.held c.args.stores.now) (g.M.Stores.held c.open_application.new.stores)) (sym c.push_reserved.ensures.items)
          (handed_more g.M.R.AggregateRecorder.settled g.M.R.AggregateRecorder.capacity g.M.R.AggregateRecorder.faults (g.M.Stores.out c.args.stores.now) (g.M.Stores.out c.loop-app.stores) c.loop-app.opened.items c.in_ok-application.application c.app-item.result.name c.loop-app.invariant.opened one.named one.was_in g.M.R.AggregateRecorder.history (g.M.Stores.held c.args.stores.now) (g.M.Stores.held c.loop-app.stores) (g.M.Stores.held c.open_application.new.stores) c.loop-app.invariant.histories one.opened one.others);
      snapshots = subst (AreHandedOut g.M.R.AggregateRecorder.snapshots (g.M.Stores.snapshots c.args.stores.now) (g.M.Stores.snapshots c.open_application.new.stores)) (sym c.push_reserved.ensures.items)
          (handed_more g.M.R.AggregateRecorder.settled g.M.R.AggregateRecorder.capacity g.M.R.AggregateRecorder.faults (g.M.Stores.out c.args.stores.now) (g.M.Stores.out c.loop-app.stores) c.loop-app.opened.items c.in_ok-application.application c.app-item.result.name c.loop-app.invariant.opened one.named one.was_in g.M.R.AggregateRecorder.snapshots (g.M.Stores.snapshots c.args.stores.now) (g.M.Stores.snapshots c.loop-app.stores) (g.M.Stores.snapshots c.open_application.new.stores) c.loop-app.invariant.snapshots one.opened_snapshots one.other_snapshots);
      stable = subst (λ (ns : List Name). GrowsBut ns (g.M.Stores.held c.args.stores.now) (g.M.Stores.stable c.args.stores.now) (g.M.Stores.stable c.open_application.new.stores)) (sym (ap names_in c.push_reserved.ensures.items ∙ names_last c.loop-app.opened.items c.in_ok-application.application ∙ ap (λ (n : Name). names_in c.loop-app.opened.items ++ n ∷ []) one.named))
          (grows_more (names_in c.loop-app.opened.items) c.app-item.result.name (g.M.Stores.held c.args.stores.now) (g.M.Stores.stable c.args.stores.now) (g.M.Stores.stable c.loop-app.stores) (g.M.Stores.stable c.open_application.new.stores) c.loop-app.invariant.stable one.other_stable);
      names = ap (λ (ns : List Name). ns ++ map (λ a. a.name) (drop (c.loop-app.app-index + 1) c.args.apps.now)) (ap names_in c.push_reserved.ensures.items ∙ names_last c.loop-app.opened.items c.in_ok-application.application)
          ∙ names_more c.args.apps.now c.loop-app.app-index c.app-item.result (names_in c.loop-app.opened.items) c.in_ok-application.application.name (omega arith) c.app-item.is one.named c.loop-app.invariant.names;
      counted = omega (arith, ap length c.push_reserved.ensures.items, length-append c.loop-app.opened.items (c.in_ok-application.application ∷ []), c.loop-app.invariant.counted);
      room = omega (arith, c.push_reserved.ensures.capacity, c.loop-app.invariant.room);
      later = omega (arith, c.open_application.ensures.cause.later, c.loop-app.invariant.later);
    }

pub returns-in_err-application-clause-histories : goal.returns-in_err-application-clause-histories
returns-in_err-application-clause-histories g c = handed_still g.M.R.AggregateRecorder.history (g.M.Stores.held c.args.stores.now) (g.M.Stores.held c.loop-app.stores) _ c.loop-app.opened.items c.loop-app.invariant.histories (c.in_err-application.ensures {u = tt}).refused

pub returns-in_err-application-clause-snapshots : goal.returns-in_err-application-clause-snapshots
returns-in_err-application-clause-snapshots g c = handed_still g.M.R.AggregateRecorder.snapshots (g.M.Stores.snapshots c.args.stores.now) (g.M.Stores.snapshots c.loop-app.stores) _ c.loop-app.opened.items c.loop-app.invariant.snapshots (c.in_err-application.ensures {u = tt}).refused_snapshots

pub returns-in_err-application-clause-stable : goal.returns-in_err-application-clause-stable
returns-in_err-application-clause-stable g c = grows_refused g.M.R.AggregateRecorder.history (g.M.Stores.held c.args.stores.now) (g.M.Stores.held c.loop-app.stores) (g.M.Stores.stable c.args.stores.now) (g.M.Stores.stable c.loop-app.stores) (g.M.Stores.stable c.open_application.new.stores)
    c.loop-app.opened.items c.loop-app.invariant.histories c.loop-app.invariant.stable (c.in_err-application.ensures {u = tt}).refused_stable
