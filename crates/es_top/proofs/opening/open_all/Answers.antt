use Rattle.std.proofs.Common.{◌≡◌, ◌∙◌, List, ap, map, refl, sym, subst}
use Rattle.es_model.specs.declared.declaration.App.{App}
use Rattle.es_model.specs.Values.{Name}
use Rattle.es_process.specs.Standing.{AreDistinct, names_in}
use Rattle.es_process.specs.SystemRules.{app_names}
use Rattle.es_top.specs.Opened.{GrowsBut, IsFrontOfNames}
use Rattle.es_top.proofs.OpeningLemmas.{distinct_front, marked_out, opened_fresh, opened_holds, opened_left}
use Rattle.es_top.proofs.StableLemmas.{given_all, grows_same}
use Rattle.es_top.proofs.opening.open_all.Goals as goal

pub returns-in-Ok-open_each-clause-opened : goal.returns-in-Ok-open_each-clause-opened
returns-in-Ok-open_each-clause-opened g c = opened_holds g.M.R.AggregateRecorder.settled g.M.R.AggregateRecorder.capacity g.M.R.AggregateRecorder.faults (g.M.Stores.out c.args.stores.now) (g.M.Stores.out c.open_each.new.stores) c.open_each.new.opened.items c.open_each.ensures.opened g.M.R.AggregateRecorder.history g.M.R.AggregateRecorder.snapshots
    (g.M.Stores.held c.args.stores.now) (g.M.Stores.held c.open_each.new.stores) (g.M.Stores.snapshots c.args.stores.now) (g.M.Stores.snapshots c.open_each.new.stores) c.open_each.ensures.histories c.open_each.ensures.snapshots

pub returns-in-Ok-open_each-clause-histories : goal.returns-in-Ok-open_each-clause-histories
returns-in-Ok-open_each-clause-histories g c = c.open_each.ensures.histories.each

pub returns-in-Ok-open_each-clause-snapshots : goal.returns-in-Ok-open_each-clause-snapshots
returns-in-Ok-open_each-clause-snapshots g c = c.open_each.ensures.snapshots.each

pub returns-in-Ok-open_each-clause-fresh : goal.returns-in-Ok-open_each-clause-fresh
returns-in-Ok-open_each-clause-fresh g c = opened_fresh g.M.R.AggregateRecorder.settled g.M.R.AggregateRecorder.capacity g.M.R.AggregateRecorder.faults (g.M.Stores.out c.args.stores.now) (g.M.Stores.out c.open_each.new.stores) c.open_each.new.opened.items c.open_each.ensures.opened

pub returns-in-Err-clause-refused : goal.returns-in-Err-clause-refused
returns-in-Err-clause-refused g c =
    opened_left g.M.R.AggregateRecorder.settled g.M.R.AggregateRecorder.capacity g.M.R.AggregateRecorder.faults (g.M.Stores.out c.args.stores.now) (g.M.Stores.out c.open_each.new.stores) c.open_each.new.opened.items c.open_each.ensures.opened g.M.R.AggregateRecorder.history (g.M.Stores.held c.args.stores.now) (g.M.Stores.held c.open_each.new.stores) c.open_each.ensures.histories (g.M.Stores.held c.close_all.new.stores) c.close_all.ensures.closed
    (distinct_front (names_in c.open_each.new.opened.items) (map (λ (a : App). a.name) c.as_slice.result.now) c.open_each.ensures.front (subst (λ (apps : List App). AreDistinct (map (λ (a : App). a.name) apps)) (sym c.as_slice.ensures) c.requires))

pub returns-in-Err-clause-refused_snapshots : goal.returns-in-Err-clause-refused_snapshots
returns-in-Err-clause-refused_snapshots g c =
    opened_left g.M.R.AggregateRecorder.settled g.M.R.AggregateRecorder.capacity g.M.R.AggregateRecorder.faults (g.M.Stores.out c.args.stores.now) (g.M.Stores.out c.open_each.new.stores) c.open_each.new.opened.items c.open_each.ensures.opened g.M.R.AggregateRecorder.snapshots (g.M.Stores.snapshots c.args.stores.now) (g.M.Stores.snapshots c.open_each.new.stores) c.open_each.ensures.snapshots (g.M.Stores.snapshots c.close_all.new.stores) c.close_all.ensures.closed_snapshots
    (distinct_front (names_in c.open_each.new.opened.items) (map (λ (a : App). a.name) c.as_slice.result.now) c.open_each.ensures.front (subst (λ (apps : List App). AreDistinct (map (λ (a : App). a.name) apps)) (sym c.as_slice.ensures) c.requires))

pub close_all-requires : goal.close_all-requires
close_all-requires g c = record { front = subst (λ (apps : List App). IsFrontOfNames (names_in c.open_each.new.opened.items) (map (λ (a : App). a.name) apps)) (c.as_slice.ensures ∙ sym c.as_slice-in-Err.ensures) c.open_each.ensures.front }

pub returns-in-Ok-open_each-clause-elsewhere_stable : goal.returns-in-Ok-open_each-clause-elsewhere_stable
returns-in-Ok-open_each-clause-elsewhere_stable g c =
    let named : names_in c.open_each.new.opened.items ≡ app_names c.args.sys.now = (c.in-Ok-open_each.ensures {u = tt}).named ∙ ap (λ (apps : List App). map (λ (a : App). a.name) apps) c.as_slice.ensures in
    subst (λ (ns : List Name). GrowsBut ns (g.M.Stores.held c.args.stores.now) (g.M.Stores.stable c.args.stores.now) (g.M.Stores.stable c.open_each.new.stores)) named c.open_each.ensures.stable

pub returns-in-Err-clause-refused_stable : goal.returns-in-Err-clause-refused_stable
returns-in-Err-clause-refused_stable g c =
    given_all g.M.R.AggregateRecorder.history g.M.R.AggregateRecorder.stable g.M.R.AggregateRecorder.settled g.met.M.R.AggregateRecorder.settled_is_whole g.M.R.AggregateRecorder.capacity g.M.R.AggregateRecorder.faults (g.M.Stores.out c.args.stores.now) (g.M.Stores.out c.open_each.new.stores) c.open_each.new.opened.items
    (g.M.Stores.held c.args.stores.now) (g.M.Stores.held c.open_each.new.stores) (g.M.Stores.stable c.args.stores.now) (g.M.Stores.stable c.open_each.new.stores) (g.M.Stores.stable c.close_all.new.stores) (g.met.M.Stores.stable_is_front c.args.stores.now) c.open_each.ensures.opened c.open_each.ensures.histories c.open_each.ensures.stable
    (distinct_front (names_in c.open_each.new.opened.items) (map (λ (a : App). a.name) c.as_slice.result.now) c.open_each.ensures.front (subst (λ (apps : List App). AreDistinct (map (λ (a : App). a.name) apps)) (sym c.as_slice.ensures) c.requires))
    (marked_out g.M.R.AggregateRecorder.settled g.M.R.AggregateRecorder.capacity g.M.R.AggregateRecorder.faults (g.M.Stores.out c.args.stores.now) (g.M.Stores.out c.open_each.new.stores) c.open_each.new.opened.items c.open_each.ensures.opened) c.close_all.ensures.closed_stable

pub returns-in_default-clause-refused_stable : goal.returns-in_default-clause-refused_stable
returns-in_default-clause-refused_stable g c = grows_same (g.M.Stores.held c.args.stores.now) (g.M.Stores.stable c.args.stores.now) (g.M.Stores.stable c.args.stores.now) refl
