use Rattle.es_top.proofs.OpeningLemmas.{given_back, marked_out_at}
use Rattle.es_top.proofs.StableLemmas.{given_whole, grows_same}
use Rattle.es_top.proofs.opening.open_application.Goals as goal

pub returns-in-Err-begin_application-clause-refused : goal.returns-in-Err-begin_application-clause-refused
returns-in-Err-begin_application-clause-refused g c =
    let opened = c.in-Ok.ensures {u = tt} in
    given_back c.args.name.now _ _ _ _ _ c.open.ensures.others opened.opened (marked_out_at _ _ c.args.name.now opened.out) (c.in-Err-begin_application.ensures {u = tt}).closed

pub returns-in-Err-begin_application-clause-refused_snapshots : goal.returns-in-Err-begin_application-clause-refused_snapshots
returns-in-Err-begin_application-clause-refused_snapshots g c =
    let opened = c.in-Ok.ensures {u = tt} in
    given_back c.args.name.now _ _ _ _ _ c.open.ensures.other_snapshots opened.opened_snapshots (marked_out_at _ _ c.args.name.now opened.out) (c.in-Err-begin_application.ensures {u = tt}).closed_snapshots

pub returns-in-Err-begin_application-clause-refused_stable : goal.returns-in-Err-begin_application-clause-refused_stable
returns-in-Err-begin_application-clause-refused_stable g c =
    let opened = c.in-Ok.ensures {u = tt} in
    given_whole c.args.name.now (g.M.Stores.held c.args.stores.now) (g.M.Stores.stable c.args.stores.now) (g.M.Stores.stable c.open.new.self) (g.M.Stores.stable c.begin_application.new.stores) (g.M.R.AggregateRecorder.history c.in-Ok.recorder) (g.M.R.AggregateRecorder.stable c.in-Ok.recorder) _
    (g.met.M.Stores.stable_is_front c.args.stores.now) c.open.ensures.other_stable opened.opened (g.met.M.R.AggregateRecorder.settled_is_whole c.in-Ok.recorder opened.settled) (marked_out_at _ _ c.args.name.now opened.out) (c.in-Err-begin_application.ensures {u = tt}).closed_stable

pub returns-in-Err-clause-refused_stable : goal.returns-in-Err-clause-refused_stable
returns-in-Err-clause-refused_stable g c = grows_same (g.M.Stores.held c.args.stores.now) (g.M.Stores.stable c.args.stores.now) (g.M.Stores.stable c.open.new.self) (c.in-Err.ensures {u = tt}).refused_stable
