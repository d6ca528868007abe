use Rattle.std.proofs.Common.{◌≡◌, ◌∙◌, List, [], append-nil, false, map, None, Some, refl, sym, ap, subst}
use Rattle.es_model.specs.declared.declaration.App.{App}
use Rattle.es_model.specs.declared.snapshot.Snapshot.{Snapshot}
use Rattle.es_model.specs.History.{Histories}
use Rattle.es_model.specs.Values.{Name}
use Rattle.es_decl.proofs.CheckedSystemLemmas.{pair-declared, pair-differs}
use Rattle.es_process.specs.Contents.{Contents}
use Rattle.es_process.specs.SingleThread.{is_among}
use Rattle.es_process.specs.Standing.{AreDistinct, HoldContents, names_in}
use Rattle.es_process.specs.SystemRules.{app_names, rules_of}
use Rattle.es_process.proofs.DeclaredLemmas.{distinct-apps}
use Rattle.es_top.specs.Opened.{TellEach}
use Rattle.es_top.specs.Top.{StoresTell}
use Rattle.es_top.proofs.InputLemmas.{some_readings}
use Rattle.es_top.proofs.StableLemmas.{closed_within, fronts_of, restarts_refused}
use Rattle.es_top.proofs.TopLemmas.{made_none, marked_out, of_input, of_then, run_stands, running_result, stands_held, stands_some, still_told, closed_told, in_again, some_failed, rose_later}
use Rattle.es_top.proofs.top.run_system.Given as given
use Rattle.es_top.proofs.top.run_system.Goals as goal

pub open_all-requires : goal.open_all-requires
open_all-requires g c = distinct-apps c.args.sys c.requires

pub run-sys-requires : goal.run-sys-requires
run-sys-requires g c = record { checked = c.requires; named = (c.in-Ok.ensures {u = tt}).named; distinct = subst AreDistinct (sym (c.in-Ok.ensures {u = tt}).named) (distinct-apps c.args.sys c.requires) }

pub close_all-requires : goal.close_all-requires
close_all-requires g c = record {
  front = ([], append-nil _ ∙ c.run-sys.ensures.same.names ∙ (c.in-Ok.ensures {u = tt}).named ∙ ap app_names (sym c.run-sys.ensures.system) ∙ sym (ap (λ (apps : List App). map (λ (a : App). a.name) apps) c.as_slice.ensures));
}

-- the applications that are closed are those of the system
names_are : (g : given.Over) (c : goal.After-drop-sys-in-Ok-2 g) → names_in c.run-sys.result.1.items ≡ app_names c.args.sys
names_are g c = c.run-sys.ensures.same.names ∙ (c.in-Ok.ensures {u = tt}).named

-- the stores hold what the applications told that are closed, and elsewhere what they held
closed_histories : (g : given.Over) (c : goal.After-drop-sys-in-Ok-2 g) (base h : Histories) → g.M.Stores.held c.args.stores.now ≡ Some base → TellEach g.M.R.AggregateRecorder.history h c.run-sys.result.1.items → ((n : Name) → is_among n (names_in c.run-sys.result.1.items) ≡ false → h n ≡ base n) → g.M.Stores.held c.close_all.new.stores ≡ Some h
closed_histories g c base h told tells others =
    let open_is = c.in-Ok.ensures {u = tt} in
    closed_told g.M.R.AggregateRecorder.history c.run-sys.result.1.items (app_names c.args.sys) (g.M.Stores.out c.args.stores.now) (g.M.Stores.out c.open_all.new.stores) base h (g.M.Stores.held c.open_all.new.stores) (g.M.Stores.held c.close_all.new.stores) c.close_all.ensures.closed (names_are g c) (distinct-apps c.args.sys c.requires) open_is.out
    (open_is.elsewhere base told) tells others

closed_snapshots : (g : given.Over) (c : goal.After-drop-sys-in-Ok-2 g) (base q : Name → List Snapshot) → g.M.Stores.snapshots c.args.stores.now ≡ Some base → TellEach g.M.R.AggregateRecorder.snapshots q c.run-sys.result.1.items → ((n : Name) → is_among n (names_in c.run-sys.result.1.items) ≡ false → q n ≡ base n) → g.M.Stores.snapshots c.close_all.new.stores ≡ Some q
closed_snapshots g c base q told tells others =
    let open_is = c.in-Ok.ensures {u = tt} in
    closed_told g.M.R.AggregateRecorder.snapshots c.run-sys.result.1.items (app_names c.args.sys) (g.M.Stores.out c.args.stores.now) (g.M.Stores.out c.open_all.new.stores) base q (g.M.Stores.snapshots c.open_all.new.stores) (g.M.Stores.snapshots c.close_all.new.stores) c.close_all.ensures.closed_snapshots (names_are g c) (distinct-apps c.args.sys c.requires) open_is.out
    (open_is.elsewhere_snapshots base told) tells others

closed_so : (g : given.Over) (c : goal.After-drop-sys-in-Ok-2 g) (opening left : Contents) → StoresTell opening (g.M.Stores.held c.args.stores.now) (g.M.Stores.snapshots c.args.stores.now) → HoldContents g.M.R.AggregateRecorder.history g.M.R.AggregateRecorder.stable g.M.R.AggregateRecorder.snapshots opening c.run-sys.result.1.items left → StoresTell left (g.M.Stores.held c.close_all.new.stores) (g.M.Stores.snapshots c.close_all.new.stores)
closed_so g c opening left told held = record {
  histories = closed_histories g c opening.histories left.histories told.histories (λ i a at. (held.each i a at).told) held.elsewhere.histories;
  snapshots = closed_snapshots g c opening.snapshots left.snapshots told.snapshots (λ i a at. (held.each i a at).told_snapshots) held.elsewhere.snapshots;
}

pub returns-in-Ok-clause-stands : goal.returns-in-Ok-clause-stands
returns-in-Ok-clause-stands g c = of_then c.run-sys.ensures.traced (λ i rest r runs h told.
    stands_held c.args.sys i rest r h _ _ _ _ (λ k held. closed_so g c h k told held) c.run-sys.result.2 (run_stands c.args.sys h r i (HoldContents g.M.R.AggregateRecorder.history g.M.R.AggregateRecorder.stable g.M.R.AggregateRecorder.snapshots h c.run-sys.result.1.items) (g.T.Sink.written c.args.out.now) (g.T.Sink.written c.run-sys.new.out) rest c.run-sys.result.2 (runs h ((c.in-Ok.ensures {u = tt}).opened (Some r) r h refl told))))

-- whatever the end is, the applications held something over the opening, and that is what the stores hold now
pub returns-in-Ok-clause-restarts : goal.returns-in-Ok-clause-restarts
returns-in-Ok-clause-restarts g c = λ h fronts told surely within.
    let open_is = c.in-Ok.ensures {u = tt} in
    let x = c.run-sys.ensures.traced in
    let some = stands_some c.args.sys x.input x.rest x.readings h _ _ _ c.run-sys.result.2 (run_stands c.args.sys h x.readings x.input (HoldContents g.M.R.AggregateRecorder.history g.M.R.AggregateRecorder.stable g.M.R.AggregateRecorder.snapshots h c.run-sys.result.1.items) (g.T.Sink.written c.args.out.now) (g.T.Sink.written c.run-sys.new.out) x.rest c.run-sys.result.2
    (x.holds h (open_is.opened (Some x.readings) x.readings h refl told))) in
    let opened = open_is.elsewhere_stable h.histories fronts told.histories surely in
    let closed = c.close_all.ensures.closed_stable opened.fronts (subst AreDistinct (sym (names_are g c)) (distinct-apps c.args.sys c.requires)) (λ n there. marked_out (app_names c.args.sys) (g.M.Stores.out c.args.stores.now) (g.M.Stores.out c.open_all.new.stores) n (open_is.out n) (ap (is_among n) (sym (names_are g c)) ∙ there)) opened.told in
    closed_within g.M.R.AggregateRecorder.history g.M.R.AggregateRecorder.stable g.M.R.AggregateRecorder.snapshots (rules_of c.args.sys).pairs (app_names c.args.sys) (λ p there. (pair-declared c.args.sys p c.requires there).0) (λ p there. pair-differs c.args.sys p c.requires there) c.run-sys.result.1.items (names_are g c) h some.0 some.1 fronts
    (fronts_of h.histories fronts (g.M.Stores.held c.args.stores.now) (g.M.Stores.stable c.args.stores.now) told.histories surely (g.met.M.Stores.stable_is_front c.args.stores.now)) opened.fronts (g.M.Stores.stable c.close_all.new.stores) closed (g.M.Stores.held c.close_all.new.stores)
    (closed_so g c h some.0 told some.1).histories within

pub returns-in-Err-Failed-clause-restarts : goal.returns-in-Err-Failed-clause-restarts
returns-in-Err-Failed-clause-restarts g c = restarts_refused (rules_of c.args.sys).pairs (g.M.Stores.held c.args.stores.now) (g.M.Stores.stable c.args.stores.now) (g.M.Stores.held c.open_all.new.stores) (g.M.Stores.stable c.open_all.new.stores) (g.M.Stores.snapshots c.args.stores.now)
    (c.in-Err-Failed.ensures {u = tt}).refused (c.in-Err-Failed.ensures {u = tt}).refused_stable

pub returns-clause-restarts : goal.returns-clause-restarts
returns-clause-restarts g c = restarts_refused (rules_of c.args.sys).pairs (g.M.Stores.held c.args.stores.now) (g.M.Stores.stable c.args.stores.now) (g.M.Stores.held c.open_all.new.stores) (g.M.Stores.stable c.open_all.new.stores) (g.M.Stores.snapshots c.args.stores.now)
    (c.in-Err-NoMemory.ensures {u = tt}).refused (c.in-Err-NoMemory.ensures {u = tt}).refused_stable

pub returns-in-Ok-clause-ahead : goal.returns-in-Ok-clause-ahead
returns-in-Ok-clause-ahead g c = λ h told. let r = (some_readings None).0 in c.run-sys.ensures.ahead h r ((c.in-Ok.ensures {u = tt}).opened (Some r) r h refl told)

pub returns-in-Ok-clause-of_system : goal.returns-in-Ok-clause-of_system
returns-in-Ok-clause-of_system g c = running_result c.run-sys.result.2 c.run-sys.ensures.running

pub returns-in-Ok-clause-closed : goal.returns-in-Ok-clause-closed
returns-in-Ok-clause-closed g c =
    let open_is = c.in-Ok.ensures {u = tt} in
    in_again (app_names c.args.sys) (names_in c.run-sys.result.1.items) (g.M.Stores.out c.args.stores.now) (g.M.Stores.out c.open_all.new.stores) (g.M.Stores.out c.close_all.new.stores) (names_are g c) open_is.out open_is.were_in c.close_all.ensures.in_again

pub returns-in-Ok-clause-recorder : goal.returns-in-Ok-clause-recorder
returns-in-Ok-clause-recorder g c = λ is.
    rose_later (g.M.Stores.faults c.args.stores.now) (g.M.Stores.faults c.open_all.new.stores) (g.M.Stores.faults c.close_all.new.stores) c.open_all.ensures.cause.later
    (c.close_all.ensures.risen (some_failed g.M.R.AggregateRecorder.faults c.in-Ok.apps.items c.run-sys.result.1.items (c.in-Ok.ensures {u = tt}).fresh (c.run-sys.ensures.recorder is)))

pub returns-in-Err-Failed-clause-stands : goal.returns-in-Err-Failed-clause-stands
returns-in-Err-Failed-clause-stands g c = of_input _ _ _ (λ i r h told. (made_none c.args.sys i r h _ _ _ (still_told h (g.M.Stores.held c.args.stores.now) _ (g.M.Stores.snapshots c.args.stores.now) _ told (c.in-Err-Failed.ensures {u = tt}).refused (c.in-Err-Failed.ensures {u = tt}).refused_snapshots) refl, λ is. tt))

pub returns-clause-stands : goal.returns-clause-stands
returns-clause-stands g c = of_input _ _ _ (λ i r h told. (made_none c.args.sys i r h _ _ _ (still_told h (g.M.Stores.held c.args.stores.now) _ (g.M.Stores.snapshots c.args.stores.now) _ told (c.in-Err-NoMemory.ensures {u = tt}).refused (c.in-Err-NoMemory.ensures {u = tt}).refused_snapshots) refl, λ is. tt))
