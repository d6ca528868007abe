use Rattle.std.proofs.Common.{rules, ◌≡◌, ◌⊎◌, ◌∙◌, inl, inr, ◌++◌, [], List, Some, ap, drop, length, refl, subst, sym, take}
use Rattle.es_io.specs.LinesLeft.{source_of}
use Rattle.es_io.specs.Remains.{MayHaveLeft, MayHold, lines_from}
use Rattle.es_io.proofs.RemainsLemmas.{some_held}
use Rattle.es_process.specs.declared.application.Application.{Application}
use Rattle.es_process.specs.declared.faults.RunFault.TheVariants as fault
use Rattle.es_process.specs.Standing.{AllStay, AreDistinct, Holds, HoldContents, SomeRose}
use Rattle.es_process.specs.SystemRules.{in_order, rules_of}
use Rattle.es_process.specs.Terms.{terms}
use Rattle.es_process.proofs.HoldsLemmas.{all-none, all-then, held-contents, rose-then}
use Rattle.es_single.specs.Runner.{HoldsPrompted, apps_of}
use Rattle.es_top.specs.declared.serve.Stop.TheVariants as stop
use Rattle.es_top.specs.inner.Counts.{EndsBy, lengths, more_than}
use Rattle.es_top.specs.inner.Serves.{Serves}
use Rattle.es_top.specs.inner.Taken.{Taken}
use Rattle.es_top.specs.Limits.{limits, terms_of}
use Rattle.es_top.specs.Runs.{state_of}
use Rattle.es_top.proofs.InputLemmas.{choose_rest, some_readings}
use Rattle.es_top.proofs.OpeningLemmas.{names_length}
use Rattle.es_top.proofs.RunLemmas.{part_none, runs_held, served_runs}
use Rattle.es_top.proofs.StaysLemmas.{lent-rose, lent-stay, rose-before}
use Rattle.es_top.proofs.TopLemmas.{of_input, written_back}
use Rattle.es_top.proofs.running.run_lines.Given as given
use Rattle.es_top.proofs.running.run_lines.Goals as goal

pub end_by-result-requires-clause-distinct : goal.end_by-result-requires-clause-distinct
end_by-result-requires-clause-distinct g c = subst AreDistinct (sym (lent-stay g.R.AggregateRecorder.faults c.args.apps.items c.as_mut_slice.result.now c.new-runner.result c.serve-stop.new.runner c.new-runner.ensures.applications (c.as_mut_slice.ensures.value ∙ c.finish-sys.ensures.applications) c.serve-stop.ensures.same).names) c.requires.apps.distinct

pub end_by-result-requires-clause-each : goal.end_by-result-requires-clause-each
end_by-result-requires-clause-each g c = c.requires.each ∙ sym (names_length c.args.apps.items) ∙ ap length (sym (lent-stay g.R.AggregateRecorder.faults c.args.apps.items c.as_mut_slice.result.now c.new-runner.result c.serve-stop.new.runner c.new-runner.ensures.applications (c.as_mut_slice.ensures.value ∙ c.finish-sys.ensures.applications) c.serve-stop.ensures.same).names) ∙ names_length c.as_mut_slice.result.now

pub returns-in_default-clause-traced : goal.returns-in_default-clause-traced
returns-in_default-clause-traced g c = of_input _ _ _ (λ i r opening none before held.
    part_none (terms_of c.args.sys) opening r i (HoldContents g.R.AggregateRecorder.history g.R.AggregateRecorder.stable g.R.AggregateRecorder.snapshots opening c.args.apps.items) _ _ (held-contents _ _ _ g.met.R.AggregateRecorder.settled_is_whole _ _ opening limits _ _ (state_of opening r) held) refl)

-- the applications that end the run are those that the runner had
lent_are : (g : given.Over) (c : goal.After-apps-2-1 g) → c.as_mut_slice.result.now ≡ apps_of c.serve-stop.new.runner
lent_are g c = c.as_mut_slice.ensures.value ∙ c.finish-sys.ensures.applications

lent_stay : (g : given.Over) (c : goal.After-apps-2-1 g) → AllStay g.R.AggregateRecorder.faults c.args.apps.items c.as_mut_slice.result.now
lent_stay g c = lent-stay g.R.AggregateRecorder.faults c.args.apps.items c.as_mut_slice.result.now c.new-runner.result c.serve-stop.new.runner c.new-runner.ensures.applications (c.as_mut_slice.ensures.value ∙ c.finish-sys.ensures.applications) c.serve-stop.ensures.same

-- what the run gives back
abbrev closing : (g : given.Over) → goal.After-apps-2-1 g → List (Application g.row.R.Denot)
closing g c = take c.finish-sys.result.1.len (c.end_by-result.new.apps ++ drop (length c.end_by-result.new.apps) c.finish-sys.result.1.items)

items_are : (g : given.Over) (c : goal.After-apps-2-1 g) → closing g c ≡ c.end_by-result.new.apps
items_are g c = written_back c.finish-sys.result.1.len c.end_by-result.new.apps c.as_mut_slice.result.now c.finish-sys.result.1.items c.end_by-result.auto.apps c.as_mut_slice.ensures.value c.finish-sys.result.1.ok.0

all_stay : (g : given.Over) (c : goal.After-apps-2-1 g) → AllStay g.R.AggregateRecorder.faults c.args.apps.items (closing g c)
all_stay g c = subst (λ (xs : List (Application g.row.R.Denot)). AllStay g.R.AggregateRecorder.faults c.args.apps.items xs) (sym (items_are g c)) (all-then (lent_stay g c) c.end_by-result.ensures.same)

pub returns-clause-same : goal.returns-clause-same
returns-clause-same g c = all_stay g c

pub returns-clause-recorder : goal.returns-clause-recorder
returns-clause-recorder g c = λ is. risen (c.end_by-result.ensures.recorder is)
  where
    stay : AllStay g.R.AggregateRecorder.faults c.end_by-result.new.apps (closing g c)
    stay = subst (λ (xs : List (Application g.row.R.Denot)). AllStay g.R.AggregateRecorder.faults c.end_by-result.new.apps xs) (sym (items_are g c)) (all-none g.R.AggregateRecorder.faults c.end_by-result.new.apps)

    risen : (c.serve-stop.result.0 ≡ stop.Fault fault.Recorder) ⊎ SomeRose g.R.AggregateRecorder.faults c.as_mut_slice.result.now c.end_by-result.new.apps → SomeRose g.R.AggregateRecorder.faults c.args.apps.items (closing g c)
    risen (inl is) = rose-before g.R.AggregateRecorder.faults c.args.apps.items c.as_mut_slice.result.now (closing g c) (lent-rose g.R.AggregateRecorder.faults c.args.apps.items c.as_mut_slice.result.now c.new-runner.result c.serve-stop.new.runner c.new-runner.ensures.applications (c.as_mut_slice.ensures.value ∙ c.finish-sys.ensures.applications) (c.serve-stop.ensures.recorder is)) (all-then c.end_by-result.ensures.same stay).later
    risen (inr rose) = rose-then g.R.AggregateRecorder.faults c.args.apps.items c.as_mut_slice.result.now (closing g c) (lent_stay g c).later (rose-before g.R.AggregateRecorder.faults c.as_mut_slice.result.now c.end_by-result.new.apps (closing g c) rose stay.later)

pub returns-clause-traced : goal.returns-clause-traced
returns-clause-traced g c =
    let made = c.new-reader.ensures in
    let after = some_readings (g.C.Clock.readings c.serve-stop.new.clock) in
    let b = choose_rest c.serve-stop.result.0 (MayHaveLeft g.S.Source.left c.serve-stop.new.lines) (MayHold (g.S.Source.left (source_of c.serve-stop.new.lines).now)) (c.into_source-source.ensures.left c.serve-stop.ensures.lines.ends) (some_held (g.S.Source.left (source_of c.serve-stop.new.lines).now)) c.serve-stop.ensures.left in
    let x = c.serve-stop.ensures.served b.0 after.0 b.2 after.1 in
    record {
      input = x.0;
      rest = b.1;
      readings = x.1;
      held = made.remains x.0 x.2;
      left = subst (λ o. MayHold o b.1) (search rules) b.3;
      told = x.3;
      holds = λ opening none before held.
          let stay = lent_stay g c in
          let serves = x.4.0 opening limits (state_of opening x.1) (subst (λ (xs : List (Application g.row.R.Denot)). Holds g.R.AggregateRecorder.history g.R.AggregateRecorder.settled g.R.AggregateRecorder.snapshots g.R.AggregateRecorder.capacity opening limits xs (Some x.1) (state_of opening x.1)) (sym c.new-runner.ensures.applications) held) in
          runs_held (terms_of c.args.sys) opening x.1 x.0 (HoldContents g.R.AggregateRecorder.history g.R.AggregateRecorder.stable g.R.AggregateRecorder.snapshots opening (apps_of c.serve-stop.new.runner)) (HoldContents g.R.AggregateRecorder.history g.R.AggregateRecorder.stable g.R.AggregateRecorder.snapshots opening (closing g c))
          (λ k so. subst (λ (xs : List (Application g.row.R.Denot)). HoldContents g.R.AggregateRecorder.history g.R.AggregateRecorder.stable g.R.AggregateRecorder.snapshots opening xs k) (sym (items_are g c)) (c.end_by-result.ensures.holds opening k (subst (λ (xs : List (Application g.row.R.Denot)). HoldContents g.R.AggregateRecorder.history g.R.AggregateRecorder.stable g.R.AggregateRecorder.snapshots opening xs k) (sym (lent_are g c)) so)))
          (g.T.Sink.written c.args.out.now) (g.T.Sink.written c.serve-stop.new.out) (Some b.1) c.end_by-result.result
          (served_runs c.args.sys opening x.1 x.0 (HoldContents g.R.AggregateRecorder.history g.R.AggregateRecorder.stable g.R.AggregateRecorder.snapshots opening (apps_of c.serve-stop.new.runner)) (g.T.Sink.written c.args.out.now) (g.T.Sink.written c.serve-stop.new.out) none (Some b.1)
          (λ next. HoldsPrompted g.R.AggregateRecorder.history g.R.AggregateRecorder.settled g.R.AggregateRecorder.snapshots g.R.AggregateRecorder.capacity opening limits c.serve-stop.new.runner (Some after.0) next []) c.serve-stop.result.0 c.serve-stop.result.1 c.end_by-result.result
          (λ n h. held-contents _ _ _ g.met.R.AggregateRecorder.settled_is_whole _ _ opening limits _ _ n h.holds)
          (λ k so. subst (λ names. EndsBy (in_order (more_than opening.histories k.histories) names) c.serve-stop.result.0 c.serve-stop.result.1 c.end_by-result.result) (stay.names ∙ c.requires.apps.named)
          (c.end_by-result.ensures.ends opening k (subst (λ (xs : List (Application g.row.R.Denot)). HoldContents g.R.AggregateRecorder.history g.R.AggregateRecorder.stable g.R.AggregateRecorder.snapshots opening xs k) (sym (lent_are g c)) so) (before ∙ ap (lengths opening.histories) (sym stay.names))))
          (λ is. (b.1, refl, subst (Taken x.0 c.serve-stop.result.1) (b.4 is) (x.4.1 is)))
          (subst (λ ls. Serves (terms_of c.args.sys) (state_of opening x.1) (λ next. HoldsPrompted g.R.AggregateRecorder.history g.R.AggregateRecorder.settled g.R.AggregateRecorder.snapshots g.R.AggregateRecorder.capacity opening limits c.serve-stop.new.runner (Some after.0) next []) ls c.serve-stop.result.0 c.serve-stop.result.1 (HoldContents g.R.AggregateRecorder.history g.R.AggregateRecorder.stable g.R.AggregateRecorder.snapshots opening (apps_of c.serve-stop.new.runner)) (g.T.Sink.written c.args.out.now) (g.T.Sink.written c.serve-stop.new.out)) (made.lines_from x.0)
          (subst (λ sys. Serves (terms (rules_of sys) limits) (state_of opening x.1) (λ next. HoldsPrompted g.R.AggregateRecorder.history g.R.AggregateRecorder.settled g.R.AggregateRecorder.snapshots g.R.AggregateRecorder.capacity opening limits c.serve-stop.new.runner (Some after.0) next []) (lines_from c.new-reader.result x.0) c.serve-stop.result.0 c.serve-stop.result.1 (HoldContents g.R.AggregateRecorder.history g.R.AggregateRecorder.stable g.R.AggregateRecorder.snapshots opening (apps_of c.serve-stop.new.runner)) (g.T.Sink.written c.args.out.now) (g.T.Sink.written c.serve-stop.new.out)) c.new-runner.ensures.system serves)));
    }
