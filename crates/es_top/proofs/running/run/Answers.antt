use Rattle.std.proofs.Common.{◌∙◌, ◌++◌, List, Some, ap, drop, length, subst, sym, take}
use Rattle.std.proofs.lemmas.Result.{IfOk-weaker}
use Rattle.es_process.specs.declared.application.Application.{Application}
use Rattle.es_process.specs.Standing.{Holds, HoldContents, names_in}
use Rattle.es_process.proofs.HoldsLemmas.{all-then, held-contents, rose-then}
use Rattle.es_top.specs.inner.Begins.{AheadEnd}
use Rattle.es_top.specs.inner.Counts.{lengths}
use Rattle.es_top.specs.Limits.{limits, terms_of}
use Rattle.es_top.specs.Runs.{state_of}
use Rattle.es_top.proofs.RunLemmas.{unbegun_running, unbegun_runs}
use Rattle.es_top.proofs.TopLemmas.{of_input, of_then, written_keeps, written_stay}
use Rattle.es_top.proofs.running.run.Goals as goal

pub returns-in-Ok-clause-traced : goal.returns-in-Ok-clause-traced
returns-in-Ok-clause-traced g c = of_then c.run_lines.ensures.traced (λ i rest r runs opening held.
    let lent = subst (λ (xs : List (Application g.row.R.Denot)). Holds g.R.AggregateRecorder.history g.R.AggregateRecorder.settled g.R.AggregateRecorder.snapshots g.R.AggregateRecorder.capacity opening limits xs (Some r) (state_of opening r)) (sym c.as_mut_slice.ensures.value) held in
    let begun = (c.in-Ok.ensures {u = tt}).begun opening r lent in
    let stay = written_stay g.R.AggregateRecorder.faults c.args.apps.len c.begin.new.apps c.as_mut_slice.result.now c.args.apps.items c.begin.auto.apps c.as_mut_slice.ensures.value c.args.apps.ok.0 c.begin.ensures.same in
    runs opening begun.0 (c.as_slice.ensures.value ∙ begun.1 ∙ ap (λ (xs : List (Application g.row.R.Denot)). lengths opening.histories (names_in xs)) c.as_mut_slice.ensures.value ∙ ap (lengths opening.histories) (sym stay.names))
    (written_keeps (λ (xs : List (Application g.row.R.Denot)). Holds g.R.AggregateRecorder.history g.R.AggregateRecorder.settled g.R.AggregateRecorder.snapshots g.R.AggregateRecorder.capacity opening limits xs (Some r) (state_of opening r)) c.args.apps.len c.begin.new.apps c.as_mut_slice.result.now c.args.apps.items c.begin.auto.apps c.as_mut_slice.ensures.value c.args.apps.ok.0 (c.begin.ensures.holds opening r lent)))

pub returns-in-Ok-clause-ahead : goal.returns-in-Ok-clause-ahead
returns-in-Ok-clause-ahead g c = λ opening r held.
    let lent = subst (λ (xs : List (Application g.row.R.Denot)). Holds g.R.AggregateRecorder.history g.R.AggregateRecorder.settled g.R.AggregateRecorder.snapshots g.R.AggregateRecorder.capacity opening limits xs (Some r) (state_of opening r)) (sym c.as_mut_slice.ensures.value) held in
    let begun = (c.in-Ok.ensures {u = tt}).begun opening r lent in
    IfOk-weaker c.run_lines.result.2 _ _ (λ e so. subst (λ o. AheadEnd o e) (sym begun.0) so) c.run_lines.ensures.none_ahead

pub returns-in-Ok-clause-same : goal.returns-in-Ok-clause-same
returns-in-Ok-clause-same g c = all-then (written_stay g.R.AggregateRecorder.faults c.args.apps.len c.begin.new.apps c.as_mut_slice.result.now c.args.apps.items c.begin.auto.apps c.as_mut_slice.ensures.value c.args.apps.ok.0 c.begin.ensures.same) c.run_lines.ensures.same

pub returns-in-Ok-clause-recorder : goal.returns-in-Ok-clause-recorder
returns-in-Ok-clause-recorder g c = λ is. rose-then g.R.AggregateRecorder.faults c.args.apps.items _ c.run_lines.result.1.items (written_stay g.R.AggregateRecorder.faults c.args.apps.len c.begin.new.apps c.as_mut_slice.result.now c.args.apps.items c.begin.auto.apps c.as_mut_slice.ensures.value c.args.apps.ok.0 c.begin.ensures.same).later (c.run_lines.ensures.recorder is)

pub returns-in-Err-clause-traced : goal.returns-in-Err-clause-traced
returns-in-Err-clause-traced g c = of_input _ _ _ (λ i r opening held.
    let lent = subst (λ (xs : List (Application g.row.R.Denot)). Holds g.R.AggregateRecorder.history g.R.AggregateRecorder.settled g.R.AggregateRecorder.snapshots g.R.AggregateRecorder.capacity opening limits xs (Some r) (state_of opening r)) (sym c.as_mut_slice.ensures.value) held in
    unbegun_runs (terms_of c.args.sys) opening r i (HoldContents g.R.AggregateRecorder.history g.R.AggregateRecorder.stable g.R.AggregateRecorder.snapshots opening (take c.args.apps.len (c.begin.new.apps ++ drop (length c.begin.new.apps) c.args.apps.items))) (g.T.Sink.written c.args.out.now) (Some i) c.in-Err.end (c.in-Err.ensures {u = tt}).unbegun ((c.in-Err.ensures {u = tt}).ended opening r lent)
    (held-contents _ _ _ g.met.R.AggregateRecorder.settled_is_whole _ _ opening limits _ _ (state_of opening r) (written_keeps (λ (xs : List (Application g.row.R.Denot)). Holds g.R.AggregateRecorder.history g.R.AggregateRecorder.settled g.R.AggregateRecorder.snapshots g.R.AggregateRecorder.capacity opening limits xs (Some r) (state_of opening r)) c.args.apps.len c.begin.new.apps c.as_mut_slice.result.now c.args.apps.items c.begin.auto.apps c.as_mut_slice.ensures.value c.args.apps.ok.0 (c.begin.ensures.holds opening r lent))))

pub returns-in-Err-clause-ahead : goal.returns-in-Err-clause-ahead
returns-in-Err-clause-ahead g c = λ opening r held. (c.in-Err.ensures {u = tt}).ended opening r (subst (λ (xs : List (Application g.row.R.Denot)). Holds g.R.AggregateRecorder.history g.R.AggregateRecorder.settled g.R.AggregateRecorder.snapshots g.R.AggregateRecorder.capacity opening limits xs (Some r) (state_of opening r)) (sym c.as_mut_slice.ensures.value) held)

pub returns-in-Err-clause-same : goal.returns-in-Err-clause-same
returns-in-Err-clause-same g c = written_stay g.R.AggregateRecorder.faults c.args.apps.len c.begin.new.apps c.as_mut_slice.result.now c.args.apps.items c.begin.auto.apps c.as_mut_slice.ensures.value c.args.apps.ok.0 c.begin.ensures.same

pub returns-in-Err-clause-running : goal.returns-in-Err-clause-running
returns-in-Err-clause-running g c = unbegun_running c.in-Err.end (c.in-Err.ensures {u = tt}).unbegun
