use Rattle.std.proofs.Common.{◌≡◌, ap, arith, get_or, Err}
use Rattle.std.proofs.lemmas.Option.{slice_get-get_or}
use Rattle.es_model.specs.declared.memory.CallFault.TheVariants.{Failed}
use Rattle.es_process.specs.Applications.{name_of}
use Rattle.es_process.specs.Standing.{names_in}
use Rattle.es_process.proofs.HoldsLemmas.{rose-set, rose-then}
use Rattle.es_top.proofs.CountLemmas.{lengths-more, lengths-whole}
use Rattle.es_top.proofs.OpeningLemmas.{kept_more, names_length, told_at}
use Rattle.es_top.proofs.running.count_first.Goals as goal

pub returns-in-Err-clause-kept : goal.returns-in-Err-clause-kept
returns-in-Err-clause-kept g c = kept_more g.R.AggregateRecorder.history g.R.AggregateRecorder.settled g.R.AggregateRecorder.capacity g.R.AggregateRecorder.snapshots g.R.AggregateRecorder.faults c.args.apps.now c.loop-app.apps c.loop-app.app-index (get_or c.loop-app.apps c.loop-app.app-index c.app-item.result) c.push_count.new.app c.loop-app.invariant.kept (slice_get-get_or c.loop-app.apps c.loop-app.app-index c.app-item.result (omega arith)) c.push_count.ensures.same

pub returns-in-Err-clause-recorder : goal.returns-in-Err-clause-recorder
returns-in-Err-clause-recorder g c = λ is.
    let failed : c.in-Err.fault ≡ Failed = c.call_end.ensures.recorder (cc is) in
    rose-then g.R.AggregateRecorder.faults c.args.apps.now c.loop-app.apps _ c.loop-app.invariant.kept.stay.later
    (rose-set g.R.AggregateRecorder.faults c.loop-app.apps c.loop-app.app-index (get_or c.loop-app.apps c.loop-app.app-index c.app-item.result) c.push_count.new.app (slice_get-get_or c.loop-app.apps c.loop-app.app-index c.app-item.result (omega arith)) ((c.in-Err.ensures {u = tt}).cause.failed (ap Err failed)))

pub loop-app-preserved : goal.loop-app-preserved
loop-app-preserved g c = record {
  kept = kept_more g.R.AggregateRecorder.history g.R.AggregateRecorder.settled g.R.AggregateRecorder.capacity g.R.AggregateRecorder.snapshots g.R.AggregateRecorder.faults c.args.apps.now c.loop-app.apps c.loop-app.app-index (get_or c.loop-app.apps c.loop-app.app-index c.app-item.result) c.push_count.new.app c.loop-app.invariant.kept (slice_get-get_or c.loop-app.apps c.loop-app.app-index c.app-item.result (omega arith)) c.push_count.ensures.same;
  each = omega (arith, (c.in-Ok.ensures {u = tt}).one, c.loop-app.invariant.each);
  counted = λ h tells.
      let one = told_at g.R.AggregateRecorder.history g.R.AggregateRecorder.settled g.R.AggregateRecorder.capacity g.R.AggregateRecorder.snapshots g.R.AggregateRecorder.faults h c.args.apps.now c.loop-app.apps c.loop-app.app-index (get_or c.loop-app.apps c.loop-app.app-index c.app-item.result) c.loop-app.invariant.kept tells (slice_get-get_or c.loop-app.apps c.loop-app.app-index c.app-item.result (omega arith)) in
      lengths-more h (names_in c.args.apps.now) c.loop-app.app-index (name_of (get_or c.loop-app.apps c.loop-app.app-index c.app-item.result)) c.loop-app.counts.items c.push_count.new.counts.items one.1 (c.loop-app.invariant.counted h tells) ((c.in-Ok.ensures {u = tt}).counted (h (name_of (get_or c.loop-app.apps c.loop-app.app-index c.app-item.result))) one.0);
}

pub returns-clause-counted : goal.returns-clause-counted
returns-clause-counted g c = λ h tells. lengths-whole h (names_in c.args.apps.now) c.loop-app.app-index c.loop-app.counts.items (omega (arith, names_length c.args.apps.now)) (c.loop-app.invariant.counted h tells)
