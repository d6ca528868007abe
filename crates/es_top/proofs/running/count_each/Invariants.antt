use Rattle.std.proofs.Common.{◌≡◌, ◌≤◌, length, drop}
use Rattle.es_process.specs.Contents.{Contents}
use Rattle.es_process.specs.Standing.{HoldContents, AllStay, names_in}
use Rattle.es_process.specs.SystemRules.{in_order}
use Rattle.es_top.specs.inner.Counts.{lengths, more_than}
use Rattle.es_top.proofs.running.count_each.Given as goal

abbrev pub invariant-loop-place : goal.invariant-loop-place
invariant-loop-place g l = record {
  within : l.place ≤ length l.apps;
  known : length l.apps ≡ length l.before;
  same : AllStay g.R.AggregateRecorder.faults l.initial.apps l.apps;
  holds : (base c : Contents) → HoldContents g.R.AggregateRecorder.history g.R.AggregateRecorder.stable g.R.AggregateRecorder.snapshots base l.initial.apps c → HoldContents g.R.AggregateRecorder.history g.R.AggregateRecorder.stable g.R.AggregateRecorder.snapshots base l.apps c;
  counted : (base c : Contents) → HoldContents g.R.AggregateRecorder.history g.R.AggregateRecorder.stable g.R.AggregateRecorder.snapshots base l.initial.apps c → l.before ≡ lengths base.histories (names_in l.initial.apps) → l.counts ≡ in_order (more_than base.histories c.histories) (drop l.place (names_in l.initial.apps));
}

abbrev pub decreases-loop-place : goal.decreases-loop-place
decreases-loop-place g l = l.place
