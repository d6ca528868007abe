use Rattle.std.proofs.Common.{◌≡◌, length, take}
use Rattle.es_model.specs.History.{Histories}
use Rattle.es_process.specs.Standing.{names_in}
use Rattle.es_top.specs.inner.Counts.{lengths}
use Rattle.es_top.specs.Opened.{AreKept, TellEach}
use Rattle.es_top.proofs.running.count_first.Given as goal

abbrev pub invariant-loop-app : goal.invariant-loop-app
invariant-loop-app g l = record {
  kept : AreKept g.R.AggregateRecorder.history g.R.AggregateRecorder.settled g.R.AggregateRecorder.capacity g.R.AggregateRecorder.snapshots g.R.AggregateRecorder.faults l.initial.apps l.apps;
  each : length l.counts.items ≡ l.app-index;
  counted : (h : Histories) → TellEach g.R.AggregateRecorder.history h l.initial.apps → l.counts.items ≡ lengths h (take l.app-index (names_in l.initial.apps));
}
