use Rattle.std.proofs.Common.{◌≡◌, List, Some, drop}
use Rattle.es_model.specs.declared.event.Recording.{Recording}
use Rattle.es_model.specs.declared.snapshot.Snapshot.{Snapshot}
use Rattle.es_process.specs.Applications.{recorder_of, used_of}
use Rattle.es_process.specs.Standing.{Stays}
use Rattle.es_process.specs.SystemRules.{rules_of}
use Rattle.es_process.proofs.ApplicationLemmas.{PutsUpto}
use Rattle.es_process.proofs.application.Application.put_each_due.Given as goal

abbrev pub invariant-loop-event : goal.invariant-loop-event
invariant-loop-event g l = record {
  put : (h : List Recording) (q : List Snapshot) → g.R.AggregateRecorder.history (recorder_of l.initial.self) ≡ Some h → g.R.AggregateRecorder.snapshots (recorder_of l.initial.self) ≡ Some q
      → PutsUpto (rules_of l.fn.sys) h q l.fn.events (drop l.event-index l.fn.events) (g.R.AggregateRecorder.history (recorder_of l.self)) (g.R.AggregateRecorder.snapshots (recorder_of l.self));
  same : Stays g.R.AggregateRecorder.capacity g.R.AggregateRecorder.faults l.initial.self l.self;
  told : g.R.AggregateRecorder.history (recorder_of l.self) ≡ g.R.AggregateRecorder.history (recorder_of l.initial.self);
  settled : g.R.AggregateRecorder.settled (recorder_of l.self) ≡ g.R.AggregateRecorder.settled (recorder_of l.initial.self);
  same_used : used_of l.self ≡ used_of l.initial.self;
}
