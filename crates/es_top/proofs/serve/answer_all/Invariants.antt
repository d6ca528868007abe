use Rattle.std.proofs.Common.{◌≡◌, ◌≤◌, ◌+◌, ℕ, List, [], Option, None}
use Rattle.es_io.specs.LinesLeft.{room_of, has_ended, fault_of}
use Rattle.es_process.specs.Answer.{Options}
use Rattle.es_process.specs.Contents.{Contents}
use Rattle.es_process.specs.Standing.{State}
use Rattle.es_process.specs.SystemRules.{rules_of}
use Rattle.es_process.specs.Terms.{terms}
use Rattle.es_single.specs.Runner.{GoesOn, HoldsPrompted, IsReady, system_of}
use Rattle.es_top.specs.inner.Serves.{Begun, Answered}
use Rattle.es_io.specs.Remains.{lines_from}
use Rattle.es_top.specs.inner.Stays.{LinesStay}
use Rattle.es_top.specs.inner.Taken.{Counted}
use Rattle.es_top.specs.inner.LinesTraced.{LinesTraced}
use Rattle.es_top.proofs.serve.answer_all.Given as goal

abbrev pub invariant-loop-count : goal.invariant-loop-count
invariant-loop-count g l = record {
  goes : LinesTraced g.S.Source.left l.initial.lines l.lines (g.C.Clock.readings l.initial.clock) (g.C.Clock.readings l.clock) (λ a b before after. (
      (base : Contents) (options : Options) (s n : State) (u : Option (List ℕ)) → Begun (terms (rules_of (system_of l.initial.runner)) options) s n u (g.T.Sink.written l.initial.out)
      → HoldsPrompted g.R.AggregateRecorder.history g.R.AggregateRecorder.settled g.R.AggregateRecorder.snapshots g.R.AggregateRecorder.capacity base options l.initial.runner before n []
      → Answered (terms (rules_of (system_of l.initial.runner)) options) s (λ next. HoldsPrompted g.R.AggregateRecorder.history g.R.AggregateRecorder.settled g.R.AggregateRecorder.snapshots g.R.AggregateRecorder.capacity base options l.runner after next []) (lines_from l.initial.lines a) (lines_from l.lines b) l.count u (g.T.Sink.written l.out))
      × Counted a l.count b (has_ended l.lines));
  clear : fault_of l.lines ≡ None;
  room : l.count + room_of l.lines ≤ room_of l.initial.lines;
  lines : LinesStay g.S.Source.left g.S.Source.faults l.initial.lines l.lines;
  out_later : g.T.Sink.faults l.initial.out ≤ g.T.Sink.faults l.out;
  ready : IsReady l.runner;
  same : GoesOn g.R.AggregateRecorder.faults l.initial.runner l.runner;
}

abbrev pub decreases-loop-count : goal.decreases-loop-count
decreases-loop-count g l = room_of l.lines
