use Rattle.std.proofs.Common.{◌≡◌, Option, drop, map}
use Rattle.es_io.specs.Readings.{Readings}
use Rattle.es_decl.specs.Pairs.{pairs_of}
use Rattle.es_process.specs.Answer.{Options}
use Rattle.es_process.specs.Contents.{Contents}
use Rattle.es_process.specs.Drains.{ArePairs, names_of_pair}
use Rattle.es_process.specs.Reached.{ahead}
use Rattle.es_process.specs.Standing.{State, Holds, AllStay, names_in}
use Rattle.es_process.proofs.ahead.find_ahead.Given as goal

abbrev pub invariant-loop-pair : goal.invariant-loop-pair
invariant-loop-pair g l = record {
  pairs : ArePairs l.fn.sys (names_in l.initial.apps) l.pair-items;
  told : (base : Contents) (options : Options) (readings : Option Readings) (s : State) → Holds g.R.AggregateRecorder.history g.R.AggregateRecorder.settled g.R.AggregateRecorder.snapshots g.R.AggregateRecorder.capacity base options l.initial.apps readings s
      → ahead (pairs_of l.fn.sys.pipes) s.contents.histories ≡ ahead (map names_of_pair (drop l.pair-index l.pair-items)) s.contents.histories;
  holds : (base : Contents) (options : Options) (readings : Option Readings) (s : State) → Holds g.R.AggregateRecorder.history g.R.AggregateRecorder.settled g.R.AggregateRecorder.snapshots g.R.AggregateRecorder.capacity base options l.initial.apps readings s
      → Holds g.R.AggregateRecorder.history g.R.AggregateRecorder.settled g.R.AggregateRecorder.snapshots g.R.AggregateRecorder.capacity base options l.apps readings s;
  same : AllStay g.R.AggregateRecorder.faults l.initial.apps l.apps;
}
