use Rattle.std.proofs.Common.{◌+◌, ◌*◌, ℕ, List, Option, length}
use Rattle.es_model.specs.Values.{Name}
use Rattle.es_process.specs.Answer.{Options}
use Rattle.es_process.specs.Contents.{Contents}
use Rattle.es_process.specs.Drains.{ArePrompted}
use Rattle.es_process.specs.inner.Following.{all_left}
use Rattle.es_process.specs.Standing.{State, Holds, AllStay, names_in}
use Rattle.es_process.specs.SystemRules.{rules_of}
use Rattle.es_process.specs.Terms.{terms}
use Rattle.es_process.specs.Traced.{Traced}
use Rattle.es_process.proofs.PairLemmas.{CameToQueue}
use Rattle.es_process.proofs.draining.drain_with.Given as goal

abbrev pub invariant-loop-leader : goal.invariant-loop-leader
invariant-loop-leader g l = record {
  drained : Traced (g.C.Clock.readings l.initial.clock) (g.C.Clock.readings l.clock) (λ before after. (base : Contents) (options : Options) (s : State) (prompted : List Name) (u : Option (List ℕ))
      → Holds g.R.AggregateRecorder.history g.R.AggregateRecorder.settled g.R.AggregateRecorder.snapshots g.R.AggregateRecorder.capacity base options l.initial.apps before s
      → ArePrompted (names_in l.initial.apps) l.initial.queue.items prompted
      → CameToQueue (terms (rules_of l.fn.sys) options) s (Holds g.R.AggregateRecorder.history g.R.AggregateRecorder.settled g.R.AggregateRecorder.snapshots g.R.AggregateRecorder.capacity base options l.apps after) (names_in l.initial.apps) prompted l.queue.items u);
  same : AllStay g.R.AggregateRecorder.faults l.initial.apps l.apps;
}

abbrev pub decreases-loop-leader : goal.decreases-loop-leader
decreases-loop-leader g l = all_left l.apps * 2 + length l.queue.items
