use Rattle.std.proofs.Common.{◌+◌, ℕ, List, Option, Ok, if◌then◌else◌}
use Rattle.es_model.specs.Values.{Name}
use Rattle.es_process.specs.Answer.{Options}
use Rattle.es_process.specs.Contents.{Contents}
use Rattle.es_process.specs.Drains.{ArePrompted}
use Rattle.es_process.specs.inner.Following.{FollowsOne, Spends, all_left}
use Rattle.es_process.specs.Standing.{State, Holds, HoldContents, AllStay, names_in}
use Rattle.es_process.specs.SystemRules.{rules_of}
use Rattle.es_process.specs.Terms.{terms}
use Rattle.es_process.specs.Traced.{Traced}
use Rattle.es_process.proofs.draining.follow.Given as goal

abbrev pub invariant-loop-more : goal.invariant-loop-more
invariant-loop-more g l = record {
  followed : Traced (g.C.Clock.readings l.initial.clock) (g.C.Clock.readings l.clock) (λ before after. (base : Contents) (options : Options) (s : State) (prompted : List Name) (rest : List (Name × Name)) (u : Option (List ℕ))
      → Holds g.R.AggregateRecorder.history g.R.AggregateRecorder.settled g.R.AggregateRecorder.snapshots g.R.AggregateRecorder.capacity base options l.initial.apps before s
      → ArePrompted (names_in l.initial.apps) l.initial.queue.items prompted
      → FollowsOne (terms (rules_of l.fn.sys) options) s l.fn.pair (Holds g.R.AggregateRecorder.history g.R.AggregateRecorder.settled g.R.AggregateRecorder.snapshots g.R.AggregateRecorder.capacity base options l.apps after)
      (HoldContents g.R.AggregateRecorder.history g.R.AggregateRecorder.stable g.R.AggregateRecorder.snapshots base l.apps) (names_in l.initial.apps) prompted l.queue.items rest u (Ok l.more));
  spends : Spends l.initial.apps l.apps l.initial.queue.items l.queue.items;
  same : AllStay g.R.AggregateRecorder.faults l.initial.apps l.apps;
}

abbrev pub decreases-loop-more : goal.decreases-loop-more
decreases-loop-more g l = if l.more then all_left l.apps + 1 else 0
