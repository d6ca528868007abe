use Rattle.std.proofs.Common.{◌≡◌, ℕ, List, Option, Some, drop, slice_get}
use Rattle.es_model.specs.Values.{Name}
use Rattle.es_process.specs.Answer.{Options}
use Rattle.es_process.specs.Contents.{Contents}
use Rattle.es_process.specs.Drains.{ArePrompted}
use Rattle.es_process.specs.inner.Following.{Spends}
use Rattle.es_process.specs.Standing.{State, Holds, AllStay, names_in}
use Rattle.es_process.specs.SystemRules.{rules_of}
use Rattle.es_process.specs.Terms.{terms}
use Rattle.es_process.specs.Traced.{Traced}
use Rattle.es_process.proofs.PairLemmas.{CameToEach}
use Rattle.es_process.proofs.draining.follow_each.Given as goal

abbrev pub invariant-loop-pair : goal.invariant-loop-pair
invariant-loop-pair g l = record {
  followed : Traced (g.C.Clock.readings l.initial.clock) (g.C.Clock.readings l.clock) (λ before after. (base : Contents) (options : Options) (s : State) (name : Name) (prompted : List Name) (u : Option (List ℕ))
      → Holds g.R.AggregateRecorder.history g.R.AggregateRecorder.settled g.R.AggregateRecorder.snapshots g.R.AggregateRecorder.capacity base options l.initial.apps before s
      → slice_get (names_in l.initial.apps) l.fn.leader ≡ Some name → ArePrompted (names_in l.initial.apps) l.initial.queue.items prompted
      → CameToEach (terms (rules_of l.fn.sys) options) s l.fn.pairs (drop l.pair-index l.fn.pairs) name (Holds g.R.AggregateRecorder.history g.R.AggregateRecorder.settled g.R.AggregateRecorder.snapshots g.R.AggregateRecorder.capacity base options l.apps after) (names_in l.initial.apps) prompted l.queue.items u);
  spends : Spends l.initial.apps l.apps l.initial.queue.items l.queue.items;
  same : AllStay g.R.AggregateRecorder.faults l.initial.apps l.apps;
}
