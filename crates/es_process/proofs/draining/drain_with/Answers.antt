use Rattle.std.proofs.Common.{rules, ◌≡◌, ◌∷◌, [], Ok, Some, slice_get, sym, ap, ◌∙◌, subst}
use Rattle.es_process.specs.Drains.{ArePrompted, ArePairs}
use Rattle.es_process.specs.inner.Following.{FollowsEach}
use Rattle.es_process.specs.Standing.{Holds, HoldContents, names_in}
use Rattle.es_process.specs.SystemRules.{rules_of}
use Rattle.es_process.specs.Terms.{terms}
use Rattle.es_process.proofs.HoldsLemmas.{all-none, all-then, rose-then}
use Rattle.es_process.proofs.StandingLemmas.{stays}
use Rattle.es_process.proofs.PairLemmas.{CameToQueue, taken, from_leader, drain_then, drain_faulted, drained_all}
use Rattle.es_process.proofs.draining.drain_with.Goals as goal

pub loop-leader-init : goal.loop-leader-init
loop-leader-init g c = record {
  drained = λ after may. (after, may, λ base options s prompted u held are. (prompted, are, stays (terms (rules_of c.args.sys.now) options) s prompted [] _ u held));
  same = all-none g.R.AggregateRecorder.faults c.args.apps.now;
}

pub follow_each-requires : goal.follow_each-requires
follow_each-requires g c = record { pairs = subst (λ names. ArePairs c.args.sys.now names c.args.pairs.now) (sym c.loop-leader.invariant.same.names) c.requires.pairs }

pub loop-leader-preserved : goal.loop-leader-preserved
loop-leader-preserved g c =
    let queued : c.loop-leader.queue.items ≡ c.in-Some.leader ∷ c.pop_front.new.self.items = (c.in-Some.ensures {u = tt}).items in
    record {
      drained = λ after may. let y = (c.in-Ok.ensures {u = tt}).followed after may in let z = c.loop-leader.invariant.drained y.0 y.1 in (
        z.0,
        z.1,
        λ base options s prompted u held are.
            let H = Holds g.R.AggregateRecorder.history g.R.AggregateRecorder.settled g.R.AggregateRecorder.snapshots g.R.AggregateRecorder.capacity base options c.loop-leader.apps (Some y.0) in
            let x = subst (λ q. CameToQueue (terms (rules_of c.args.sys.now) options) s H (names_in c.args.apps.now) prompted q u) queued (z.2 base options s prompted u held are) in
            let f = taken (terms (rules_of c.args.sys.now) options) s c.args.pairs.now c.requires.pairs.all H (names_in c.args.apps.now) prompted c.in-Some.leader c.pop_front.new.self.items u x in
            let m = from_leader (terms (rules_of c.args.sys.now) options) s c.args.pairs.now c.requires.pairs.all H (names_in c.args.apps.now) prompted c.in-Some.leader c.pop_front.new.self.items u x in
            drain_then (terms (rules_of c.args.sys.now) options) s c.args.pairs.now c.requires.pairs.all H (names_in c.args.apps.now) prompted c.in-Some.leader c.pop_front.new.self.items u x _ (HoldContents g.R.AggregateRecorder.history g.R.AggregateRecorder.stable g.R.AggregateRecorder.snapshots base c.follow_each.new.apps) c.follow_each.new.queue.items c.in-Ok.field-0
            (subst (λ ns. FollowsEach (terms (rules_of c.args.sys.now) options) m.state c.args.pairs.now f.name (Holds g.R.AggregateRecorder.history g.R.AggregateRecorder.settled g.R.AggregateRecorder.snapshots g.R.AggregateRecorder.capacity base options c.follow_each.new.apps (Some after)) (HoldContents g.R.AggregateRecorder.history g.R.AggregateRecorder.stable g.R.AggregateRecorder.snapshots base c.follow_each.new.apps) ns f.later c.follow_each.new.queue.items u (Ok c.in-Ok.field-0)) c.loop-leader.invariant.same.names
            (y.2 base options m.state f.name f.later u m.held (ap (λ ns. slice_get ns c.in-Some.leader) c.loop-leader.invariant.same.names ∙ f.at) (subst (λ ns. ArePrompted ns c.pop_front.new.self.items f.later) (sym c.loop-leader.invariant.same.names) f.others))),
      );
      same = all-then c.loop-leader.invariant.same c.follow_each.ensures.same;
    }

pub returns-in-Err-clause-drained : goal.returns-in-Err-clause-drained
returns-in-Err-clause-drained g c =
    let queued : c.loop-leader.queue.items ≡ c.in-Some.leader ∷ c.pop_front.new.self.items = (c.in-Some.ensures {u = tt}).items in
    λ after may. let y = (c.in-Err.ensures {u = tt}).followed after may in let z = c.loop-leader.invariant.drained y.0 y.1 in (
      z.0,
      z.1,
      λ base options s prompted u held are.
          let H = Holds g.R.AggregateRecorder.history g.R.AggregateRecorder.settled g.R.AggregateRecorder.snapshots g.R.AggregateRecorder.capacity base options c.loop-leader.apps (Some y.0) in
          let x = subst (λ q. CameToQueue (terms (rules_of c.args.sys.now) options) s H (names_in c.args.apps.now) prompted q u) queued (z.2 base options s prompted u held are) in
          let f = taken (terms (rules_of c.args.sys.now) options) s c.args.pairs.now c.requires.pairs.all H (names_in c.args.apps.now) prompted c.in-Some.leader c.pop_front.new.self.items u x in
          let m = from_leader (terms (rules_of c.args.sys.now) options) s c.args.pairs.now c.requires.pairs.all H (names_in c.args.apps.now) prompted c.in-Some.leader c.pop_front.new.self.items u x in
          drain_faulted (terms (rules_of c.args.sys.now) options) s c.args.pairs.now c.requires.pairs.all H (names_in c.args.apps.now) prompted c.in-Some.leader c.pop_front.new.self.items u x (Holds g.R.AggregateRecorder.history g.R.AggregateRecorder.settled g.R.AggregateRecorder.snapshots g.R.AggregateRecorder.capacity base options c.follow_each.new.apps (Some after)) _ c.follow_each.new.queue.items c.in-Err.fault
          (y.2 base options m.state f.name f.later u m.held (ap (λ ns. slice_get ns c.in-Some.leader) c.loop-leader.invariant.same.names ∙ f.at) (subst (λ ns. ArePrompted ns c.pop_front.new.self.items f.later) (sym c.loop-leader.invariant.same.names) f.others)),
    )

pub returns-in-Err-clause-same : goal.returns-in-Err-clause-same
returns-in-Err-clause-same g c = all-then c.loop-leader.invariant.same c.follow_each.ensures.same

pub returns-in-Err-clause-failed : goal.returns-in-Err-clause-failed
returns-in-Err-clause-failed g c = λ is. rose-then g.R.AggregateRecorder.faults _ _ _ c.loop-leader.invariant.same.later ((c.in-Err.ensures {u = tt}).failed (cc is))

pub returns-clause-drained : goal.returns-clause-drained
returns-clause-drained g c = λ after may.
    let empty : c.loop-leader.queue.items ≡ [] = search rules in
    let z = c.loop-leader.invariant.drained after may in (
      z.0,
      z.1,
      λ base options s prompted u held are. drained_all (terms (rules_of c.args.sys.now) options) s _ (names_in c.args.apps.now) prompted c.loop-leader.queue.items u empty (z.2 base options s prompted u held are),
    )
