use Rattle.std.proofs.Common.{sym, subst, Ok, Some, ◌∷◌, arith}
use Rattle.es_process.specs.Drains.{ArePrompted, IsPairOf}
use Rattle.es_process.specs.inner.Following.{FollowsOne}
use Rattle.es_process.specs.Standing.{Holds, HoldContents}
use Rattle.es_process.specs.SystemRules.{rules_of}
use Rattle.es_process.specs.Terms.{terms}
use Rattle.es_process.proofs.HoldsLemmas.{all-none, all-then, rose-then}
use Rattle.es_process.proofs.StandingLemmas.{stays}
use Rattle.es_process.proofs.PairLemmas.{follow_more, follow_faulted}
use Rattle.es_process.proofs.draining.follow.Goals as goal

pub loop-more-init : goal.loop-more-init
loop-more-init g c = record {
  followed = λ after may. (after, may, λ base options s prompted rest u held are. (prompted, are, stays (terms (rules_of c.args.sys.now) options) s prompted ((c.args.pair.now.leader_name, c.args.pair.now.follower_name) ∷ rest) _ u held));
  spends = omega arith;
  same = all-none g.R.AggregateRecorder.faults c.args.apps.now;
}

pub follow_one-requires : goal.follow_one-requires
follow_one-requires g c = record { pair = subst (λ names. IsPairOf c.args.sys.now names c.args.pair.now) (sym c.loop-more.invariant.same.names) c.requires.pair }

pub loop-more-preserved : goal.loop-more-preserved
loop-more-preserved g c = record {
  followed = λ after may. let y = (c.in-Ok.ensures {u = tt}).followed after may in let z = c.loop-more.invariant.followed y.0 y.1 in (
    z.0,
    z.1,
    λ base options s prompted rest u held are.
        let x = rw c.loop-more-test.true at (z.2 base options s prompted rest u held are) in
        follow_more (terms (rules_of c.args.sys.now) options) s c.args.pair.now _ (HoldContents g.R.AggregateRecorder.history g.R.AggregateRecorder.stable g.R.AggregateRecorder.snapshots base c.follow_one.new.apps) _ prompted _ rest u x _ c.follow_one.new.queue.items c.in-Ok.found
        (subst (λ ns. FollowsOne (terms (rules_of c.args.sys.now) options) x.2.state c.args.pair.now (Holds g.R.AggregateRecorder.history g.R.AggregateRecorder.settled g.R.AggregateRecorder.snapshots g.R.AggregateRecorder.capacity base options c.follow_one.new.apps (Some after)) (HoldContents g.R.AggregateRecorder.history g.R.AggregateRecorder.stable g.R.AggregateRecorder.snapshots base c.follow_one.new.apps) ns x.0 c.follow_one.new.queue.items rest u (Ok c.in-Ok.found)) c.loop-more.invariant.same.names
        (y.2 base options x.2.state x.0 rest u x.2.held (subst (λ ns. ArePrompted ns c.loop-more.queue.items x.0) (sym c.loop-more.invariant.same.names) x.1))),
  );
  spends = omega (arith, c.loop-more.invariant.spends, (c.in-Ok.ensures {u = tt}).spends);
  same = all-then c.loop-more.invariant.same c.follow_one.ensures.same;
}

pub returns-in-Err-clause-followed : goal.returns-in-Err-clause-followed
returns-in-Err-clause-followed g c = λ after may.
    let y = (c.in-Err.ensures {u = tt}).followed after may in let z = c.loop-more.invariant.followed y.0 y.1 in (
      z.0,
      z.1,
      λ base options s prompted rest u held are.
          let x = rw c.loop-more-test.true at (z.2 base options s prompted rest u held are) in
          follow_faulted (terms (rules_of c.args.sys.now) options) s c.args.pair.now _ _ _ prompted _ rest u x c.in-Err.fault
          (y.2 base options x.2.state x.0 rest u x.2.held (subst (λ ns. ArePrompted ns c.loop-more.queue.items x.0) (sym c.loop-more.invariant.same.names) x.1)),
    )

pub returns-in-Err-clause-same : goal.returns-in-Err-clause-same
returns-in-Err-clause-same g c = all-then c.loop-more.invariant.same c.follow_one.ensures.same

pub returns-in-Err-clause-failed : goal.returns-in-Err-clause-failed
returns-in-Err-clause-failed g c = λ is. rose-then g.R.AggregateRecorder.faults _ _ _ c.loop-more.invariant.same.later ((c.in-Err.ensures {u = tt}).failed (cc is))

pub returns-clause-followed : goal.returns-clause-followed
returns-clause-followed g c = λ after may.
    let z = c.loop-more.invariant.followed after may in (z.0, z.1, λ base options s prompted rest u held are. rw c.loop-more-test.false at (z.2 base options s prompted rest u held are))
