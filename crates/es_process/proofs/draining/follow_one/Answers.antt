use Rattle.std.proofs.Common.{sym, subst, Some, ◌∷◌}
use Rattle.es_process.specs.Drains.{ArePrompted}
use Rattle.es_process.specs.inner.Following.{FollowsOne}
use Rattle.es_process.specs.Standing.{Holds, HoldContents}
use Rattle.es_process.specs.Terms.{terms}
use Rattle.es_process.specs.SystemRules.{rules_of}
use Rattle.es_process.proofs.HoldsLemmas.{held-contents, all-then, rose-then}
use Rattle.es_process.proofs.PairLemmas.{none_left, reading_failed}
use Rattle.es_process.proofs.draining.follow_one.Goals as goal

pub returns-in-Ok-None-clause-followed : goal.returns-in-Ok-None-clause-followed
returns-in-Ok-None-clause-followed g c = λ after may. (
  after,
  may,
  λ base options s prompted rest u held are. (
    prompted,
    are,
    none_left (terms (rules_of c.args.sys.now) options) s c.args.pair.now prompted rest _ u
        (rw c.in-Ok-None.field-0-is at ((c.in-Ok-None.ensures {u = tt}).found base options _ s held)) (c.next_of.ensures.holds base options _ s held),
  ),
)

pub returns-in-Err-clause-followed : goal.returns-in-Err-clause-followed
returns-in-Err-clause-followed g c = λ after may. (
  after,
  may,
  λ base options s prompted rest u held are.
      let still = c.next_of.ensures.holds base options _ s held in
      reading_failed (terms (rules_of c.args.sys.now) options) s prompted ((c.args.pair.now.leader_name, c.args.pair.now.follower_name) ∷ rest) c.in-Err.fault _ u (c.in-Err.ensures {u = tt}).faults
      (held-contents _ _ _ g.met.R.AggregateRecorder.settled_is_whole _ _ base options _ _ s still),
)

pub returns-in-Ok-Some-clause-followed : goal.returns-in-Ok-Some-clause-followed
returns-in-Ok-Some-clause-followed g c = λ after may.
    let x = c.process_next.ensures.followed after may in (
      x.0,
      x.1,
      λ base options s prompted rest u held are.
          subst (λ ns. FollowsOne (terms (rules_of c.args.sys.now) options) s c.args.pair.now (Holds g.R.AggregateRecorder.history g.R.AggregateRecorder.settled g.R.AggregateRecorder.snapshots g.R.AggregateRecorder.capacity base options c.process_next.new.apps (Some after)) (HoldContents g.R.AggregateRecorder.history g.R.AggregateRecorder.stable g.R.AggregateRecorder.snapshots base c.process_next.new.apps) ns prompted c.process_next.new.queue.items rest u c.process_next.result) c.next_of.ensures.same.names
          (x.2 base options s prompted rest u (c.next_of.ensures.holds base options _ s held) (subst (λ ns. ArePrompted ns c.args.queue.now.items prompted) (sym c.next_of.ensures.same.names) are) (rw c.in-Ok-Some.field-0-is at ((c.in-Ok-Some.ensures {u = tt}).found base options _ s held))),
    )

pub returns-in-Ok-Some-clause-same : goal.returns-in-Ok-Some-clause-same
returns-in-Ok-Some-clause-same g c = all-then c.next_of.ensures.same c.process_next.ensures.same

pub returns-in-Ok-Some-clause-failed : goal.returns-in-Ok-Some-clause-failed
returns-in-Ok-Some-clause-failed g c = λ is. rose-then g.R.AggregateRecorder.faults _ _ _ c.next_of.ensures.same.later (c.process_next.ensures.failed is)
