use Rattle.std.proofs.Common.{rules, [], ◌≡◌, All, Contains, Err, None, Some, sym, subst}
use Rattle.es_process.specs.declared.faults.RunFault.TheVariants as fault
use Rattle.es_process.specs.Drains.{ArePrompted, Drains}
use Rattle.es_process.specs.Standing.{Holds, HoldContents, names_in}
use Rattle.es_process.specs.SystemRules.{rules_of}
use Rattle.es_process.specs.Terms.{terms}
use Rattle.es_process.proofs.HoldsLemmas.{held-contents}
use Rattle.es_process.proofs.DrainedLemmas.{drained-reached}
use Rattle.es_process.proofs.StandingLemmas.{cut_here}
use Rattle.es_process.proofs.draining.drain.Goals as goal

pub places_of-requires : goal.places_of-requires
places_of-requires g c = subst (All (Contains (names_in c.args.apps.now))) (sym c.as_slice.ensures) c.requires.declared

pub returns-in_err-queue-clause-drained : goal.returns-in_err-queue-clause-drained
returns-in_err-queue-clause-drained g c = λ after may. (
  after,
  may,
  λ base options s u held.
      let fails : c.from_residual.result ≡ Err fault.NoMemory = search rules in
      subst (Drains (terms (rules_of c.args.sys.now) options) s (Holds g.R.AggregateRecorder.history g.R.AggregateRecorder.settled g.R.AggregateRecorder.snapshots g.R.AggregateRecorder.capacity base options c.args.apps.now (Some after)) (HoldContents g.R.AggregateRecorder.history g.R.AggregateRecorder.stable g.R.AggregateRecorder.snapshots base c.args.apps.now) c.args.prompted.now u) (sym fails)
      (cut_here (terms (rules_of c.args.sys.now) options) s c.args.prompted.now [] _ u (held-contents g.R.AggregateRecorder.history g.R.AggregateRecorder.stable g.R.AggregateRecorder.settled g.met.R.AggregateRecorder.settled_is_whole g.R.AggregateRecorder.snapshots g.R.AggregateRecorder.capacity base options c.args.apps.now _ s held)),
)

pub returns-in_err-pairs-clause-drained : goal.returns-in_err-pairs-clause-drained
returns-in_err-pairs-clause-drained g c = λ after may. (
  after,
  may,
  λ base options s u held.
      let fails : c.from_residual-in_err-pairs.result ≡ Err fault.NoMemory = search rules in
      subst (Drains (terms (rules_of c.args.sys.now) options) s (Holds g.R.AggregateRecorder.history g.R.AggregateRecorder.settled g.R.AggregateRecorder.snapshots g.R.AggregateRecorder.capacity base options c.args.apps.now (Some after)) (HoldContents g.R.AggregateRecorder.history g.R.AggregateRecorder.stable g.R.AggregateRecorder.snapshots base c.args.apps.now) c.args.prompted.now u) (sym fails)
      (cut_here (terms (rules_of c.args.sys.now) options) s c.args.prompted.now [] _ u (held-contents g.R.AggregateRecorder.history g.R.AggregateRecorder.stable g.R.AggregateRecorder.settled g.met.R.AggregateRecorder.settled_is_whole g.R.AggregateRecorder.snapshots g.R.AggregateRecorder.capacity base options c.args.apps.now _ s held)),
)

pub returns-clause-drained : goal.returns-clause-drained
returns-clause-drained g c = λ after may.
    let x = c.drain_with.ensures.drained after may in (
      x.0,
      x.1,
      λ base options s u held. x.2 base options s c.args.prompted.now u held (subst (ArePrompted (names_in c.args.apps.now) c.in_ok-queue.queue.items) c.as_slice.ensures (c.in_ok-queue.ensures {u = tt})),
    )

pub returns-clause-reached : goal.returns-clause-reached
returns-clause-reached g c = λ after may.
    let x = c.drain_with.ensures.drained after may in (
      x.0,
      x.1,
      λ base options s held all none.
          drained-reached g.R.AggregateRecorder.history g.R.AggregateRecorder.stable g.R.AggregateRecorder.settled g.R.AggregateRecorder.snapshots g.R.AggregateRecorder.capacity base options c.drain_with.new.apps (Some after) (terms (rules_of c.args.sys.now) options) s c.args.prompted.now None c.drain_with.result
          (x.2 base options s c.args.prompted.now None held (subst (ArePrompted (names_in c.args.apps.now) c.in_ok-queue.queue.items) c.as_slice.ensures (c.in_ok-queue.ensures {u = tt}))) all none,
    )
