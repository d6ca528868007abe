use Rattle.std.proofs.Common.{◌<◌, ◌+◌, Ok, Some, drop, length, map, slice_get, sym, ap, ◌∙◌, subst, arith}
use Rattle.std.proofs.lemmas.List.{drop_all}
use Rattle.std.proofs.lemmas.Option.{slice_get-get_or}
use Rattle.es_process.specs.Drains.{ArePrompted, IsPairOf, names_of_pair}
use Rattle.es_process.specs.inner.Following.{FollowsLed}
use Rattle.es_process.specs.Standing.{Holds, HoldContents, names_in}
use Rattle.es_process.specs.SystemRules.{rules_of}
use Rattle.es_process.specs.Terms.{terms}
use Rattle.es_process.proofs.HoldsLemmas.{all-none, all-then, rose-then}
use Rattle.es_process.proofs.StandingLemmas.{stays}
use Rattle.es_process.proofs.PairLemmas.{CameToEach, drop-next, each_followed, each_faulted}
use Rattle.es_process.specs.SingleThread.{led_by}
use Rattle.es_process.proofs.draining.follow_each.Goals as goal

pub loop-pair-init : goal.loop-pair-init
loop-pair-init g c = record {
  followed = λ after may. (after, may, λ base options s name prompted u held at are. (prompted, are, stays (terms (rules_of c.args.sys.now) options) s prompted (led_by (map names_of_pair c.args.pairs.now) name) _ u held));
  spends = omega arith;
  same = all-none g.R.AggregateRecorder.faults c.args.apps.now;
}

pub follow_led-requires : goal.follow_led-requires
follow_led-requires g c =
    let within : c.loop-pair.pair-index < length c.args.pairs.now = omega (arith, c.loop-pair-test.true, c.loop-pair.auto.pair-index-end) in
    record { pair = subst (λ names. IsPairOf c.args.sys.now names c.pair-item.result) (sym c.loop-pair.invariant.same.names) (c.requires.pairs.each c.loop-pair.pair-index c.pair-item.result (slice_get-get_or c.args.pairs.now c.loop-pair.pair-index c.pair-item.result within ∙ ap (λ p. Some p) (sym c.pair-item.is))) }

pub loop-pair-preserved : goal.loop-pair-preserved
loop-pair-preserved g c =
    let within : c.loop-pair.pair-index < length c.args.pairs.now = omega (arith, c.loop-pair-test.true, c.loop-pair.auto.pair-index-end) in
    record {
      followed = λ after may. let y = (c.in-Ok.ensures {u = tt}).followed after may in let z = c.loop-pair.invariant.followed y.0 y.1 in (
        z.0,
        z.1,
        λ base options s name prompted u held at are.
            let x = subst (λ left. CameToEach (terms (rules_of c.args.sys.now) options) s c.args.pairs.now left name (Holds g.R.AggregateRecorder.history g.R.AggregateRecorder.settled g.R.AggregateRecorder.snapshots g.R.AggregateRecorder.capacity base options c.loop-pair.apps (Some y.0)) (names_in c.args.apps.now) prompted c.loop-pair.queue.items u) (drop-next c.args.pairs.now c.loop-pair.pair-index c.pair-item.result within c.pair-item.is) (z.2 base options s name prompted u held at are) in
            each_followed (terms (rules_of c.args.sys.now) options) s c.args.pairs.now c.pair-item.result (drop (c.loop-pair.pair-index + 1) c.args.pairs.now) name _ (names_in c.args.apps.now) prompted _ u x _ (HoldContents g.R.AggregateRecorder.history g.R.AggregateRecorder.stable g.R.AggregateRecorder.snapshots base c.follow_led.new.apps) c.follow_led.new.queue.items c.in-Ok.field-0
            (subst (λ ns. FollowsLed (terms (rules_of c.args.sys.now) options) x.2.state c.pair-item.result name (Holds g.R.AggregateRecorder.history g.R.AggregateRecorder.settled g.R.AggregateRecorder.snapshots g.R.AggregateRecorder.capacity base options c.follow_led.new.apps (Some after)) (HoldContents g.R.AggregateRecorder.history g.R.AggregateRecorder.stable g.R.AggregateRecorder.snapshots base c.follow_led.new.apps) ns x.0 c.follow_led.new.queue.items (map names_of_pair (drop (c.loop-pair.pair-index + 1) c.args.pairs.now)) u (Ok c.in-Ok.field-0)) c.loop-pair.invariant.same.names
            (y.2 base options x.2.state name x.0 (map names_of_pair (drop (c.loop-pair.pair-index + 1) c.args.pairs.now)) u x.2.held (ap (λ ns. slice_get ns c.args.leader) c.loop-pair.invariant.same.names ∙ at) (subst (λ ns. ArePrompted ns c.loop-pair.queue.items x.0) (sym c.loop-pair.invariant.same.names) x.1))),
      );
      spends = omega (arith, c.loop-pair.invariant.spends, (c.in-Ok.ensures {u = tt}).spends);
      same = all-then c.loop-pair.invariant.same c.follow_led.ensures.same;
    }

pub returns-in-Err-clause-followed : goal.returns-in-Err-clause-followed
returns-in-Err-clause-followed g c =
    let within : c.loop-pair.pair-index < length c.args.pairs.now = omega (arith, c.loop-pair-test.true, c.loop-pair.auto.pair-index-end) in
    λ after may. let y = (c.in-Err.ensures {u = tt}).followed after may in let z = c.loop-pair.invariant.followed y.0 y.1 in (
      z.0,
      z.1,
      λ base options s name prompted u held at are.
          let x = subst (λ left. CameToEach (terms (rules_of c.args.sys.now) options) s c.args.pairs.now left name (Holds g.R.AggregateRecorder.history g.R.AggregateRecorder.settled g.R.AggregateRecorder.snapshots g.R.AggregateRecorder.capacity base options c.loop-pair.apps (Some y.0)) (names_in c.args.apps.now) prompted c.loop-pair.queue.items u) (drop-next c.args.pairs.now c.loop-pair.pair-index c.pair-item.result within c.pair-item.is) (z.2 base options s name prompted u held at are) in
          each_faulted (terms (rules_of c.args.sys.now) options) s c.args.pairs.now c.pair-item.result (drop (c.loop-pair.pair-index + 1) c.args.pairs.now) name _ (names_in c.args.apps.now) prompted _ u x (Holds g.R.AggregateRecorder.history g.R.AggregateRecorder.settled g.R.AggregateRecorder.snapshots g.R.AggregateRecorder.capacity base options c.follow_led.new.apps (Some after)) _ c.follow_led.new.queue.items c.in-Err.fault
          (y.2 base options x.2.state name x.0 (map names_of_pair (drop (c.loop-pair.pair-index + 1) c.args.pairs.now)) u x.2.held (ap (λ ns. slice_get ns c.args.leader) c.loop-pair.invariant.same.names ∙ at) (subst (λ ns. ArePrompted ns c.loop-pair.queue.items x.0) (sym c.loop-pair.invariant.same.names) x.1)),
    )

pub returns-in-Err-clause-same : goal.returns-in-Err-clause-same
returns-in-Err-clause-same g c = all-then c.loop-pair.invariant.same c.follow_led.ensures.same

pub returns-in-Err-clause-failed : goal.returns-in-Err-clause-failed
returns-in-Err-clause-failed g c = λ is. rose-then g.R.AggregateRecorder.faults _ _ _ c.loop-pair.invariant.same.later ((c.in-Err.ensures {u = tt}).failed (cc is))

pub returns-clause-followed : goal.returns-clause-followed
returns-clause-followed g c = λ after may.
    let z = c.loop-pair.invariant.followed after may in (
      z.0,
      z.1,
      λ base options s name prompted u held at are.
          subst (λ left. CameToEach (terms (rules_of c.args.sys.now) options) s c.args.pairs.now left name (Holds g.R.AggregateRecorder.history g.R.AggregateRecorder.settled g.R.AggregateRecorder.snapshots g.R.AggregateRecorder.capacity base options c.loop-pair.apps (Some after)) (names_in c.args.apps.now) prompted c.loop-pair.queue.items u) (drop_all c.loop-pair.pair-index c.args.pairs.now c.loop-pair-test.false) (z.2 base options s name prompted u held at are),
    )
