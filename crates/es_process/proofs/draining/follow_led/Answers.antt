use Rattle.es_process.specs.Standing.{HoldContents}
use Rattle.es_process.specs.SystemRules.{rules_of}
use Rattle.es_process.specs.Terms.{terms}
use Rattle.es_process.proofs.PairLemmas.{led_other, led_it, place_is, place_other}
use Rattle.es_process.proofs.draining.follow_led.Goals as goal

pub returns-then-pair-leader-clause-followed : goal.returns-then-pair-leader-clause-followed
returns-then-pair-leader-clause-followed g c = λ after may. (
  after,
  may,
  λ base options s name prompted rest u held at are.
      led_other (terms (rules_of c.args.sys.now) options) s c.args.pair.now name _ (HoldContents g.R.AggregateRecorder.history g.R.AggregateRecorder.stable g.R.AggregateRecorder.snapshots base c.args.apps.now) _ prompted c.args.queue.now.items rest u tt
      (place_other _ c.requires.pair.apps.distinct c.args.pair.now.leader c.args.leader c.args.pair.now.leader_name name c.requires.pair.placed.leader at c.if-pair-leader.true) held are,
)

pub returns-clause-followed : goal.returns-clause-followed
returns-clause-followed g c = λ after may.
    let x = c.follow.ensures.followed after may in (
      x.0,
      x.1,
      λ base options s name prompted rest u held at are.
          led_it (terms (rules_of c.args.sys.now) options) s c.args.pair.now name _ _ _ prompted c.follow.new.queue.items rest u c.follow.result
          (place_is _ c.requires.pair.apps.distinct c.args.pair.now.leader c.args.leader c.args.pair.now.leader_name name c.requires.pair.placed.leader at c.if-pair-leader.false) (x.2 base options s prompted _ u held are),
    )
