use Rattle.es_domain.proofs.RunLemmas.{pushed, pushed_below}
use Rattle.es_domain.proofs.rules.after_effect.Goals as goal

pub returns-in_ok-push-in-Changed-clause-step : goal.returns-in_ok-push-in-Changed-clause-step
returns-in_ok-push-in-Changed-clause-step c = λ rule readings rest.
    pushed c.args.otherwise rule readings rest c.args.changed.now c.push.new.self c.in-Changed.aggregate c.collect_events-events.new.self c.args.effect c.collect_events-events.result
    c.in-Changed.is c.collect_events-events.ensures.events c.collect_events-events.ensures.rest c.in_ok-push-in-Changed.ensures.ok

pub returns-in_ok-push-in-Changed-clause-below : goal.returns-in_ok-push-in-Changed-clause-below
returns-in_ok-push-in-Changed-clause-below c = λ sys limit are below.
    pushed_below sys limit c.args.changed.now c.push.new.self c.in-Changed.aggregate c.collect_events-events.new.self c.args.effect
    c.in-Changed.is c.collect_events-events.ensures.rest c.in_ok-push-in-Changed.ensures.ok are below

pub returns-in-Refused-clause-new : goal.returns-in-Refused-clause-new
returns-in-Refused-clause-new c = λ sys limit below. c.refused.ensures.new sys
