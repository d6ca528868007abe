use Rattle.std.proofs.Common.{arith, refl, ◌∙◌}
use Rattle.es_process.specs.SystemRules.{rules_of}
use Rattle.es_process.proofs.ApplicationLemmas.{puts_none, puts_from, puts_next, puts_first, puts_end, stays_none, stays_then, rose_later}
use Rattle.es_process.proofs.application.Application.put_each_due.Goals as goal

pub loop-event-init : goal.loop-event-init
loop-event-init g c = record {
  put = λ h q told kept. puts_none (rules_of c.args.sys.now) h q c.args.events.now _ _ told kept;
  same = stays_none c.args.self.now;
  told = refl;
  settled = refl;
  same_used = refl;
}

pub loop-event-preserved : goal.loop-event-preserved
loop-event-preserved g c = record {
  put = λ h q told kept.
      puts_next (rules_of c.args.sys.now) h q c.args.events.now c.event-item.result _ _ _ _ _ tt
      (puts_from (rules_of c.args.sys.now) h q c.args.events.now c.loop-event.event-index c.event-item.result _ _ (omega (arith, c.loop-event-test.true, c.loop-event.auto.event-index-end)) c.event-item.is (c.loop-event.invariant.put h q told kept))
      (c.in-Ok.ensures {u = tt}).puts;
  same = stays_then c.loop-event.invariant.same c.put_due.ensures.same;
  told = c.put_due.ensures.told ∙ c.loop-event.invariant.told;
  settled = c.put_due.ensures.settled ∙ c.loop-event.invariant.settled;
  same_used = c.put_due.ensures.same_used ∙ c.loop-event.invariant.same_used;
}

pub returns-in-Err-clause-puts : goal.returns-in-Err-clause-puts
returns-in-Err-clause-puts g c = λ h q told kept.
    puts_first (rules_of c.args.sys.now) h q c.args.events.now c.event-item.result _ _ _ _ _ c.in-Err.fault
    (puts_from (rules_of c.args.sys.now) h q c.args.events.now c.loop-event.event-index c.event-item.result _ _ (omega (arith, c.loop-event-test.true, c.loop-event.auto.event-index-end)) c.event-item.is (c.loop-event.invariant.put h q told kept))
    (c.in-Err.ensures {u = tt}).puts

pub returns-in-Err-clause-same : goal.returns-in-Err-clause-same
returns-in-Err-clause-same g c = stays_then c.loop-event.invariant.same c.put_due.ensures.same

pub returns-in-Err-clause-told : goal.returns-in-Err-clause-told
returns-in-Err-clause-told g c = c.put_due.ensures.told ∙ c.loop-event.invariant.told

pub returns-in-Err-clause-settled : goal.returns-in-Err-clause-settled
returns-in-Err-clause-settled g c = c.put_due.ensures.settled ∙ c.loop-event.invariant.settled

pub returns-in-Err-clause-same_used : goal.returns-in-Err-clause-same_used
returns-in-Err-clause-same_used g c = c.put_due.ensures.same_used ∙ c.loop-event.invariant.same_used

pub returns-in-Err-clause-failed : goal.returns-in-Err-clause-failed
returns-in-Err-clause-failed g c = λ is. rose_later _ _ _ c.loop-event.invariant.same.later ((c.in-Err.ensures {u = tt}).failed (cc is))

pub returns-clause-puts : goal.returns-clause-puts
returns-clause-puts g c = λ h q told kept.
    puts_end (rules_of c.args.sys.now) h q c.args.events.now c.loop-event.event-index _ _ c.loop-event-test.false (c.loop-event.invariant.put h q told kept)
