use Rattle.std.proofs.Common.{◌+◌, ◌-◌, ◌^◌, subst, sym, arith}
use Rattle.es_domain.specs.inner.Overlay.{AreBelow}
use Rattle.es_domain.proofs.OverlayLemmas.{are_below_more}
use Rattle.es_domain.proofs.RunLemmas.{rule_fault}
use Rattle.es_domain.proofs.rules.run_rule.Goals as goal

pub returns-in-Err-effect_asked-clause-step : goal.returns-in-Err-effect_asked-clause-step
returns-in-Err-effect_asked-clause-step g c = λ number rest.
    rule_fault c.args.sys.now c.args.at c.args.rule.now.otherwise number rest (g.A.Aggregates.told c.effect_asked.new.reader) c.args.changed.now _ c.in-Ok.asked _ c.in-Err-effect_asked.fault c.in-Ok.ensures.asked
    (rw c.as_slice.ensures at c.in-Err-effect_asked.ensures.answer)

pub returns-in-Ok-after_some-clause-below : goal.returns-in-Ok-after_some-clause-below
returns-in-Ok-after_some-clause-below g c = λ limit large are.
    c.in-Ok-after_some.ensures.below c.args.sys.now (limit + 8) (are_below_more c.args.sys.now limit (limit + 8) c.args.changed.now (omega arith) are)
    (c.in-Ok-effect_asked.ensures.below limit large (subst (AreBelow c.args.sys.now limit) (sym c.as_slice.ensures) are))

pub returns-in-Ok-after_some-clause-new : goal.returns-in-Ok-after_some-clause-new
returns-in-Ok-after_some-clause-new g c =
    c.in-Ok-after_some.ensures.new c.args.sys.now (2 ^ 63 - 9 + 8)
    (c.in-Ok-effect_asked.ensures.below (2 ^ 63 - 9) (omega arith) (subst (AreBelow c.args.sys.now (2 ^ 63 - 9)) (sym c.as_slice.ensures) c.requires.changed))
