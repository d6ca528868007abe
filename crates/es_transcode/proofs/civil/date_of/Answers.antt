use Rattle.std.proofs.Common.{◌≡◌, ◌∙◌, ◌+ℤ◌, pos, subst, arith, IfOk, w64}
use Rattle.std.proofs.lemmas.Int.{to_z_pos, ints}
use Rattle.jiff_core.specs.Calendar.{IsEpochDay}
use Rattle.jiff_core.specs.Date.{epoch_day}
use Rattle.jiff_core.specs.Span.{IsOnly}
use Rattle.jiff_core.specs.declared.unit.Unit.TheVariants.{Day}
use Rattle.jiff_span.specs.Add.{date_add}
use Rattle.jiff.proofs.SpanFacts.{date_add-days, can_add-days}
use Rattle.es_transcode.proofs.civil.date_of.Goals as goal

only : (c : goal.After-checked_add) → IsOnly Day (pos c.args.days) c.days.result
only c = subst (λ z. IsOnly Day z c.days.result) (to_z_pos w64 c.args.days (omega arith)) c.days.ensures

pub unwrap-requires : goal.unwrap-requires
unwrap-requires c =
    let day : IsEpochDay (epoch_day c.epoch.result +ℤ pos c.args.days) = (omega (arith, ints, c.epoch.ensures), omega (arith, ints, c.epoch.ensures)) in
    c.checked_add.ensures.succeeds.1 ((can_add-days c.epoch.result (pos c.args.days) c.days.result (only c)).1 day)

pub returns : goal.returns
returns c =
    let days : IsOnly Day (pos c.args.days) c.days.result = subst (λ z. IsOnly Day z c.days.result) (to_z_pos w64 c.args.days (omega arith)) c.days.ensures in
    subst (λ r. IfOk r (λ d. epoch_day d ≡ date_add c.epoch.result c.days.result)) c.unwrap.ensures c.checked_add.ensures.value
    ∙ date_add-days c.epoch.result (pos c.args.days) c.days.result days ∙ omega (arith, ints, c.epoch.ensures)
