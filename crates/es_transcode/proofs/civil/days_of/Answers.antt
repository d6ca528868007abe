use Rattle.std.proofs.Common.{◌≡◌, ◌∙◌, sym, subst, refl, arith, rules, FitsSigned, IfOk, to_z, of_z, w32}
use Rattle.std.proofs.lemmas.Int.{to_z-of_z}
use Rattle.jiff_core.specs.Calendar.{IsEpochDay}
use Rattle.jiff_core.specs.Date.{epoch_day}
use Rattle.jiff_core.specs.declared.unit.Unit.TheVariants.{Day}
use Rattle.jiff_core.proofs.DateLemmas.{epoch_day_range}
use Rattle.jiff_span.specs.Difference.{IsDateDifference}
use Rattle.es_transcode.proofs.DateLemmas.{span-days}
use Rattle.es_transcode.proofs.civil.days_of.Goals as goal

is_day : (c : goal.After-get_days) → to_z w32 (of_z w32 c.get_days.result) ≡ epoch_day c.args.date
is_day c =
    let fits : FitsSigned w32 c.get_days.result = search rules in
    let gap : IsDateDifference Day c.epoch.result c.args.date c.unwrap.result = subst (λ r. IfOk r (IsDateDifference Day c.epoch.result c.args.date)) c.unwrap.ensures (c.until.ensures.value (refl, refl) (omega arith)) in
    to_z-of_z w32 c.get_days.result fits ∙ c.get_days.ensures ∙ span-days c.epoch.result c.args.date c.unwrap.result c.epoch.ensures gap

pub returns-clause-day : goal.returns-clause-day
returns-clause-day c = is_day c

pub returns-clause-range : goal.returns-clause-range
returns-clause-range c = subst IsEpochDay (sym (is_day c)) (epoch_day_range c.args.date)
