use lib.IntN.{nat_abs}
use Rattle.std.proofs.Common.{◌≡◌, ◌+ℤ◌, ◌*ℤ◌, pos, arith, to_z, of_z, w8}
use Rattle.jiff_core.specs.Calendar.{days_from_civil}
use Rattle.es_transcode.proofs.DateLemmas.{time-parts, small, days_in_month-small}
use Rattle.es_transcode.proofs.civil.civil_at.Goals as goal

pub returns-clause-moment : goal.returns-clause-moment
returns-clause-moment c =
    let m : nat_abs (to_z w8 (of_z w8 c.month.result)) ≡ c.args.date.month = small c.month.result c.args.date.month c.month.ensures (omega (arith, c.args.date.month_in)) in
    let d : nat_abs (to_z w8 (of_z w8 c.day.result)) ≡ c.args.date.day = small c.day.result c.args.date.day c.day.ensures (days_in_month-small c.args.date) in
    λ i. days_from_civil (c.year_of.ensures i) (m i) (d i) *ℤ pos 86400000000 +ℤ pos (time-parts c.args.of_day i)
