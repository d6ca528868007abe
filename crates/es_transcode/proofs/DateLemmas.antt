-- Days and times of day.
use Rattle.std.proofs.Common.{◌≡◌, ◌<◌, ◌≤ℤ◌, pos, ℤ, ◌-ℤ◌, ◌+◌, ◌*◌, ◌/◌, ◌%◌, ℕ, ◌⊎◌, inl, inr, refl, sym, ap, ◌∙◌, arith}
use lib.Dec.{T}
use lib.IntN.{nat_abs, negsuc}
use lib.Signed.{mag, non_neg}
use Rattle.std.proofs.Common.{Fits, w8, w64, to_z, of_z, rules}
use Rattle.std.proofs.lemmas.Int.{ints, by_lt_z, to_z_pos}
use Rattle.jiff_core.specs.Calendar.{days_from_civil}
use Rattle.jiff_core.specs.Date.{epoch_day}
use Rattle.jiff_core.specs.Sign.{signed}
use Rattle.jiff_core.specs.Units.{rank}
use Rattle.jiff_core.specs.Span.{amount}
use Rattle.jiff_core.specs.declared.civil.date.Date.{Date}
use Rattle.jiff_core.specs.declared.span.Span.{Span}
use Rattle.jiff_core.specs.declared.unit.Unit.TheVariants.{Day}
use Rattle.jiff_core.proofs.CalendarLemmas.{days_in_month_bounds, day_count-epoch, days_from_civil-day_count, day_count-lt_year}
use Rattle.jiff_core.proofs.DateLemmas.{civil}
use Rattle.jiff_span.specs.Difference.{IsDateDifference}
use Rattle.jiff_span.proofs.MonthLemmas.{add_months-zero}

first-day : days_from_civil (pos 1970) 1 1 ≡ pos 0
unfolding days_from_civil
first-day = rw day_count-epoch refl

pub epoch_day-first : (d : Date) → d.year ≡ pos 1970 → d.month ≡ 1 → d.day ≡ 1 → epoch_day d ≡ pos 0
epoch_day-first d y m n = (λ i. days_from_civil (y i) (m i) (n i)) ∙ first-day

pub year-from_1970 : (d : Date) → pos 0 ≤ℤ epoch_day d → pos 1970 ≤ℤ d.year
year-from_1970 d late = by_lt_z d.year (pos 1970)
    (λ early. absurd (omega (arith, ints, late, days_from_civil-day_count d.year d.month d.day, day_count-epoch, day_count-lt_year d.year d.month d.day (pos 1970) 1 1 (civil d) (omega arith) early)))
    (λ h. h)

days-alone : (weeks : ℕ) → (weeks ≡ 0) ⊎ (rank Day ≡ 7) → weeks ≡ 0
days-alone weeks (inl none) = none
days-alone weeks (inr both) = absurd (omega (arith, both))

pub span-days : (a b : Date) (s : Span) → epoch_day a ≡ pos 0 → IsDateDifference Day a b s → amount Day s ≡ epoch_day b
span-days a b s first h =
    let none : s.weeks ≡ 0 = days-alone s.weeks h.shape.weeks_only in
    let alone : s.weeks * 7 + s.days ≡ s.days = omega arith in
    sym (ap (signed s.negative) alone) ∙ h.shape.days_are ∙ ap (λ z. epoch_day b -ℤ z) (add_months-zero a ∙ first) ∙ omega (arith, ints)

pub time-parts : (n : ℕ) → ((n / 1000000 / 60 / 60 * 60 + n / 1000000 / 60 % 60) * 60 + n / 1000000 % 60) * 1000000 + n % 1000000 ≡ n
time-parts n = omega arith

-- what casts give

pub cast-year : (z : ℤ) → pos 1970 ≤ℤ z → mag z < 32768 → T (non_neg z) × Fits w64 (nat_abs z)
cast-year (pos n) late small = search (rules, small)
cast-year (negsuc n) late small = absurd (omega (arith, ints, late))

pub year-is : (z : ℤ) → pos 1970 ≤ℤ z → pos (nat_abs z) ≡ z
year-is (pos n) late = refl
year-is (negsuc n) late = absurd (omega (arith, ints, late))

pub small : (z : ℤ) (n : ℕ) → z ≡ pos n → n < 128 → nat_abs (to_z w8 (of_z w8 z)) ≡ n
small z n is few = ap (λ (x : ℤ). nat_abs (to_z w8 (of_z w8 x))) is ∙ ap nat_abs (to_z_pos w8 n few)

pub days_in_month-small : (d : Date) → d.day < 128
days_in_month-small d = omega (arith, d.day_in, (days_in_month_bounds d.year d.month).0)
