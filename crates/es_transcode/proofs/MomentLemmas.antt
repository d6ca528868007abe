-- Laws of moments by counting days.
use Rattle.std.proofs.Common.{◌≡◌, ◌∙◌, ◌<◌, ◌≤◌, ◌≤ℤ◌, ◌+ℤ◌, ◌*ℤ◌, ◌+◌, ◌*◌, ◌/◌, ◌%◌, ℕ, zero, suc, ℤ, pos, negsuc, Bool, true, false, nat_lt, if◌then◌else◌, List, refl, ap, arith, rules}
use Rattle.std.proofs.lemmas.Int.{ints, by_lt_z}
use Rattle.std.proofs.lemmas.Bool.{ltb-true, ltb-false}
use Rattle.jiff_core.specs.Calendar.{days_in_month, day_count, days_of_months, days_from_civil, IsCivilDate}
use Rattle.jiff_core.specs.declared.civil.date.Date.{Date as JiffDate}
use Rattle.jiff_core.proofs.SignedLemmas.{signed_arith}
use Rattle.jiff_core.proofs.CalendarLemmas.{day_count-epoch, day_count-end, days_from_civil-day_count, days_in_month_bounds, days_of_months_more, days_of_months_all, day_count-day_of_year, day_count-day, day_count-next_month, day_count-next_year, day_count-later_year, day_count_bounds}
use Rattle.jiff_core.proofs.DateLemmas.{epoch_day_injective}
use Rattle.es_transcode.specs.declared.civil.Civil.{Civil}
use Rattle.es_transcode.specs.CivilText.{IsCivil, IsTime, micros_of, micros_of_day, IsMomentText, iso_text}
use Rattle.es_transcode.specs.MomentText.{Date, date_at, civil_at, moment_text}

-- the day that comes so many days after the first of 1970
record IsDay (n : ℕ) (d : Date) : Type 0 where
  month : (1 ≤ d.month) × (d.month ≤ 12)
  day : (1 ≤ d.day) × (d.day ≤ days_in_month (pos d.year) d.month)
  count : day_count (pos d.year) d.month d.day ≡ n + 4371953

in_month : (n : ℕ) (d : Date) → IsDay n d → d.day < days_in_month (pos d.year) d.month → IsDay (suc n) (record { year = d.year; month = d.month; day = d.day + 1 })
in_month n d is more = record {
  month = is.month;
  day = (omega arith, omega arith);
  count = omega (arith, day_count-day (pos d.year) d.month d.day (d.day + 1) is.day.0 (omega arith), is.count);
}

next_month : (n : ℕ) (d : Date) → IsDay n d → days_in_month (pos d.year) d.month ≤ d.day → d.month < 12 → IsDay (suc n) (record { year = d.year; month = d.month + 1; day = 1 })
next_month n d is last more =
    let long = (days_in_month_bounds (pos d.year) (d.month + 1)).1 in
    record {
      month = (omega arith, omega arith);
      day = (omega arith, omega arith);
      count = omega (arith, day_count-next_month (pos d.year) d.month is.month.0, day_count-day (pos d.year) d.month d.day 1 is.day.0 (omega arith), is.count, is.day.1);
    }

next_year : (n : ℕ) (d : Date) → IsDay n d → days_in_month (pos d.year) d.month ≤ d.day → 12 ≤ d.month → IsDay (suc n) (record { year = d.year + 1; month = 1; day = 1 })
next_year n d is last late =
    let long = (days_in_month_bounds (pos (d.year + 1)) 1).1 in
    let december : d.month ≡ 12 = omega (arith, is.month.1) in
    let whole = ap (days_of_months (pos d.year)) december ∙ days_of_months_all (pos d.year) in
    let follows = day_count-next_year (pos d.year) (pos (d.year + 1)) (omega (arith, ints)) (omega (arith, ints)) in
    record {
      month = (omega arith, omega arith);
      day = (omega arith, omega arith);
      count = omega (arith, follows, whole, days_of_months_more (pos d.year) d.month is.month.0, day_count-day_of_year (pos d.year) d.month d.day is.day.0, is.count, is.day.1);
    }

next-by : (n : ℕ) (d : Date) (b e : Bool) → nat_lt d.day (days_in_month (pos d.year) d.month) ≡ b → nat_lt d.month 12 ≡ e → IsDay n d
    → IsDay (suc n) (if b then record { year = d.year; month = d.month; day = d.day + 1 } else (if e then record { year = d.year; month = d.month + 1; day = 1 } else record { year = d.year + 1; month = 1; day = 1 }))
next-by n d true e more rest is = in_month n d is (ltb-true d.day (days_in_month (pos d.year) d.month) more)
next-by n d false true more rest is = next_month n d is (ltb-false d.day (days_in_month (pos d.year) d.month) more) (ltb-true d.month 12 rest)
next-by n d false false more rest is = next_year n d is (ltb-false d.day (days_in_month (pos d.year) d.month) more) (ltb-false d.month 12 rest)

counted : (n : ℕ) → IsDay n (date_at n)
unfolding date_at
counted zero = record { month = (omega arith, omega arith); day = (omega arith, omega arith); count = day_count-epoch }
counted (suc n) = next-by n (date_at n) (nat_lt (date_at n).day (days_in_month (pos (date_at n).year) (date_at n).month)) (nat_lt (date_at n).month 12) refl refl (counted n)

date : (n : ℕ) (d : Date) → IsDay n d → n ≤ 2932896 → IsCivilDate (pos d.year) d.month d.day
date n d is few =
    by_lt_z (pos 9999) (pos d.year)
    (λ late. absurd (omega (arith, is.count, day_count-end, day_count-next_year (pos 9999) (pos 10000) (search rules) refl, day_count-later_year (pos 9999) (pos d.year) (search rules) late, day_count-day_of_year (pos d.year) d.month d.day is.day.0, is.day.0)))
    (λ early. ((omega (arith, ints), early), is.month, is.day))

jiff : (y : ℤ) (m k : ℕ) → IsCivilDate y m k → JiffDate
jiff y m k is = record { year = y; month = m; day = k; year_in = is.0; month_in = is.1; day_in = is.2 }

pos-same : (m n : ℕ) → pos m ≡ pos n → m ≡ n
pos-same m n same = cc

-- no other date comes so many days after the first of 1970
only-date : (n : ℕ) (d : Date) → IsDay n d → (y m k : ℕ) → IsCivilDate (pos y) m k → day_count (pos y) m k ≡ n + 4371953 → (y ≡ d.year) × (m ≡ d.month) × (k ≡ d.day)
unfolding jiff
only-date n d is y m k civil count =
    let here : IsCivilDate (pos d.year) d.month d.day = date n d is (omega (arith, count, (day_count_bounds (pos y) m k civil).1)) in
    let same : days_from_civil (pos y) m k ≡ days_from_civil (pos d.year) d.month d.day = omega (arith, signed_arith, days_from_civil-day_count, count, is.count) in
    let parts = epoch_day_injective (jiff (pos y) m k civil) (jiff (pos d.year) d.month d.day here) same in
    (pos-same y d.year parts.0, parts.1, parts.2)

-- the time of day

only-hour : (h m s u n : ℕ) → m < 60 → s < 60 → u < 1000000 → ((h * 60 + m) * 60 + s) * 1000000 + u ≡ n → h ≡ n / 3600000000
only-hour h m s u n a b c is = omega arith

only-minute : (h m s u n : ℕ) → m < 60 → s < 60 → u < 1000000 → ((h * 60 + m) * 60 + s) * 1000000 + u ≡ n → m ≡ n / 60000000 % 60
only-minute h m s u n a b c is = omega arith

only-second : (h m s u n : ℕ) → m < 60 → s < 60 → u < 1000000 → ((h * 60 + m) * 60 + s) * 1000000 + u ≡ n → s ≡ n / 1000000 % 60
only-second h m s u n a b c is = omega arith

only-micros : (h m s u n : ℕ) → m < 60 → s < 60 → u < 1000000 → ((h * 60 + m) * 60 + s) * 1000000 + u ≡ n → u ≡ n % 1000000
only-micros h m s u n a b c is = omega arith

of_day-few : (c : Civil) → IsTime c → micros_of_day c < 86400000000
of_day-few c is = omega (arith, is.hour, is.minute, is.second, is.micros)

-- the day and the time of day, out of the whole

split : (z : ℤ) (t k : ℕ) → t < 86400000000 → z *ℤ pos 86400000000 +ℤ pos t ≡ pos k → (z ≡ pos (k / 86400000000)) × (t ≡ k % 86400000000)
split (pos n) t k few is =
    let whole : n * 86400000000 + t ≡ k = pos-same (n * 86400000000 + t) k is in
    let days : n ≡ k / 86400000000 = omega arith in
    (ap pos days, omega arith)
split (negsuc n) t k few is = absurd (omega (arith, ints, is))

pub only-civil : (m : ℤ) → pos 0 ≤ℤ m → (c : Civil) → IsCivil c → micros_of c ≡ m → c ≡ civil_at m
only-civil (negsuc k) low c civil is = absurd (omega (arith, ints, low))
only-civil (pos k) low c civil is =
    let n = k / 86400000000 in
    let r = k % 86400000000 in
    let parts = split (days_from_civil (pos c.year) c.month c.day) (micros_of_day c) k (of_day-few c civil.time) is in
    let count : day_count (pos c.year) c.month c.day ≡ n + 4371953 = omega (arith, signed_arith, days_from_civil-day_count, parts.0) in
    let same = only-date n (date_at n) (counted n) c.year c.month c.day civil.date count in
    let time = civil.time in
    λ i. record {
      year = same.0 i;
      month = same.1 i;
      day = same.2 i;
      hour = only-hour c.hour c.minute c.second c.micros r time.minute time.second time.micros parts.1 i;
      minute = only-minute c.hour c.minute c.second c.micros r time.minute time.second time.micros parts.1 i;
      second = only-second c.hour c.minute c.second c.micros r time.minute time.second time.micros parts.1 i;
      micros = only-micros c.hour c.minute c.second c.micros r time.minute time.second time.micros parts.1 i;
    }

pub only-moment_text : (m : ℤ) (text : List ℕ) → pos 0 ≤ℤ m → IsMomentText m text → text ≡ moment_text m
unfolding moment_text
only-moment_text m text low is = is.3 ∙ ap iso_text (only-civil m low is.0 is.1 is.2)
