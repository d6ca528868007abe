-- The text of a moment, by counting days.
use Rattle.std.specs.Prelude.{ℕ, zero, suc, ◌+◌, ◌/◌, ◌%◌, nat_lt, if◌then◌else◌, ℤ, pos, unsigned_abs, List}
use Rattle.jiff_core.specs.Calendar.{days_in_month}
use Rattle.es_transcode.specs.declared.civil.Civil.{Civil}
use Rattle.es_transcode.specs.CivilText.{iso_text}

-- a day of the calendar
pub record Date : Type 0 where
  pub year : ℕ
  pub month : ℕ
  pub day : ℕ

-- the next day of the month, else the first of the next month, else the first of the next year
abbrev pub day_after : Date → Date
day_after d =
    if nat_lt d.day (days_in_month (pos d.year) d.month) then record { year = d.year; month = d.month; day = d.day + 1 }
    else (if nat_lt d.month 12 then record { year = d.year; month = d.month + 1; day = 1 }
    else record { year = d.year + 1; month = 1; day = 1 })

-- so many days after the first of January 1970
unfoldable pub date_at : ℕ → Date
date_at zero = record { year = 1970; month = 1; day = 1 }
date_at (suc n) = day_after (date_at n)

-- a day, and so many microseconds from its beginning
abbrev pub at_time : Date → ℕ → Civil
at_time d n = record {
  year = d.year;
  month = d.month;
  day = d.day;
  hour = n / 3600000000;
  minute = n / 60000000 % 60;
  second = n / 1000000 % 60;
  micros = n % 1000000;
}

-- so many microseconds after the beginning of 1970
abbrev pub civil_at : ℤ → Civil
civil_at micros = at_time (date_at (unsigned_abs micros / 86400000000)) (unsigned_abs micros % 86400000000)

-- the text of the moment so many microseconds after the beginning of 1970
unfoldable pub moment_text : ℤ → List ℕ
moment_text micros = iso_text (civil_at micros)
