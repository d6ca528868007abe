-- The text of a moment, by the calendar.
use Rattle.std.specs.Prelude.{ℕ, ◌≡◌, ◌+◌, ◌*◌, ◌<◌, ◌==◌, ℤ, pos, ◌+ℤ◌, ◌*ℤ◌, List, [], ◌++◌, codes, if◌then◌else◌}
use Rattle.jiff_core.specs.Calendar.{IsCivilDate, days_from_civil}
use Rattle.es_transcode.specs.declared.civil.Civil.{Civil}
use Rattle.es_transcode.specs.Padded.{padded}

-- the clock has this time of day
pub record IsTime (c : Civil) : Type 0 where
  pub hour : c.hour < 24
  pub minute : c.minute < 60
  pub second : c.second < 60
  pub micros : c.micros < 1000000

-- the calendar has this date, and the clock this time of day
pub record IsCivil (c : Civil) : Type 0 where
  pub date : IsCivilDate (pos c.year) c.month c.day
  pub time : IsTime c

-- the microseconds from the beginning of the day
abbrev pub micros_of_day : Civil → ℕ
micros_of_day c = ((c.hour * 60 + c.minute) * 60 + c.second) * 1000000 + c.micros

-- the microseconds from the beginning of 1970
abbrev pub micros_of : Civil → ℤ
micros_of c = days_from_civil (pos c.year) c.month c.day *ℤ pos 86400000000 +ℤ pos (micros_of_day c)

abbrev pub date_text : Civil → List ℕ
date_text c = padded 4 c.year ++ codes "-" ++ padded 2 c.month ++ codes "-" ++ padded 2 c.day

abbrev pub time_text : Civil → List ℕ
time_text c = padded 2 c.hour ++ codes ":" ++ padded 2 c.minute ++ codes ":" ++ padded 2 c.second

-- nothing where there are no microseconds, else all six digits
abbrev pub fraction_text : Civil → List ℕ
fraction_text c = if c.micros == 0 then [] else (codes "." ++ padded 6 c.micros)

abbrev pub iso_text : Civil → List ℕ
iso_text c = date_text c ++ codes "T" ++ time_text c ++ fraction_text c ++ codes "+00:00"

-- a text is that of the moment so many microseconds after the beginning of 1970
abbrev pub IsMomentText : ℤ → List ℕ → Type 0
IsMomentText micros text = (c : Civil) × IsCivil c × (micros_of c ≡ micros) × (text ≡ iso_text c)
