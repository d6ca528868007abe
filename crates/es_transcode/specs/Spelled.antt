-- The moments and decimals that texts spell, as functions of the texts.
use Rattle.std.specs.Prelude.{ℕ, ◌+◌, ◌-◌, ◌*◌, ◌^◌, ◌==◌, ℤ, pos, negsuc, neg_ℤ, int_le, nat_le, nat_lt, Bool, true, false, ◌&&◌, List, [], ◌∷◌, length, take, drop, if◌then◌else◌, Option, None, Some}
use Rattle.std.specs.Str.{bytes_eq}
use Rattle.jiff_core.specs.Calendar.{days_in_month}
use Rattle.es_model.specs.Scaled.{Scaled}
use Rattle.es_transcode.specs.CivilText.{micros_of, iso_text}
use Rattle.es_transcode.specs.Texts.{decimal_text, point_of}
use Rattle.es_transcode.specs.declared.civil.Civil.{Civil}

-- the number that some digits make, behind a number
abbrev pub number_from : ℕ → List ℕ → ℕ
number_from n [] = n
number_from n (b ∷ bs) = number_from (n * 10 + (b - 48)) bs

abbrev pub number_in : List ℕ → ℕ
number_in digits = number_from 0 digits

-- the numbers at their places in a text like `2026-12-01T06:25:00.000000+00:00`
abbrev pub civil_in : List ℕ → Civil
civil_in text = record {
  year = number_in (take 4 text);
  month = number_in (take 2 (drop 5 text));
  day = number_in (take 2 (drop 8 text));
  hour = number_in (take 2 (drop 11 text));
  minute = number_in (take 2 (drop 14 text));
  second = number_in (take 2 (drop 17 text));
  micros = if length text == 32 then number_in (take 6 (drop 20 text)) else 0;
}

-- the calendar has the date, and the clock the time of day
abbrev pub is_civil : Civil → Bool
is_civil c =
    nat_le c.year 9999 && nat_le 1 c.month && nat_le c.month 12 && nat_le 1 c.day && nat_le c.day (days_in_month (pos c.year) c.month)
    && nat_lt c.hour 24 && nat_lt c.minute 60 && nat_lt c.second 60 && nat_lt c.micros 1000000

-- from the beginning of 1970 to the end of the year 9999
abbrev pub is_moment : ℤ → Bool
is_moment z = int_le (pos 0) z && int_le z (pos 253402300799999999)

-- the moment of which this is the text
abbrev pub moment_at : Civil → List ℕ → Option ℤ
moment_at c text = if is_civil c && is_moment (micros_of c) && bytes_eq text (iso_text c) then Some (micros_of c) else None

unfoldable pub moment_in : List ℕ → Option ℤ
moment_in text = moment_at (civil_in text) text

abbrev pub is_negative : List ℕ → Bool
is_negative [] = false
is_negative (b ∷ bs) = b == 45

-- a text without a minus in front
abbrev pub unsigned : List ℕ → List ℕ
unsigned [] = []
unsigned (b ∷ bs) = if b == 45 then bs else b ∷ bs

abbrev pub signed : Bool → ℕ → ℤ
signed true n = neg_ℤ (pos n)
signed false n = pos n

-- the digits in front of the point, and those behind it
abbrev pub whole_in : List ℕ → List ℕ
whole_in text = take (point_of text) text

abbrev pub places_in : List ℕ → List ℕ
places_in text = drop 1 (drop (point_of text) text)

abbrev pub scaled_by : Bool → List ℕ → List ℕ → Scaled
scaled_by negative whole places = record { digits = signed negative (number_in whole * 10 ^ length places + number_in places); scale = length places }

-- the number with these digits and a point among them
abbrev pub scaled_in : List ℕ → Scaled
scaled_in text = scaled_by (is_negative text) (whole_in (unsigned text)) (places_in (unsigned text))

abbrev pub is_scaled : Scaled → Bool
is_scaled d = nat_le d.scale 6 && int_le (negsuc 9223372036854775807) d.digits && int_le d.digits (pos 9223372036854775807)

-- the decimal of which this is the text
abbrev pub decimal_at : Scaled → List ℕ → Option Scaled
decimal_at d text = if is_scaled d && bytes_eq text (decimal_text d) then Some d else None

unfoldable pub decimal_in : List ℕ → Option Scaled
decimal_in text = decimal_at (scaled_in text) text
