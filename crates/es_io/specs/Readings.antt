-- What a clock has to give: readings, and one for all after them.
use Rattle.std.specs.Prelude.{◌≡◌, ℤ, List, [], ◌∷◌, Option, Some, None}

pub record Readings : Type 0 where
  pub next : List ℤ
  pub after : ℤ

abbrev pub first_of : List ℤ → ℤ → ℤ
first_of [] after = after
first_of (m ∷ ms) after = m

abbrev pub rest_of : List ℤ → List ℤ
rest_of [] = []
rest_of (m ∷ ms) = ms

-- the reading that comes next
abbrev pub first_reading : Readings → ℤ
first_reading r = first_of r.next r.after

-- the readings after it
abbrev pub later_readings : Readings → Readings
later_readings r = record { next = rest_of r.next; after = r.after }

-- a reading is the next one, where they are told
abbrev pub Reads : Option Readings → ℤ → Type 0
Reads None reading = Unit {0}
Reads (Some r) reading = reading ≡ first_reading r

-- one reading was taken, where they are told
abbrev pub GoesOn : Option Readings → Option Readings → Type 0
GoesOn None new = Unit {0}
GoesOn (Some r) new = new ≡ Some (later_readings r)
