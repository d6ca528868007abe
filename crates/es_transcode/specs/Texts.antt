-- The texts of ids, moments and decimals.
use Rattle.std.specs.Prelude.{ℕ, suc, ◌∷◌, ◌≡◌, ◌/◌, ◌%◌, ◌^◌, ◌==◌, ℤ, pos, negsuc, unsigned_abs, List, [], ◌++◌, codes, decimal, if◌then◌else◌, Option, None, Some}
use Rattle.uuid.specs.Text.{simple_text, lower, parsed}
use Rattle.es_model.specs.Scaled.{Scaled}
use Rattle.es_model.specs.Values.{IsValid}
use Rattle.es_model.specs.declared.value.Atom.{Atom}
use Rattle.es_model.specs.declared.value.Atom.TheVariants as atom
use Rattle.es_model.specs.declared.value.AtomKind.{AtomKind}
use Rattle.es_model.specs.declared.value.AtomKind.TheVariants as kind
use Rattle.es_transcode.specs.CivilText.{IsMomentText}
use Rattle.es_transcode.specs.Padded.{padded}

-- the kind of an atom; null has none
abbrev pub kind_of : Atom → Option AtomKind
kind_of atom.Null = None
kind_of (atom.Bool truth) = Some kind.Bool
kind_of (atom.Int number) = Some kind.Int
kind_of (atom.Text text) = Some kind.Text
kind_of (atom.Uuid id) = Some kind.Uuid
kind_of (atom.Moment moment) = Some kind.Moment
kind_of (atom.Decimal number) = Some kind.Decimal

abbrev pub sign : ℤ → List ℕ
sign (pos n) = []
sign (negsuc n) = codes "-"

-- so many places after a point, if there are any
abbrev pub places_text : ℕ → ℕ → List ℕ
places_text places n = if places == 0 then [] else (codes "." ++ padded places n)

-- the sign, the whole part with no zero in front, and the places
abbrev pub decimal_text : Scaled → List ℕ
decimal_text d = sign d.digits ++ decimal (unsigned_abs d.digits / 10 ^ d.scale) ++ places_text d.scale (unsigned_abs d.digits % 10 ^ d.scale)

-- how many bytes stand in front of the first point
abbrev pub point_of : List ℕ → ℕ
point_of [] = 0
point_of (b ∷ bs) = if b == 46 then 0 else suc (point_of bs)

-- an atom has a text: the digits that are read as an id, or the text of a moment or a decimal in range
abbrev pub HasText : Atom → List ℕ → Type 0
HasText atom.Null text = ⊥
HasText (atom.Bool truth) text = ⊥
HasText (atom.Int number) text = ⊥
HasText (atom.Text string) text = ⊥
HasText (atom.Uuid id) text = (text ≡ simple_text lower id) × (parsed text ≡ Some id)
HasText (atom.Moment moment) text = IsValid (atom.Moment moment) × IsMomentText moment text
HasText (atom.Decimal number) text = IsValid (atom.Decimal number) × (text ≡ decimal_text number)
