-- Names, ids, and the values of fields.
use Rattle.std.specs.Prelude.{ℕ, ◌≡◌, ◌≤◌, ◌<◌, ◌≤ℤ◌, pos, nat_le, Bool, true, false, ◌&&◌, List, [], ◌∷◌, length, All, FitsSigned}
use Rattle.std.specs.Int.{w64}
use Rattle.std.specs.List.{list_all}
use Rattle.std.specs.Str.{IsUtf8, bytes_eq}
use Rattle.es_model.specs.declared.limits.TheConstants.{MOST_TEXT_BYTES, MOST_ITEMS, MOST_PLACES}
use Rattle.es_model.specs.declared.value.Atom.{Atom}
use Rattle.es_model.specs.declared.value.Atom.TheVariants as atom
use Rattle.es_model.specs.declared.value.Value.{Value}
use Rattle.es_model.specs.declared.value.Value.TheVariants as value
use Rattle.es_model.specs.declared.value.AtomKind.{AtomKind}
use Rattle.es_model.specs.declared.value.AtomKind.TheVariants as atom_kind
use Rattle.es_model.specs.declared.value.Kind.{Kind}
use Rattle.es_model.specs.declared.value.Kind.TheVariants as kind

-- a name, as its UTF-8 bytes
abbrev pub Name : Type 0
Name = List ℕ

-- the id of an aggregate, as its sixteen bytes
abbrev pub Id : Type 0
Id = List ℕ

-- a record: values of names that rise in byte order
abbrev pub Record : Type 0
Record = List (Name × Value)

-- an atom's numbers are in their ranges
abbrev pub IsValid : Atom → Type 0
IsValid atom.Null = Unit {0}
IsValid (atom.Bool truth) = Unit {0}
IsValid (atom.Int number) = FitsSigned w64 number
IsValid (atom.Text text) = IsUtf8 text
IsValid (atom.Uuid id) = (length id ≡ 16) × All (λ b. b < 256) id
IsValid (atom.Moment moment) = (pos 0 ≤ℤ moment) × (moment ≤ℤ pos 253402300799999999)
IsValid (atom.Decimal decimal) = FitsSigned w64 decimal.digits × (decimal.scale ≤ MOST_PLACES)

-- each atom of a value is valid
abbrev pub IsValidValue : Value → Type 0
IsValidValue (value.One a) = IsValid a
IsValidValue (value.List items) = All IsValid items

-- an atom is of a kind, with a text that isn't too long; null is of none
abbrev pub atom_fits : Atom → AtomKind → Bool
atom_fits (atom.Bool truth) atom_kind.Bool = true
atom_fits (atom.Int number) atom_kind.Int = true
atom_fits (atom.Text text) atom_kind.Text = nat_le (length text) MOST_TEXT_BYTES
atom_fits (atom.Uuid id) atom_kind.Uuid = true
atom_fits (atom.Moment moment) atom_kind.Moment = true
atom_fits (atom.Decimal decimal) atom_kind.Decimal = true
atom_fits a k = false

-- a value is of a kind, with a list that isn't too long
abbrev pub fits : Value → Kind → Bool
fits (value.One a) (kind.One k) = atom_fits a k
fits (value.List items) (kind.List k) = nat_le (length items) MOST_ITEMS && list_all (λ a. atom_fits a k) items
fits v k = false

-- a record has exactly these names, each with a value of its kind
abbrev pub are_of_kinds : Record → List (Name × Kind) → Bool
are_of_kinds [] [] = true
are_of_kinds [] (k ∷ ks) = false
are_of_kinds (x ∷ xs) [] = false
are_of_kinds (x ∷ xs) (k ∷ ks) = bytes_eq x.0 k.0 && fits x.1 k.1 && are_of_kinds xs ks
