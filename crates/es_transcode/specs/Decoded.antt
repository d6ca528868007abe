-- The record of a tree and of a text, as functions.
use Rattle.std.specs.Prelude.{ℕ, ◌^◌, ℤ, pos, negsuc, nat_lt, ◌&&◌, List, [], ◌∷◌, codes, if◌then◌else◌, Option, None, Some}
use Rattle.std.specs.Option.{option_map, option_and_then}
use Rattle.std.specs.Str.{bytes_eq, is_utf8}
use Rattle.serde_json.specs.Data.{Num, unsigned, negative, float, Data, null, boolean, number, string, array, object, Items, no_items, item, Members, no_members, member}
use Rattle.serde_json.specs.Read.{read}
use Rattle.uuid.specs.Text.{simple_text, lower, parsed}
use Rattle.es_model.specs.Values.{Id, Record}
use Rattle.es_model.specs.declared.value.Atom.{Atom}
use Rattle.es_model.specs.declared.value.Atom.TheVariants as atom
use Rattle.es_model.specs.declared.value.Value.{Value}
use Rattle.es_model.specs.declared.value.Value.TheVariants as value
use Rattle.es_transcode.specs.Spelled.{moment_in, decimal_in}

-- the whole number of 64 bits, with a sign only where it is below 0
abbrev pub int_in : Num → Option ℤ
int_in (unsigned n) = if nat_lt n (2 ^ 63) then Some (pos n) else None
int_in (negative (pos n)) = None
int_in (negative (negsuc n)) = if nat_lt n (2 ^ 63) then Some (negsuc n) else None
int_in (float x) = None

-- the id of which these are the lower-case digits
abbrev pub id_at : Option Id → List ℕ → Option Id
id_at None text = None
id_at (Some id) text = if bytes_eq text (simple_text lower id) then Some id else None

abbrev pub id_in : List ℕ → Option Id
id_in text = id_at (parsed text) text

-- the atom with a text, of the kind that a word stands for
abbrev pub atom_named : List ℕ → List ℕ → Option Atom
atom_named word text =
    if bytes_eq word (codes "uuid_hex") then option_map atom.Uuid (id_in text) else (
    if bytes_eq word (codes "datetime_iso") then option_map atom.Moment (moment_in text) else (
    if bytes_eq word (codes "decimal_str") then option_map atom.Decimal (decimal_in text) else None))

-- an object that stands for an atom has exactly the two members, both texts
abbrev pub tagged_in : Members → Option Atom
tagged_in (member k (string text) (member l (string word) no_members)) =
    if bytes_eq k (codes "_data_") && bytes_eq l (codes "_type_") then atom_named word text else None
tagged_in ms = None

abbrev pub atom_in : Data → Option Atom
atom_in null = Some atom.Null
atom_in (boolean truth) = Some (atom.Bool truth)
atom_in (number n) = option_map atom.Int (int_in n)
atom_in (string text) = Some (atom.Text text)
atom_in (array ds) = None
atom_in (object ms) = tagged_in ms

abbrev pub with_first : {A : Type 0} → Option A → Option (List A) → Option (List A)
with_first (Some x) (Some xs) = Some (x ∷ xs)
with_first (Some x) None = None
with_first None xs = None

abbrev pub atoms_in : Items → Option (List Atom)
atoms_in no_items = Some []
atoms_in (item d ds) = with_first (atom_in d) (atoms_in ds)

abbrev pub value_in : Data → Option Value
value_in (array ds) = option_map value.List (atoms_in ds)
value_in d = option_map value.One (atom_in d)

abbrev pub members_in : Members → Option Record
members_in no_members = Some []
members_in (member k d ms) = with_first (option_map (λ v. (k, v)) (value_in d)) (members_in ms)

-- the record of a tree
abbrev pub record_in : Data → Option Record
record_in (object ms) = members_in ms
record_in d = None

-- the tree of a text in UTF-8 that is JSON and nests 127 levels at most
abbrev pub tree_in : List ℕ → Option Data
tree_in bytes = if is_utf8 bytes then read bytes else None

-- the record of a text
abbrev pub record_of : List ℕ → Option Record
record_of bytes = option_and_then record_in (tree_in bytes)
