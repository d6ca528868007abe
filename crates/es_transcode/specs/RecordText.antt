-- Records as JSON trees, and as their texts.
use Rattle.std.specs.Prelude.{ℕ, ◌≡◌, List, [], ◌∷◌, codes, Some}
use Rattle.std.specs.Str.{IsUtf8}
use Rattle.serde_json.specs.Data.{Data, null, boolean, number, string, array, object, Items, no_items, item, Members, no_members, member}
use Rattle.serde_json.specs.Find.{of_integer}
use Rattle.serde_json.specs.Read.{read}
use Rattle.serde_json.specs.Written.{compact_text}
use Rattle.es_model.specs.Values.{Record, IsValid}
use Rattle.es_model.specs.declared.value.Atom.{Atom}
use Rattle.es_model.specs.declared.value.Atom.TheVariants as atom
use Rattle.es_model.specs.declared.value.Value.{Value}
use Rattle.es_model.specs.declared.value.Value.TheVariants as value
use Rattle.es_transcode.specs.Texts.{HasText}

-- the text of an atom beside the word of its kind
abbrev pub tagged : List ℕ → List ℕ → Data
tagged word text = object (member (codes "_data_") (string text) (member (codes "_type_") (string word) no_members))

-- the tree is that of an atom with such a text
abbrev pub IsTagged : List ℕ → Atom → Data → Type 0
IsTagged word a d = (text : List ℕ) × HasText a text × (d ≡ tagged word text)

-- a tree is that of an atom
abbrev pub IsAtomTree : Atom → Data → Type 0
IsAtomTree atom.Null d = d ≡ null
IsAtomTree (atom.Bool truth) d = d ≡ boolean truth
IsAtomTree (atom.Int z) d = IsValid (atom.Int z) × (d ≡ number (of_integer z))
IsAtomTree (atom.Text text) d = d ≡ string text
IsAtomTree (atom.Uuid id) d = IsTagged (codes "uuid_hex") (atom.Uuid id) d
IsAtomTree (atom.Moment m) d = IsTagged (codes "datetime_iso") (atom.Moment m) d
IsAtomTree (atom.Decimal n) d = IsTagged (codes "decimal_str") (atom.Decimal n) d

-- trees are those of atoms, in order
abbrev pub AreAtomTrees : List Atom → Items → Type 0
AreAtomTrees [] no_items = Unit {0}
AreAtomTrees [] (item d ds) = ⊥
AreAtomTrees (a ∷ rest) no_items = ⊥
AreAtomTrees (a ∷ rest) (item d ds) = IsAtomTree a d × AreAtomTrees rest ds

-- a tree is that of a value
abbrev pub IsValueTree : Value → Data → Type 0
IsValueTree (value.One a) d = IsAtomTree a d
IsValueTree (value.List items) d = (ds : Items) × AreAtomTrees items ds × (d ≡ array ds)

-- members are those of a record: its names, in order, each with the tree of its value
abbrev pub AreMembers : Record → Members → Type 0
AreMembers [] no_members = Unit {0}
AreMembers [] (member k d ms) = ⊥
AreMembers (x ∷ xs) no_members = ⊥
AreMembers (x ∷ xs) (member k d ms) = (k ≡ x.0) × IsValueTree x.1 d × AreMembers xs ms

-- a tree is that of a record
abbrev pub IsRecordTree : Record → Data → Type 0
IsRecordTree r d = (ms : Members) × AreMembers r ms × (d ≡ object ms)

-- bytes are a text in UTF-8, and JSON that nests 127 levels at most, of this tree
abbrev pub IsTreeOf : List ℕ → Data → Type 0
IsTreeOf bytes d = IsUtf8 bytes × (read bytes ≡ Some d)

-- the canonical text of a record: a text of its tree, with no space and the shortest escapes
abbrev pub IsRecordText : Record → List ℕ → Type 0
IsRecordText r text = (d : Data) × IsTreeOf text d × IsRecordTree r d × (text ≡ compact_text d)
