-- What is read from a tree, and the faults of a tree that isn't that of a record.
use Rattle.std.specs.Prelude.{ℕ, ◌≡◌, ◌⊎◌, List, codes, if◌then◌else◌, Option, None, Some, Result, Ok, Err}
use Rattle.std.specs.Str.{bytes_eq}
use Rattle.serde_json.specs.Data.{Data, number, string, array, object, Items, no_items, item, Members, no_members, member}
use Rattle.serde_json.specs.Find.{as_i64}
use Rattle.es_model.specs.Values.{Record}
use Rattle.es_model.specs.declared.value.Atom.{Atom}
use Rattle.es_model.specs.declared.value.AtomKind.{AtomKind}
use Rattle.es_model.specs.declared.value.AtomKind.TheVariants as kind
use Rattle.es_model.specs.declared.value.Value.{Value}
use Rattle.es_transcode.specs.declared.fault.DecodeFault.{DecodeFault}
use Rattle.es_transcode.specs.declared.fault.DecodeFault.TheVariants as fault
use Rattle.es_transcode.specs.RecordText.{IsAtomTree, IsValueTree, IsRecordTree, IsTreeOf}
use Rattle.es_transcode.specs.Texts.{kind_of, HasText}

-- the kind of the atoms that a word stands for
abbrev pub kind_named : List ℕ → Option AtomKind
kind_named word =
    if bytes_eq word (codes "uuid_hex") then Some kind.Uuid else (
    if bytes_eq word (codes "datetime_iso") then Some kind.Moment else (
    if bytes_eq word (codes "decimal_str") then Some kind.Decimal else None))

-- exactly the two members that stand for an atom, the second of them a word
abbrev pub pair : Data → List ℕ → Members
pair d word = member (codes "_data_") d (member (codes "_type_") (string word) no_members)

-- a tree is the text of an atom of a kind
abbrev pub IsTextOfKind : AtomKind → Data → Type 0
IsTextOfKind k d = (a : Atom) × (text : List ℕ) × (kind_of a ≡ Some k) × HasText a text × (d ≡ string text)

-- the fault of an object where an atom is to stand
abbrev pub IsTagFault : Members → DecodeFault → Type 0
IsTagFault ms fault.Shape = (d : Data) (word : List ℕ) → ms ≡ pair d word → ⊥
IsTagFault ms fault.UnknownType = (d : Data) × (word : List ℕ) × (ms ≡ pair d word) × (kind_named word ≡ None)
IsTagFault ms fault.BadData = (d : Data) × (word : List ℕ) × (k : AtomKind) × (ms ≡ pair d word) × (kind_named word ≡ Some k) × ¬ IsTextOfKind k d
IsTagFault ms f = ⊥

-- the fault of a tree that isn't that of an atom
abbrev pub IsAtomFault : Data → DecodeFault → Type 0
IsAtomFault (number n) f = (as_i64 n ≡ None) × (f ≡ fault.Number)
IsAtomFault (array ds) f = f ≡ fault.Deep
IsAtomFault (object ms) f = IsTagFault ms f
IsAtomFault d f = ⊥

-- the first fault of some items: all before it are trees of atoms
abbrev pub IsItemsFault : Items → DecodeFault → Type 0
IsItemsFault no_items f = ⊥
IsItemsFault (item d ds) f = IsAtomFault d f ⊎ (((a : Atom) × IsAtomTree a d) × IsItemsFault ds f)

-- the fault of a tree that isn't that of a value
abbrev pub IsValueFault : Data → DecodeFault → Type 0
IsValueFault (array ds) f = IsItemsFault ds f
IsValueFault d f = IsAtomFault d f

-- the first fault of some members: all before it have trees of values
abbrev pub IsMembersFault : Members → DecodeFault → Type 0
IsMembersFault no_members f = ⊥
IsMembersFault (member k d ms) f = IsValueFault d f ⊎ (((v : Value) × IsValueTree v d) × IsMembersFault ms f)

-- the fault of a tree that isn't that of a record
abbrev pub IsRecordFault : Data → DecodeFault → Type 0
IsRecordFault (object ms) f = IsMembersFault ms f
IsRecordFault d f = f ≡ fault.NotRecord

-- an answer: something that was read, a fault, or want of memory
abbrev pub Decodes : {A : Type 0} → (A → Type 0) → (DecodeFault → Type 0) → Result A DecodeFault → Type 0
Decodes reads faults (Ok a) = reads a
Decodes reads faults (Err fault.NoMemory) = Unit {0}
Decodes reads faults (Err f) = faults f

-- an answer to bytes: the record of their tree, that they have no tree, a fault of their tree, or want of memory
abbrev pub IsDecoded : List ℕ → Result Record DecodeFault → Type 0
IsDecoded bytes (Ok r) = (d : Data) × IsTreeOf bytes d × IsRecordTree r d
IsDecoded bytes (Err fault.NotJson) = (d : Data) → IsTreeOf bytes d → ⊥
IsDecoded bytes (Err fault.NoMemory) = Unit {0}
IsDecoded bytes (Err f) = (d : Data) × IsTreeOf bytes d × IsRecordFault d f
