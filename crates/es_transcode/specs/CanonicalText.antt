-- The canonical text of a record, as a function of it.
use Rattle.std.specs.Prelude.{ℕ, List, [], ◌∷◌, codes}
use Rattle.serde_json.specs.Data.{Data, null, boolean, number, string, array, object, Items, no_items, item, Members, no_members, member}
use Rattle.serde_json.specs.Find.{of_integer}
use Rattle.serde_json.specs.Written.{compact_text}
use Rattle.uuid.specs.Text.{simple_text, lower}
use Rattle.es_model.specs.Values.{Record}
use Rattle.es_model.specs.declared.value.Atom.{Atom}
use Rattle.es_model.specs.declared.value.Atom.TheVariants as atom
use Rattle.es_model.specs.declared.value.Value.{Value}
use Rattle.es_model.specs.declared.value.Value.TheVariants as value
use Rattle.es_transcode.specs.MomentText.{moment_text}
use Rattle.es_transcode.specs.Texts.{decimal_text}
use Rattle.es_transcode.specs.RecordText.{tagged}

-- the text of an id, a moment or a decimal; the others have none
abbrev pub atom_text : Atom → List ℕ
atom_text atom.Null = []
atom_text (atom.Bool truth) = []
atom_text (atom.Int z) = []
atom_text (atom.Text text) = []
atom_text (atom.Uuid id) = simple_text lower id
atom_text (atom.Moment moment) = moment_text moment
atom_text (atom.Decimal d) = decimal_text d

abbrev pub atom_tree : Atom → Data
atom_tree atom.Null = null
atom_tree (atom.Bool truth) = boolean truth
atom_tree (atom.Int z) = number (of_integer z)
atom_tree (atom.Text text) = string text
atom_tree (atom.Uuid id) = tagged (codes "uuid_hex") (atom_text (atom.Uuid id))
atom_tree (atom.Moment moment) = tagged (codes "datetime_iso") (atom_text (atom.Moment moment))
atom_tree (atom.Decimal d) = tagged (codes "decimal_str") (atom_text (atom.Decimal d))

abbrev pub item_trees : List Atom → Items
item_trees [] = no_items
item_trees (a ∷ rest) = item (atom_tree a) (item_trees rest)

abbrev pub value_tree : Value → Data
value_tree (value.One a) = atom_tree a
value_tree (value.List items) = array (item_trees items)

-- the names, in order, each with the tree of its value
abbrev pub member_trees : Record → Members
member_trees [] = no_members
member_trees (x ∷ xs) = member x.0 (value_tree x.1) (member_trees xs)

abbrev pub record_tree : Record → Data
record_tree r = object (member_trees r)

-- the tree's text, with no space and the shortest escapes
unfoldable pub record_text : Record → List ℕ
record_text r = compact_text (record_tree r)
