-- Laws of the canonical text as a function.
use Rattle.std.proofs.Common.{◌≡◌, ◌∙◌, ℕ, List, [], ◌∷◌, codes, refl, ap}
use Rattle.serde_json.specs.Data.{Data, object, array, Items, no_items, item, Members, no_members, member}
use Rattle.serde_json.specs.Written.{compact_text}
use Rattle.es_model.specs.Values.{Record}
use Rattle.es_model.specs.declared.value.Atom.{Atom}
use Rattle.es_model.specs.declared.value.Atom.TheVariants as atom
use Rattle.es_model.specs.declared.value.Value.{Value}
use Rattle.es_model.specs.declared.value.Value.TheVariants as value
use Rattle.es_transcode.specs.Texts.{HasText}
use Rattle.es_transcode.specs.RecordText.{tagged, IsAtomTree, AreAtomTrees, IsValueTree, AreMembers, IsRecordTree, IsRecordText}
use Rattle.es_transcode.specs.CanonicalText.{atom_text, atom_tree, item_trees, value_tree, member_trees, record_tree, record_text}
use Rattle.es_transcode.proofs.MomentLemmas.{only-moment_text}

-- there is no other text, and no other tree

pub only-text : (a : Atom) (text : List ℕ) → HasText a text → text ≡ atom_text a
only-text atom.Null text has = absurd has
only-text (atom.Bool truth) text has = absurd has
only-text (atom.Int z) text has = absurd has
only-text (atom.Text t) text has = absurd has
only-text (atom.Uuid id) text has = has.0
only-text (atom.Moment m) text has = only-moment_text m text has.0.0 has.1
only-text (atom.Decimal n) text has = has.1

pub only-atom_tree : (a : Atom) (d : Data) → IsAtomTree a d → d ≡ atom_tree a
only-atom_tree atom.Null d is = is
only-atom_tree (atom.Bool truth) d is = is
only-atom_tree (atom.Int z) d is = is.1
only-atom_tree (atom.Text text) d is = is
only-atom_tree (atom.Uuid id) d is = is.2 ∙ ap (tagged (codes "uuid_hex")) (only-text (atom.Uuid id) is.0 is.1)
only-atom_tree (atom.Moment m) d is = is.2 ∙ ap (tagged (codes "datetime_iso")) (only-text (atom.Moment m) is.0 is.1)
only-atom_tree (atom.Decimal n) d is = is.2 ∙ ap (tagged (codes "decimal_str")) (only-text (atom.Decimal n) is.0 is.1)

only-item_trees : (items : List Atom) (ds : Items) → AreAtomTrees items ds → ds ≡ item_trees items
only-item_trees [] no_items so = refl
only-item_trees [] (item d ds) so = absurd so
only-item_trees (a ∷ items) no_items so = absurd so
only-item_trees (a ∷ items) (item d ds) so = λ i. item (only-atom_tree a d so.0 i) (only-item_trees items ds so.1 i)

pub only-value_tree : (v : Value) (d : Data) → IsValueTree v d → d ≡ value_tree v
only-value_tree (value.One a) d is = only-atom_tree a d is
only-value_tree (value.List items) d is = is.2 ∙ ap array (only-item_trees items is.0 is.1)

only-member_trees : (r : Record) (ms : Members) → AreMembers r ms → ms ≡ member_trees r
only-member_trees [] no_members so = refl
only-member_trees [] (member k d ms) so = absurd so
only-member_trees (x ∷ xs) no_members so = absurd so
only-member_trees (x ∷ xs) (member k d ms) so = λ i. member (so.0 i) (only-value_tree x.1 d so.1 i) (only-member_trees xs ms so.2 i)

pub only-record_tree : (r : Record) (d : Data) → IsRecordTree r d → d ≡ record_tree r
only-record_tree r d is = is.2 ∙ ap object (only-member_trees r is.0 is.1)

pub only-record_text : (r : Record) (text : List ℕ) → IsRecordText r text → text ≡ record_text r
unfolding record_text
only-record_text r text is = is.3 ∙ ap compact_text (only-record_tree r is.0 is.2)
