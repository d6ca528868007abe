-- Laws of records and their trees.
use Rattle.std.proofs.Common.{◌≡◌, ◌≤◌, Some, arith, ℤ, pos, negsuc, FitsSigned, w64, List, [], ◌∷◌, ◌++◌, Result, Ok, Err, OnOk, refl, sym, subst}
use Rattle.std.specs.Fmt.{signed_decimal}
use Rattle.serde_json.specs.Data.{Data, Items, no_items, item, Members, no_members, member, depth, items_depth, members_depth}
use Rattle.serde_json.specs.declared.value.Value.{Value as Tree}
use Rattle.serde_json.specs.Find.{of_integer}
use Rattle.serde_json.specs.Read.{of_json, max_depth}
use Rattle.serde_json.specs.View.{view, items_view}
use Rattle.serde_json.specs.Written.{number_text, outline}
use Rattle.es_model.specs.Rising.{IsRising}
use Rattle.es_model.specs.Values.{Record}
use Rattle.es_model.specs.declared.value.Atom.{Atom}
use Rattle.es_model.specs.declared.value.Atom.TheVariants as atom
use Rattle.es_model.specs.declared.value.Value.{Value}
use Rattle.es_model.specs.declared.value.Value.TheVariants as value
use Rattle.es_transcode.specs.CanonicalText.{atom_tree, item_trees, value_tree, member_trees, record_tree}
use Rattle.es_transcode.specs.RecordText.{AreAtomTrees, IsAtomTree, IsValueTree, AreMembers, IsRecordTree}
use Rattle.es_transcode.proofs.OutlineLemmas.{IsWhole, HasWhole, ItemsHaveWhole, MembersHaveWhole, HasRising, ItemsHaveRising, MembersHaveRising, tree-back}

pub push-tree : (xs : List Atom) (vs : List Tree) (a : Atom) (v : Tree) → AreAtomTrees xs (items_view vs) → IsAtomTree a (view v) → AreAtomTrees (xs ++ a ∷ []) (items_view (vs ++ v ∷ []))
push-tree [] [] a v so here = (here, tt)
push-tree [] (w ∷ vs) a v so here = absurd so
push-tree (x ∷ xs) [] a v so here = absurd so
push-tree (x ∷ xs) (w ∷ vs) a v so here = (so.0, push-tree xs vs a v so.1 here)

-- the digits of a whole number
pub int-text : (z : ℤ) → signed_decimal z ≡ number_text (of_integer z)
int-text (pos n) = refl
int-text (negsuc n) = refl

-- ---- the numbers of a record are whole

whole-int : (z : ℤ) → FitsSigned w64 z → IsWhole (of_integer z)
whole-int (pos n) fits = grind (arith, fits)
whole-int (negsuc n) fits = grind (arith, fits)

whole-atom : (a : Atom) (d : Data) → IsAtomTree a d → HasWhole d
whole-atom atom.Null d is = subst HasWhole (sym is) tt
whole-atom (atom.Bool truth) d is = subst HasWhole (sym is) tt
whole-atom (atom.Int z) d is = subst HasWhole (sym is.1) (whole-int z is.0)
whole-atom (atom.Text text) d is = subst HasWhole (sym is) tt
whole-atom (atom.Uuid i) d is = subst HasWhole (sym is.2) (tt, (tt, tt))
whole-atom (atom.Moment m) d is = subst HasWhole (sym is.2) (tt, (tt, tt))
whole-atom (atom.Decimal n) d is = subst HasWhole (sym is.2) (tt, (tt, tt))

whole-atoms : (items : List Atom) (ds : Items) → AreAtomTrees items ds → ItemsHaveWhole ds
whole-atoms [] no_items so = tt
whole-atoms [] (item d ds) so = absurd so
whole-atoms (a ∷ items) no_items so = absurd so
whole-atoms (a ∷ items) (item d ds) so = (whole-atom a d so.0, whole-atoms items ds so.1)

whole-value : (v : Value) (d : Data) → IsValueTree v d → HasWhole d
whole-value (value.One a) d is = whole-atom a d is
whole-value (value.List items) d is = subst HasWhole (sym is.2) (whole-atoms items is.0 is.1)

whole-members : (r : Record) (ms : Members) → AreMembers r ms → MembersHaveWhole ms
whole-members [] no_members so = tt
whole-members [] (member k d ms) so = absurd so
whole-members (x ∷ xs) no_members so = absurd so
whole-members (x ∷ xs) (member k d ms) so = (whole-value x.1 d so.1, whole-members xs ms so.2)

pub whole-record : (r : Record) (d : Data) → IsRecordTree r d → HasWhole d
whole-record r d is = subst HasWhole (sym is.2) (whole-members r is.0 is.1)

-- ---- the names in its tree rise

rising-atom : (a : Atom) → HasRising (atom_tree a)
rising-atom atom.Null = tt
rising-atom (atom.Bool truth) = tt
rising-atom (atom.Int z) = tt
rising-atom (atom.Text text) = tt
rising-atom (atom.Uuid i) = (refl, tt, (tt, tt, tt))
rising-atom (atom.Moment m) = (refl, tt, (tt, tt, tt))
rising-atom (atom.Decimal n) = (refl, tt, (tt, tt, tt))

rising-items : (items : List Atom) → ItemsHaveRising (item_trees items)
rising-items [] = tt
rising-items (a ∷ items) = (rising-atom a, rising-items items)

rising-value : (v : Value) → HasRising (value_tree v)
rising-value (value.One a) = rising-atom a
rising-value (value.List items) = rising-items items

rising-members : (r : Record) → IsRising r → MembersHaveRising (member_trees r)
rising-members [] rising = tt
rising-members (x ∷ []) rising = (tt, rising-value x.1, tt)
rising-members (x ∷ y ∷ xs) rising = (rising.0, rising-value x.1, rising-members (y ∷ xs) rising.1)

-- so the tree is read from its outline, where its members were written
pub record-back : {E : Type 0} (written : Result (Unit {0}) E) (r s : Record) → s ≡ r → IsRising r → OnOk written (AreMembers s (member_trees s)) → OnOk written (of_json (outline (record_tree r)) ≡ Some (record_tree r))
record-back (Ok u) r s same rising are = tree-back (record_tree r) (rising-members r rising) (whole-members r (member_trees r) (subst (λ z. AreMembers z (member_trees z)) same are))
record-back (Err e) r s same rising are = tt

-- ---- it nests three levels at most

flat-atom : (a : Atom) → depth (atom_tree a) ≤ 1
flat-atom atom.Null = omega arith
flat-atom (atom.Bool truth) = omega arith
flat-atom (atom.Int z) = omega arith
flat-atom (atom.Text text) = omega arith
flat-atom (atom.Uuid id) = omega arith
flat-atom (atom.Moment m) = omega arith
flat-atom (atom.Decimal n) = omega arith

flat-items : (items : List Atom) → items_depth (item_trees items) ≤ 1
flat-items [] = omega arith
flat-items (a ∷ items) = omega (arith, flat-atom a, flat-items items)

flat-value : (v : Value) → depth (value_tree v) ≤ 2
flat-value (value.One a) = omega (arith, flat-atom a)
flat-value (value.List items) = omega (arith, flat-items items)

pub flat-members : (r : Record) → members_depth (member_trees r) ≤ 2
flat-members [] = omega arith
flat-members (x ∷ xs) = omega (arith, flat-value x.1, flat-members xs)

pub flat-record : (r : Record) → depth (record_tree r) ≤ max_depth
flat-record r = omega (arith, flat-members r)
