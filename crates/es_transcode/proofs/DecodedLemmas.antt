-- What the functions read is what trees and texts say.
use Rattle.std.proofs.Common.{◌≡◌, ◌∙◌, ◌^◌, ◌<◌, ℤ, pos, negsuc, ℕ, Bool, true, false, ◌&&◌, List, [], ◌∷◌, Option, Some, None, Ok, nat_lt, codes, if◌then◌else◌, refl, sym, ap, subst, arith, FitsSigned, w64}
use Rattle.std.specs.Option.{option_map, option_and_then}
use Rattle.std.specs.Str.{bytes_eq, is_utf8}
use Rattle.std.proofs.lemmas.Bool.{ltb-true}
use Rattle.std.proofs.lemmas.Slice.Eq.{bytes_eq-Decides}
use Rattle.std.proofs.lemmas.Str.{IsUtf8-from_is_utf8, is_utf8-from_IsUtf8}
use Rattle.serde_json.specs.Data.{Num, unsigned, negative, float, Data, null, boolean, number, string, array, object, Items, no_items, item, Members, no_members, member}
use Rattle.serde_json.specs.Find.{of_integer}
use Rattle.serde_json.specs.Read.{read}
use Rattle.uuid.specs.Text.{simple_text, lower, parsed}
use Rattle.es_model.specs.Values.{Id, Name, Record}
use Rattle.es_model.specs.declared.value.Atom.{Atom}
use Rattle.es_model.specs.declared.value.Atom.TheVariants as atom
use Rattle.es_model.specs.declared.value.Value.{Value}
use Rattle.es_model.specs.declared.value.Value.TheVariants as value
use Rattle.es_transcode.specs.declared.fault.DecodeFault.{DecodeFault}
use Rattle.es_transcode.specs.Decoded.{int_in, id_at, id_in, atom_named, tagged_in, atom_in, with_first, atoms_in, value_in, members_in, record_in, tree_in, record_of}
use Rattle.es_transcode.specs.Decoding.{IsRecordFault, IsDecoded}
use Rattle.es_transcode.specs.RecordText.{tagged, IsTagged, IsAtomTree, AreAtomTrees, IsValueTree, AreMembers, IsRecordTree, IsTreeOf}
use Rattle.es_transcode.specs.Spelled.{moment_in, decimal_in}
use Rattle.es_transcode.proofs.FaultLemmas.{no-record-fault}
use Rattle.es_transcode.proofs.OnlyLemmas.{no-array}
use Rattle.es_transcode.proofs.SpelledLemmas.{moment-spelled, moment-has, decimal-spelled, decimal-has}

-- ---- numbers

int-of : (z : ℤ) → FitsSigned w64 z → int_in (of_integer z) ≡ Some z
int-of (pos n) fits = let below : nat_lt n (2 ^ 63) ≡ true = grind (arith, fits) in rw below refl
int-of (negsuc n) fits = let below : nat_lt n (2 ^ 63) ≡ true = grind (arith, fits) in rw below refl

-- what is chosen by a test
chosen : {A : Type 0} (b : Bool) (x z : A) → (if b then Some x else None) ≡ Some z → (b ≡ true) × (x ≡ z)
chosen true x z h = (refl, cc)
chosen false x z h = cc

int-is : (n : Num) (z : ℤ) → int_in n ≡ Some z → FitsSigned w64 z × (n ≡ of_integer z)
int-is (unsigned n) z is =
    let found = chosen (nat_lt n (2 ^ 63)) (pos n) z is in
    let small : n < 2 ^ 63 = ltb-true n (2 ^ 63) found.0 in
    let fits : FitsSigned w64 (pos n) = grind (arith, small) in
    (subst (FitsSigned w64) found.1 fits, ap of_integer found.1)
int-is (negative (pos n)) z is = cc
int-is (negative (negsuc n)) z is =
    let found = chosen (nat_lt n (2 ^ 63)) (negsuc n) z is in
    let small : n < 2 ^ 63 = ltb-true n (2 ^ 63) found.0 in
    let fits : FitsSigned w64 (negsuc n) = grind (arith, small) in
    (subst (FitsSigned w64) found.1 fits, ap of_integer found.1)
int-is (float x) z is = cc

-- ---- ids

same : (t : List ℕ) → bytes_eq t t ≡ true
same t = (bytes_eq-Decides t t).1 refl

id-of : (id : Id) (text : List ℕ) → text ≡ simple_text lower id → parsed text ≡ Some id → id_in text ≡ Some id
id-of id text is reads =
    ap (λ o. id_at o text) reads ∙ ap (λ t. if bytes_eq text t then Some id else None) (sym is) ∙ rw (same text) refl

id-is-at : (o : Option Id) (text : List ℕ) (id : Id) → id_at o text ≡ Some id → (text ≡ simple_text lower id) × (o ≡ Some id)
id-is-at None text id is = cc
id-is-at (Some u) text id is =
    let found = chosen (bytes_eq text (simple_text lower u)) u id is in
    ((bytes_eq-Decides text (simple_text lower u)).0 found.0 ∙ ap (simple_text lower) found.1, ap (λ x. Some x) found.1)

-- ---- atoms

-- what is mapped
mapped : {A B : Type 0} (f : A → B) (o : Option A) (b : B) → option_map f o ≡ Some b → (a : A) × (o ≡ Some a) × (f a ≡ b)
mapped f None b is = cc
mapped f (Some a) b is = (a, refl, cc)

pub atom-of-tree : (a : Atom) (d : Data) → IsAtomTree a d → atom_in d ≡ Some a
atom-of-tree atom.Null d is = ap atom_in is
atom-of-tree (atom.Bool truth) d is = ap atom_in is
atom-of-tree (atom.Int z) d (valid, is) = ap atom_in is ∙ ap (option_map atom.Int) (int-of z valid)
atom-of-tree (atom.Text text) d is = ap atom_in is
atom-of-tree (atom.Uuid id) d (text, has, is) = ap atom_in is ∙ ap (option_map atom.Uuid) (id-of id text has.0 has.1)
atom-of-tree (atom.Moment m) d (text, has, is) = ap atom_in is ∙ ap (option_map atom.Moment) (moment-spelled text m has.1 has.0.0 has.0.1)
atom-of-tree (atom.Decimal n) d (text, has, is) = ap atom_in is ∙ ap (option_map atom.Decimal) (decimal-spelled text n has.1 has.0.0 has.0.1)

-- which of three words stands there
which : {A : Type 0} (b c e : Bool) (x y z : Option A) (a : A) → (if b then x else (if c then y else (if e then z else None))) ≡ Some a
    → (P : Type 0) → (b ≡ true → x ≡ Some a → P) → (c ≡ true → y ≡ Some a → P) → (e ≡ true → z ≡ Some a → P) → P
which true c e x y z a is P p q r = p refl is
which false true e x y z a is P p q r = q refl is
which false false true x y z a is P p q r = r refl is
which false false false x y z a is P p q r = absurd (cc is)

module _ (a : Atom) (word text : List ℕ) where
  named-id : bytes_eq word (codes "uuid_hex") ≡ true → option_map atom.Uuid (id_in text) ≡ Some a → IsAtomTree a (tagged word text)
  named-id w is =
      let found = mapped atom.Uuid (id_in text) a is in
      let has = id-is-at (parsed text) text found.0 found.1 in
      let tree : IsTagged (codes "uuid_hex") (atom.Uuid found.0) (tagged word text) = (text, has, ap (λ v. tagged v text) ((bytes_eq-Decides word (codes "uuid_hex")).0 w)) in
      subst (λ x. IsAtomTree x (tagged word text)) found.2 tree

  named-moment : bytes_eq word (codes "datetime_iso") ≡ true → option_map atom.Moment (moment_in text) ≡ Some a → IsAtomTree a (tagged word text)
  named-moment w is =
      let found = mapped atom.Moment (moment_in text) a is in
      let has = moment-has text found.0 found.1 in
      let tree : IsTagged (codes "datetime_iso") (atom.Moment found.0) (tagged word text) = (text, ((has.1, has.2), has.0), ap (λ v. tagged v text) ((bytes_eq-Decides word (codes "datetime_iso")).0 w)) in
      subst (λ x. IsAtomTree x (tagged word text)) found.2 tree

  named-decimal : bytes_eq word (codes "decimal_str") ≡ true → option_map atom.Decimal (decimal_in text) ≡ Some a → IsAtomTree a (tagged word text)
  named-decimal w is =
      let found = mapped atom.Decimal (decimal_in text) a is in
      let has = decimal-has text found.0 found.1 in
      let tree : IsTagged (codes "decimal_str") (atom.Decimal found.0) (tagged word text) = (text, ((has.1, has.2), has.0), ap (λ v. tagged v text) ((bytes_eq-Decides word (codes "decimal_str")).0 w)) in
      subst (λ x. IsAtomTree x (tagged word text)) found.2 tree

  named-tree : atom_named word text ≡ Some a → IsAtomTree a (tagged word text)
  named-tree is =
      which (bytes_eq word (codes "uuid_hex")) (bytes_eq word (codes "datetime_iso")) (bytes_eq word (codes "decimal_str"))
      (option_map atom.Uuid (id_in text)) (option_map atom.Moment (moment_in text)) (option_map atom.Decimal (decimal_in text)) a is
      (IsAtomTree a (tagged word text)) named-id named-moment named-decimal

-- two members that stand for an atom
both : (b c : Bool) (o : Option Atom) (a : Atom) → (if b && c then o else None) ≡ Some a → (b ≡ true) × (c ≡ true) × (o ≡ Some a)
both true true o a is = (refl, refl, is)
both true false o a is = cc
both false c o a is = cc

tagged-tree : (k l text word : List ℕ) (a : Atom) → (if bytes_eq k (codes "_data_") && bytes_eq l (codes "_type_") then atom_named word text else None) ≡ Some a
    → IsAtomTree a (object (member k (string text) (member l (string word) no_members)))
tagged-tree k l text word a is =
    let parts = both (bytes_eq k (codes "_data_")) (bytes_eq l (codes "_type_")) (atom_named word text) a is in
    let first : k ≡ codes "_data_" = (bytes_eq-Decides k (codes "_data_")).0 parts.0 in
    let second : l ≡ codes "_type_" = (bytes_eq-Decides l (codes "_type_")).0 parts.1 in
    let trees : tagged word text ≡ object (member k (string text) (member l (string word) no_members)) = λ i. object (member (sym first i) (string text) (member (sym second i) (string word) no_members)) in
    subst (IsAtomTree a) trees (named-tree a word text parts.2)

object-tree : (ms : Members) (a : Atom) → tagged_in ms ≡ Some a → IsAtomTree a (object ms)
object-tree no_members a is = absurd (cc is)
object-tree (member k null ms) a is = absurd (cc is)
object-tree (member k (boolean b) ms) a is = absurd (cc is)
object-tree (member k (number n) ms) a is = absurd (cc is)
object-tree (member k (array ds) ms) a is = absurd (cc is)
object-tree (member k (object os) ms) a is = absurd (cc is)
object-tree (member k (string text) no_members) a is = absurd (cc is)
object-tree (member k (string text) (member l null ms)) a is = absurd (cc is)
object-tree (member k (string text) (member l (boolean b) ms)) a is = absurd (cc is)
object-tree (member k (string text) (member l (number n) ms)) a is = absurd (cc is)
object-tree (member k (string text) (member l (array ds) ms)) a is = absurd (cc is)
object-tree (member k (string text) (member l (object os) ms)) a is = absurd (cc is)
object-tree (member k (string text) (member l (string word) no_members)) a is = tagged-tree k l text word a is
object-tree (member k (string text) (member l (string word) (member m d ms))) a is = absurd (cc is)

one : {A : Type 0} (x y : A) → Some x ≡ Some y → x ≡ y
one x y is = cc

number-tree : (n : Num) (a : Atom) → option_map atom.Int (int_in n) ≡ Some a → IsAtomTree a (number n)
number-tree n a is =
    let found = mapped atom.Int (int_in n) a is in
    let int = int-is n found.0 found.1 in
    let tree : IsAtomTree (atom.Int found.0) (number n) = (int.0, ap number int.1) in
    subst (λ x. IsAtomTree x (number n)) found.2 tree

pub tree-of-atom : (d : Data) (a : Atom) → atom_in d ≡ Some a → IsAtomTree a d
tree-of-atom null a is = subst (λ x. IsAtomTree x null) (one atom.Null a is) refl
tree-of-atom (boolean truth) a is = subst (λ x. IsAtomTree x (boolean truth)) (one (atom.Bool truth) a is) refl
tree-of-atom (number n) a is = number-tree n a is
tree-of-atom (string text) a is = subst (λ x. IsAtomTree x (string text)) (one (atom.Text text) a is) refl
tree-of-atom (array ds) a is = absurd (cc is)
tree-of-atom (object ms) a is = object-tree ms a is

-- ---- values

-- what comes first, and the others
parted : {A : Type 0} (o : Option A) (os : Option (List A)) (ys : List A) → with_first o os ≡ Some ys → (x : A) × (xs : List A) × (o ≡ Some x) × (os ≡ Some xs) × (x ∷ xs ≡ ys)
parted None os ys is = cc
parted (Some x) None ys is = cc
parted (Some x) (Some xs) ys is = (x, xs, refl, refl, cc)

atoms-of-trees : (xs : List Atom) (ds : Items) → AreAtomTrees xs ds → atoms_in ds ≡ Some xs
atoms-of-trees [] no_items are = refl
atoms-of-trees [] (item d ds) are = absurd are
atoms-of-trees (x ∷ xs) no_items are = absurd are
atoms-of-trees (x ∷ xs) (item d ds) are = λ i. with_first (atom-of-tree x d are.0 i) (atoms-of-trees xs ds are.1 i)

trees-of-atoms : (ds : Items) (xs : List Atom) → atoms_in ds ≡ Some xs → AreAtomTrees xs ds
trees-of-atoms no_items xs is = subst (λ ys. AreAtomTrees ys no_items) (one [] xs is) tt
trees-of-atoms (item d ds) xs is =
    let parts = parted (atom_in d) (atoms_in ds) xs is in
    subst (λ ys. AreAtomTrees ys (item d ds)) parts.4 (tree-of-atom d parts.0 parts.2, trees-of-atoms ds parts.1 parts.3)

pub value-of-tree : (v : Value) (d : Data) → IsValueTree v d → value_in d ≡ Some v
value-of-tree (value.One a) null is = ap (option_map value.One) (atom-of-tree a null is)
value-of-tree (value.One a) (boolean b) is = ap (option_map value.One) (atom-of-tree a (boolean b) is)
value-of-tree (value.One a) (number n) is = ap (option_map value.One) (atom-of-tree a (number n) is)
value-of-tree (value.One a) (string s) is = ap (option_map value.One) (atom-of-tree a (string s) is)
value-of-tree (value.One a) (array ds) is = absurd (no-array a (array ds) ds refl is)
value-of-tree (value.One a) (object ms) is = ap (option_map value.One) (atom-of-tree a (object ms) is)
value-of-tree (value.List xs) d (ds, are, is) = ap value_in is ∙ ap (option_map value.List) (atoms-of-trees xs ds are)

one-tree : (d : Data) (v : Value) → option_map value.One (atom_in d) ≡ Some v → IsValueTree v d
one-tree d v is = let found = mapped value.One (atom_in d) v is in subst (λ w. IsValueTree w d) found.2 (tree-of-atom d found.0 found.1)

list-tree : (ds : Items) (v : Value) → option_map value.List (atoms_in ds) ≡ Some v → IsValueTree v (array ds)
list-tree ds v is =
    let found = mapped value.List (atoms_in ds) v is in
    let tree : IsValueTree (value.List found.0) (array ds) = (ds, trees-of-atoms ds found.0 found.1, refl) in
    subst (λ w. IsValueTree w (array ds)) found.2 tree

pub tree-of-value : (d : Data) (v : Value) → value_in d ≡ Some v → IsValueTree v d
tree-of-value null v is = one-tree null v is
tree-of-value (boolean b) v is = one-tree (boolean b) v is
tree-of-value (number n) v is = one-tree (number n) v is
tree-of-value (string s) v is = one-tree (string s) v is
tree-of-value (array ds) v is = list-tree ds v is
tree-of-value (object ms) v is = one-tree (object ms) v is

-- ---- records

members-of-trees : (r : Record) (ms : Members) → AreMembers r ms → members_in ms ≡ Some r
members-of-trees [] no_members are = refl
members-of-trees [] (member k d ms) are = absurd are
members-of-trees (x ∷ xs) no_members are = absurd are
members-of-trees (x ∷ xs) (member k d ms) are =
    let first : option_map (λ v. (k, v)) (value_in d) ≡ Some x = ap (option_map (λ v. (k, v))) (value-of-tree x.1 d are.1) ∙ (λ i. Some (are.0 i, x.1)) in
    λ i. with_first (first i) (members-of-trees xs ms are.2 i)

trees-of-members : (ms : Members) (r : Record) → members_in ms ≡ Some r → AreMembers r ms
trees-of-members no_members r is = subst (λ s. AreMembers s no_members) (one [] r is) tt
trees-of-members (member k d ms) r is =
    let parts = parted (option_map (λ v. (k, v)) (value_in d)) (members_in ms) r is in
    let first = mapped (λ (v : Value). (k, v)) (value_in d) parts.0 parts.2 in
    let name : k ≡ parts.0.0 = ap (λ (x : Name × Value). x.0) first.2 in
    let v : first.0 ≡ parts.0.1 = ap (λ (x : Name × Value). x.1) first.2 in
    subst (λ s. AreMembers s (member k d ms)) parts.4 (name, subst (λ w. IsValueTree w d) v (tree-of-value d first.0 first.1), trees-of-members ms parts.1 parts.3)

pub record-of-tree : (d : Data) (r : Record) → IsRecordTree r d → record_in d ≡ Some r
record-of-tree d r (ms, are, is) = ap record_in is ∙ members-of-trees r ms are

pub tree-of-record : (d : Data) (r : Record) → record_in d ≡ Some r → IsRecordTree r d
tree-of-record null r is = absurd (cc is)
tree-of-record (boolean b) r is = absurd (cc is)
tree-of-record (number n) r is = absurd (cc is)
tree-of-record (string s) r is = absurd (cc is)
tree-of-record (array ds) r is = absurd (cc is)
tree-of-record (object ms) r is = (ms, trees-of-members ms r is, refl)

nothing : {A : Type 0} (o : Option A) → ((x : A) → o ≡ Some x → ⊥) → o ≡ None
nothing None never = refl
nothing (Some x) never = absurd (never x refl)

pub no-record : (d : Data) (f : DecodeFault) → IsRecordFault d f → record_in d ≡ None
no-record d f bad = nothing (record_in d) (λ r is. no-record-fault f r d (tree-of-record d r is) bad)

-- ---- texts

tree-of-text : (b : Bool) (o : Option Data) (d : Data) → b ≡ true → o ≡ Some d → (if b then o else None) ≡ Some d
tree-of-text true o d utf8 is = is
tree-of-text false o d utf8 is = cc

text-of-tree : (b : Bool) (o : Option Data) (d : Data) → (if b then o else None) ≡ Some d → (b ≡ true) × (o ≡ Some d)
text-of-tree true o d is = (refl, is)
text-of-tree false o d is = cc

pub found-tree : (bytes : List ℕ) (d : Data) → tree_in bytes ≡ Some d → IsTreeOf bytes d
found-tree bytes d is =
    let parts = text-of-tree (is_utf8 bytes) (read bytes) d is in
    (IsUtf8-from_is_utf8 bytes parts.0, parts.1)

pub no-tree : (bytes : List ℕ) → tree_in bytes ≡ None → (d : Data) → IsTreeOf bytes d → ⊥
no-tree bytes is d tree =
    let both : None ≡ Some d = sym is ∙ tree-of-text (is_utf8 bytes) (read bytes) d (is_utf8-from_IsUtf8 bytes tree.0) tree.1 in
    absurd (cc both)

pub record-of-decoded : (bytes : List ℕ) (r : Record) → IsDecoded bytes (Ok r) → record_of bytes ≡ Some r
record-of-decoded bytes r (d, tree, is) = ap (option_and_then record_in) (tree-of-text (is_utf8 bytes) (read bytes) d (is_utf8-from_IsUtf8 bytes tree.0) tree.1) ∙ record-of-tree d r is

from-tree : (o : Option Data) (r : Record) → option_and_then record_in o ≡ Some r → (d : Data) × (o ≡ Some d) × IsRecordTree r d
from-tree None r is = absurd (cc is)
from-tree (Some d) r is = (d, refl, tree-of-record d r is)

pub decoded-of-record : (bytes : List ℕ) (r : Record) → record_of bytes ≡ Some r → IsDecoded bytes (Ok r)
decoded-of-record bytes r is =
    let found = from-tree (tree_in bytes) r is in
    (found.0, found-tree bytes found.0 found.1, found.2)
