-- Laws of what is read from a tree.
use Rattle.std.proofs.Common.{◌≡◌, ◌∙◌, ◌<◌, ◌+◌, ℕ, List, [], ◌∷◌, ◌++◌, length, take, drop, get_or, Result, Ok, Err, inl, inr, refl, sym, ap, subst, add-one, String, Global, take-append-drop, drop-cons}
use Rattle.std.proofs.Math.Seq.{take-suc}
use Rattle.serde_json.specs.Data.{Data, null, boolean, number, string, array, object, Items, no_items, item, Members, no_members, member}
use Rattle.serde_json.specs.View.{view, items_view, members_view}
use Rattle.serde_json.specs.declared.value.Value.{Value as Tree}
use Rattle.std.proofs.Common.{IsTrue, string_bytes}
use Rattle.std.specs.Ordering.{is_lt}
use Rattle.std.specs.List.Sorted.{IsStrictlySortedBy}
use Rattle.std.specs.String.{string_cmp}
use Rattle.std.specs.Map.{keys_of}
use Rattle.serde_json.proofs.Views.{Entry}
use Rattle.es_model.specs.Rising.{comes_last, is_before}
use Rattle.es_model.specs.Values.{Name, Record}
use Rattle.es_model.specs.declared.value.Value.{Value}
use Rattle.es_model.specs.declared.value.Atom.{Atom}
use Rattle.es_transcode.specs.declared.fault.DecodeFault.{DecodeFault}
use Rattle.es_transcode.specs.declared.fault.DecodeFault.TheVariants as fault
use Rattle.es_transcode.specs.RecordText.{AreAtomTrees, IsAtomTree, IsValueTree, AreMembers, IsRecordTree, IsTreeOf}
use Rattle.es_transcode.specs.Decoding.{Decodes, IsAtomFault, IsItemsFault, IsValueFault, IsMembersFault, IsRecordFault, IsDecoded}
use Rattle.es_transcode.proofs.RecordLemmas.{push-tree}

pub two-long : (es : List (String Global × Tree)) (k l : List ℕ) (d e : Data) → members_view es ≡ member k d (member l e no_members) → length es ≡ 2
two-long [] k l d e is = cc
two-long (x ∷ []) k l d e is = cc
two-long (x ∷ y ∷ []) k l d e is = refl
two-long (x ∷ y ∷ z ∷ es) k l d e is = cc

-- a fault of a part that is one of the whole
pub still : {A B : Type 0} (P : A → Type 0) (Q : B → Type 0) (F G : DecodeFault → Type 0) → ((f : DecodeFault) → F f → G f) → (f : DecodeFault) → Decodes P F (Err f) → Decodes Q G (Err f)
still P Q F G more fault.NotJson is = more fault.NotJson is
still P Q F G more fault.NotRecord is = more fault.NotRecord is
still P Q F G more fault.Number is = more fault.Number is
still P Q F G more fault.Shape is = more fault.Shape is
still P Q F G more fault.UnknownType is = more fault.UnknownType is
still P Q F G more fault.BadData is = more fault.BadData is
still P Q F G more fault.Deep is = more fault.Deep is
still P Q F G more fault.NoMemory is = tt

-- a list at a place
pub around : {A : Type 0} (ts : List A) (i : ℕ) (t : A) → i < length ts → t ≡ get_or ts i t → ts ≡ take i ts ++ t ∷ drop (i + 1) ts
around ts i t within is = sym (take-append-drop i ts) ∙ (λ k. take i ts ++ (drop-cons ts i t within ∙ (λ j. sym is j ∷ drop (sym (add-one i) j) ts)) k)

pub upto : {A : Type 0} (ts : List A) (i : ℕ) (t : A) → i < length ts → t ≡ get_or ts i t → take (i + 1) ts ≡ take i ts ++ t ∷ []
upto ts i t within is = ap (λ n. take n ts) (add-one i) ∙ take-suc ts i t within ∙ (λ k. take i ts ++ sym is k ∷ [])

later-items : (xs : List Atom) (vs rest : List Tree) (f : DecodeFault) → AreAtomTrees xs (items_view vs) → IsItemsFault (items_view rest) f → IsItemsFault (items_view (vs ++ rest)) f
later-items [] [] rest f so is = is
later-items [] (v ∷ vs) rest f so is = absurd so
later-items (x ∷ xs) [] rest f so is = absurd so
later-items (x ∷ xs) (v ∷ vs) rest f so is = inr ((x, so.0), later-items xs vs rest f so.1 is)

pub items-fault : (xs : List Atom) (ts : List Tree) (i : ℕ) (t : Tree) → i < length ts → t ≡ get_or ts i t → AreAtomTrees xs (items_view (take i ts)) → (f : DecodeFault) → IsAtomFault (view t) f → IsItemsFault (items_view ts) f
items-fault xs ts i t within is so f here = subst (λ us. IsItemsFault (items_view us) f) (sym (around ts i t within is)) (later-items xs (take i ts) (t ∷ drop (i + 1) ts) f so (inl here))

pub items-step : (xs ys : List Atom) (ts : List Tree) (i : ℕ) (t : Tree) (a : Atom) → i < length ts → t ≡ get_or ts i t → AreAtomTrees xs (items_view (take i ts)) → IsAtomTree a (view t) → ys ≡ xs ++ a ∷ [] → AreAtomTrees ys (items_view (take (i + 1) ts))
items-step xs ys ts i t a within is so here more = subst (λ zs. AreAtomTrees zs (items_view (take (i + 1) ts))) (sym more) (subst (λ us. AreAtomTrees (xs ++ a ∷ []) (items_view us)) (sym (upto ts i t within is)) (push-tree xs (take i ts) a t so here))

-- a name of an ordered map comes after those before it
pub comes-last : (xs : Record) (done : List Entry) (e : Entry) (more : List Entry) → AreMembers xs (members_view done) → IsStrictlySortedBy string_cmp (keys_of (done ++ e ∷ more)) → IsTrue (comes_last xs (string_bytes e.0))
unfolding IsStrictlySortedBy
comes-last [] done e more so ordered = refl
comes-last (x ∷ xs) [] e more so ordered = absurd so
comes-last (x ∷ []) (d ∷ []) e more so ordered = subst (λ n. IsTrue (is_before n (string_bytes e.0))) so.0 (ap is_lt ordered.0.0)
comes-last (x ∷ []) (d ∷ f ∷ ds) e more so ordered = absurd so.2
comes-last (x ∷ y ∷ xs) (d ∷ []) e more so ordered = absurd so.2
comes-last (x ∷ y ∷ xs) (d ∷ f ∷ ds) e more so ordered = comes-last (y ∷ xs) (f ∷ ds) e more so.2 ordered.1

later-members : (xs : Record) (done rest : List Entry) (f : DecodeFault) → AreMembers xs (members_view done) → IsMembersFault (members_view rest) f → IsMembersFault (members_view (done ++ rest)) f
later-members [] [] rest f so is = is
later-members [] (d ∷ done) rest f so is = absurd so
later-members (x ∷ xs) [] rest f so is = absurd so
later-members (x ∷ xs) (d ∷ done) rest f so is = inr ((x.1, so.1), later-members xs done rest f so.2 is)

pub members-fault : (xs : Record) (es done : List Entry) (e : Entry) (more : List Entry) → es ≡ done ++ e ∷ more → AreMembers xs (members_view done) → (f : DecodeFault) → IsValueFault (view e.1) f → IsMembersFault (members_view es) f
members-fault xs es done e more is so f here = subst (λ us. IsMembersFault (members_view us) f) (sym is) (later-members xs done (e ∷ more) f so (inl here))

pub push-member : (xs : Record) (done : List Entry) (name : Name) (v : Value) (e : Entry) → AreMembers xs (members_view done) → string_bytes e.0 ≡ name → IsValueTree v (view e.1) → AreMembers (xs ++ (name, v) ∷ []) (members_view (done ++ e ∷ []))
push-member [] [] name v e so same here = (same, here, tt)
push-member [] (d ∷ done) name v e so same here = absurd so
push-member (x ∷ xs) [] name v e so same here = absurd so
push-member (x ∷ xs) (d ∷ done) name v e so same here = (so.0, so.1, push-member xs done name v e so.2 same here)

-- a tree is JSON

never-atom : (d : Data) → IsAtomFault d fault.NotJson → ⊥
never-atom null is = is
never-atom (boolean b) is = is
never-atom (number n) is = let no-number : fault.NotJson ≡ fault.Number = is.1 in cc
never-atom (string s) is = is
never-atom (array ds) is = cc
never-atom (object ms) is = is

never-items : (ds : Items) → IsItemsFault ds fault.NotJson → ⊥
never-items no_items is = is
never-items (item d ds) (inl here) = never-atom d here
never-items (item d ds) (inr later) = never-items ds later.1

never-value : (d : Data) → IsValueFault d fault.NotJson → ⊥
never-value null is = never-atom null is
never-value (boolean b) is = never-atom (boolean b) is
never-value (number n) is = never-atom (number n) is
never-value (string s) is = never-atom (string s) is
never-value (array ds) is = never-items ds is
never-value (object ms) is = never-atom (object ms) is

never-members : (ms : Members) → IsMembersFault ms fault.NotJson → ⊥
never-members no_members is = is
never-members (member k d ms) (inl here) = never-value d here
never-members (member k d ms) (inr later) = never-members ms later.1

pub never-record : (d : Data) → IsRecordFault d fault.NotJson → ⊥
never-record null is = cc
never-record (boolean b) is = cc
never-record (number n) is = cc
never-record (string s) is = cc
never-record (array ds) is = cc
never-record (object ms) is = never-members ms is

pub of-tree : (bytes : List ℕ) (d : Data) → IsTreeOf bytes d → (r : Result Record DecodeFault) → Decodes (λ fields. IsRecordTree fields d) (IsRecordFault d) r → IsDecoded bytes r
of-tree bytes d tree (Ok r) is = (d, tree, is)
of-tree bytes d tree (Err fault.NotJson) is = absurd (never-record d is)
of-tree bytes d tree (Err fault.NotRecord) is = (d, tree, is)
of-tree bytes d tree (Err fault.Number) is = (d, tree, is)
of-tree bytes d tree (Err fault.Shape) is = (d, tree, is)
of-tree bytes d tree (Err fault.UnknownType) is = (d, tree, is)
of-tree bytes d tree (Err fault.BadData) is = (d, tree, is)
of-tree bytes d tree (Err fault.Deep) is = (d, tree, is)
of-tree bytes d tree (Err fault.NoMemory) is = tt
