-- The tree of a record has no fault.
use Rattle.std.proofs.Common.{◌≡◌, ◌≢◌, ◌∙◌, ◌^◌, ℤ, pos, negsuc, ℕ, List, [], ◌∷◌, Some, None, Result, Ok, Err, nat_lt, true, codes, inl, inr, refl, sym, ap, subst, arith, FitsSigned, w64}
use Rattle.std.specs.Prelude.{IfErr}
use Rattle.serde_json.specs.Data.{Data, null, boolean, number, string, array, object, Items, no_items, item, Members, no_members, member}
use Rattle.serde_json.specs.Find.{of_integer, as_i64}
use Rattle.es_model.specs.Values.{Record}
use Rattle.es_model.specs.declared.value.Atom.{Atom}
use Rattle.es_model.specs.declared.value.Atom.TheVariants as atom
use Rattle.es_model.specs.declared.value.AtomKind.{AtomKind}
use Rattle.es_model.specs.declared.value.AtomKind.TheVariants as kind
use Rattle.es_model.specs.declared.value.Value.{Value}
use Rattle.es_model.specs.declared.value.Value.TheVariants as value
use Rattle.es_transcode.specs.declared.fault.DecodeFault.{DecodeFault}
use Rattle.es_transcode.specs.declared.fault.DecodeFault.TheVariants as fault
use Rattle.es_transcode.specs.Texts.{kind_of, HasText}
use Rattle.es_transcode.specs.RecordText.{IsTagged, IsAtomTree, AreAtomTrees, IsValueTree, AreMembers, IsRecordTree, IsTreeOf}
use Rattle.es_transcode.specs.Decoding.{kind_named, pair, IsTextOfKind, IsTagFault, IsAtomFault, IsItemsFault, IsValueFault, IsMembersFault, IsRecordFault, IsDecoded}
use Rattle.es_transcode.proofs.OnlyLemmas.{no-array}

in-range : (z : ℤ) → FitsSigned w64 z → as_i64 (of_integer z) ≡ Some z
in-range (pos n) fits = let below : nat_lt n (2 ^ 63) ≡ true = grind (arith, fits) in rw below refl
in-range (negsuc n) fits = refl

-- the tree of an atom beside the word of its kind has no fault
module _ (word : List ℕ) (a : Atom) (k : AtomKind) (named : kind_named word ≡ Some k) (of : kind_of a ≡ Some k) (text : List ℕ) (has : HasText a text) where
  word-is : (d : Data) (w : List ℕ) → pair (string text) word ≡ pair d w → (d ≡ string text) × (w ≡ word)
  word-is d w is = (cc, cc)

  no-unknown : (w : List ℕ) → w ≡ word → kind_named w ≡ None → ⊥
  no-unknown w is none = let both : Some k ≡ None = sym named ∙ ap kind_named (sym is) ∙ none in cc

  good-data : (d : Data) (w : List ℕ) (l : AtomKind) → (d ≡ string text) × (w ≡ word) → kind_named w ≡ Some l → IsTextOfKind l d
  good-data d w l is found = (a, text, of ∙ sym named ∙ ap kind_named (sym is.1) ∙ found, has, is.0)

  no-tag-fault : (f : DecodeFault) → IsTagFault (pair (string text) word) f → ⊥
  no-tag-fault fault.Shape is = is (string text) word refl
  no-tag-fault fault.UnknownType (d, w, is, none) = no-unknown w (word-is d w is).1 none
  no-tag-fault fault.BadData (d, w, l, is, found, bad) = bad (good-data d w l (word-is d w is) found)
  no-tag-fault fault.NotJson is = is
  no-tag-fault fault.NotRecord is = is
  no-tag-fault fault.Number is = is
  no-tag-fault fault.Deep is = is
  no-tag-fault fault.NoMemory is = is

module _ (f : DecodeFault) where
  no-tagged-fault : (word : List ℕ) (a : Atom) (k : AtomKind) (d : Data) → kind_named word ≡ Some k → kind_of a ≡ Some k → IsTagged word a d → IsAtomFault d f → ⊥
  no-tagged-fault word a k d named of (text, has, is) bad = no-tag-fault word a k named of text has f (subst (λ e. IsAtomFault e f) is bad)

  no-atom-fault : (a : Atom) (d : Data) → IsAtomTree a d → IsAtomFault d f → ⊥
  no-atom-fault atom.Null d is bad = subst (λ e. IsAtomFault e f) is bad
  no-atom-fault (atom.Bool truth) d is bad = subst (λ e. IsAtomFault e f) is bad
  no-atom-fault (atom.Int z) d is bad = let none = (subst (λ e. IsAtomFault e f) is.1 bad).0 in let both : Some z ≡ None = sym (in-range z is.0) ∙ none in cc
  no-atom-fault (atom.Text text) d is bad = subst (λ e. IsAtomFault e f) is bad
  no-atom-fault (atom.Uuid id) d is bad = no-tagged-fault (codes "uuid_hex") (atom.Uuid id) kind.Uuid d refl refl is bad
  no-atom-fault (atom.Moment m) d is bad = no-tagged-fault (codes "datetime_iso") (atom.Moment m) kind.Moment d refl refl is bad
  no-atom-fault (atom.Decimal n) d is bad = no-tagged-fault (codes "decimal_str") (atom.Decimal n) kind.Decimal d refl refl is bad

  no-items-fault : (xs : List Atom) (ds : Items) → AreAtomTrees xs ds → IsItemsFault ds f → ⊥
  no-items-fault [] no_items is bad = bad
  no-items-fault [] (item d ds) is bad = is
  no-items-fault (x ∷ xs) no_items is bad = is
  no-items-fault (x ∷ xs) (item d ds) is (inl here) = no-atom-fault x d is.0 here
  no-items-fault (x ∷ xs) (item d ds) is (inr later) = no-items-fault xs ds is.1 later.1

  no-value-fault : (v : Value) (d : Data) → IsValueTree v d → IsValueFault d f → ⊥
  no-value-fault (value.One a) null is bad = no-atom-fault a null is bad
  no-value-fault (value.One a) (boolean b) is bad = no-atom-fault a (boolean b) is bad
  no-value-fault (value.One a) (number n) is bad = no-atom-fault a (number n) is bad
  no-value-fault (value.One a) (string s) is bad = no-atom-fault a (string s) is bad
  no-value-fault (value.One a) (array ds) is bad = no-array a (array ds) ds refl is
  no-value-fault (value.One a) (object ms) is bad = no-atom-fault a (object ms) is bad
  no-value-fault (value.List xs) d (ds, so, is) bad = no-items-fault xs ds so (subst (λ e. IsValueFault e f) is bad)

  no-members-fault : (r : Record) (ms : Members) → AreMembers r ms → IsMembersFault ms f → ⊥
  no-members-fault [] no_members is bad = bad
  no-members-fault [] (member k d ms) is bad = is
  no-members-fault (x ∷ xs) no_members is bad = is
  no-members-fault (x ∷ xs) (member k d ms) is (inl here) = no-value-fault x.1 d is.1 here
  no-members-fault (x ∷ xs) (member k d ms) is (inr later) = no-members-fault xs ms is.2 later.1

  pub no-record-fault : (r : Record) (d : Data) → IsRecordTree r d → IsRecordFault d f → ⊥
  no-record-fault r d (ms, so, is) bad = no-members-fault r ms so (subst (λ e. IsRecordFault e f) is bad)

  no-fault-of : (bytes : List ℕ) (r : Record) → IsDecoded bytes (Ok r) → (d : Data) → IsTreeOf bytes d → IsRecordFault d f → ⊥
  no-fault-of bytes r (e, tree, is) d again bad =
      let trees : Some e ≡ Some d = sym tree.1 ∙ again.1 in
      let same : e ≡ d = cc in
      no-record-fault r d (subst (IsRecordTree r) same is) bad

-- bytes that are read as a record have no fault
pub no-fault : (bytes : List ℕ) (r : Record) (f : DecodeFault) → IsDecoded bytes (Ok r) → f ≢ fault.NoMemory → IsDecoded bytes (Err f) → ⊥
no-fault bytes r fault.NotJson is real bad = bad is.0 is.1
no-fault bytes r fault.NotRecord is real (d, tree, bad) = no-fault-of fault.NotRecord bytes r is d tree bad
no-fault bytes r fault.Number is real (d, tree, bad) = no-fault-of fault.Number bytes r is d tree bad
no-fault bytes r fault.Shape is real (d, tree, bad) = no-fault-of fault.Shape bytes r is d tree bad
no-fault bytes r fault.UnknownType is real (d, tree, bad) = no-fault-of fault.UnknownType bytes r is d tree bad
no-fault bytes r fault.BadData is real (d, tree, bad) = no-fault-of fault.BadData bytes r is d tree bad
no-fault bytes r fault.Deep is real (d, tree, bad) = no-fault-of fault.Deep bytes r is d tree bad
no-fault bytes r fault.NoMemory is real bad = real refl

pub no-record : (bytes : List ℕ) (a : Result Record DecodeFault) → IsDecoded bytes a → IfErr a (λ f. f ≢ fault.NoMemory → (r : Record) → ¬ IsDecoded bytes (Ok r))
no-record bytes (Ok r) is = tt
no-record bytes (Err f) is = λ real r read. no-fault bytes r f read real is
