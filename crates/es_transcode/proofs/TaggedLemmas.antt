-- Laws of words, and of the trees beside them.
use Rattle.std.proofs.Common.{rules, String, Global, string_bytes, ◌≡◌, ◌∙◌, List, ℕ, Bool, true, false, cond, Option, None, Some, codes, refl, sym, ap, subst}
use Rattle.std.specs.Str.{bytes_eq}
use Rattle.std.proofs.lemmas.Slice.Eq.{bytes_eq-Decides}
use Rattle.serde_json.specs.Data.{Data, string, object, Members}
use Rattle.serde_json.specs.View.{view}
use Rattle.serde_json.specs.declared.value.Value.{the_lemmas}
use Rattle.serde_json.specs.declared.value.Value.TheVariants as Tree
use Rattle.es_model.specs.declared.value.Atom.{Atom}
use Rattle.es_model.specs.declared.value.Atom.TheVariants as atom
use Rattle.es_model.specs.declared.value.AtomKind.{AtomKind}
use Rattle.es_model.specs.declared.value.AtomKind.TheVariants as kind
use Rattle.es_transcode.specs.Texts.{kind_of, HasText}
use Rattle.es_transcode.specs.RecordText.{tagged, IsAtomTree}
use Rattle.es_transcode.specs.Decoding.{kind_named, pair}

pub view-String : (s : String Global) → view (Tree.String s) ≡ string (string_bytes s)
view-String s = search (rules, the_lemmas)

-- which of three words it is
abbrev picked : Bool → Bool → Bool → Option AtomKind
picked b c e = cond b (Some kind.Uuid) (cond c (Some kind.Moment) (cond e (Some kind.Decimal) None))

picked-id : (b c e : Bool) → picked b c e ≡ Some kind.Uuid → b ≡ true
picked-id true c e is = refl
picked-id false true e is = cc
picked-id false false true is = cc
picked-id false false false is = cc

picked-moment : (b c e : Bool) → picked b c e ≡ Some kind.Moment → c ≡ true
picked-moment true c e is = cc
picked-moment false true e is = refl
picked-moment false false true is = cc
picked-moment false false false is = cc

picked-decimal : (b c e : Bool) → picked b c e ≡ Some kind.Decimal → e ≡ true
picked-decimal true c e is = cc
picked-decimal false true e is = cc
picked-decimal false false true is = refl
picked-decimal false false false is = cc

module _ (word : List ℕ) where
  id-word : kind_named word ≡ Some kind.Uuid → word ≡ codes "uuid_hex"
  id-word is = (bytes_eq-Decides word (codes "uuid_hex")).0 (picked-id (bytes_eq word (codes "uuid_hex")) (bytes_eq word (codes "datetime_iso")) (bytes_eq word (codes "decimal_str")) is)

  moment-word : kind_named word ≡ Some kind.Moment → word ≡ codes "datetime_iso"
  moment-word is = (bytes_eq-Decides word (codes "datetime_iso")).0 (picked-moment (bytes_eq word (codes "uuid_hex")) (bytes_eq word (codes "datetime_iso")) (bytes_eq word (codes "decimal_str")) is)

  decimal-word : kind_named word ≡ Some kind.Decimal → word ≡ codes "decimal_str"
  decimal-word is = (bytes_eq-Decides word (codes "decimal_str")).0 (picked-decimal (bytes_eq word (codes "uuid_hex")) (bytes_eq word (codes "datetime_iso")) (bytes_eq word (codes "decimal_str")) is)

  tagged-tree-of : (a : Atom) (text : List ℕ) → kind_named word ≡ kind_of a → HasText a text → IsAtomTree a (tagged word text)
  tagged-tree-of atom.Null text is has = absurd has
  tagged-tree-of (atom.Bool truth) text is has = absurd has
  tagged-tree-of (atom.Int z) text is has = absurd has
  tagged-tree-of (atom.Text t) text is has = absurd has
  tagged-tree-of (atom.Uuid id) text is has = (text, has, ap (λ w. tagged w text) (id-word is))
  tagged-tree-of (atom.Moment m) text is has = (text, has, ap (λ w. tagged w text) (moment-word is))
  tagged-tree-of (atom.Decimal n) text is has = (text, has, ap (λ w. tagged w text) (decimal-word is))

  pub tagged-tree : (a : Atom) (k : AtomKind) (text : List ℕ) (d : Data) (ms : Members) → ms ≡ pair d word → d ≡ string text → kind_named word ≡ Some k → kind_of a ≡ Some k → HasText a text → IsAtomTree a (object ms)
  tagged-tree a k text d ms is data_is named of has =
      subst (IsAtomTree a) (sym (ap object (is ∙ ap (λ e. pair e word) data_is))) (tagged-tree-of a text (named ∙ sym of) has)
