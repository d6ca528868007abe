-- Laws of atoms and their texts.
use Rattle.std.proofs.Common.{◌≡◌, ◌≤ℤ◌, pos, ℤ, ℕ, List, Some, ap}
use Rattle.es_model.specs.declared.value.Atom.{Atom}
use Rattle.es_model.specs.declared.value.Atom.TheVariants as atom
use Rattle.es_model.specs.declared.value.AtomKind.TheVariants as kind
use Rattle.es_transcode.specs.CivilText.{IsMomentText}
use Rattle.es_transcode.specs.Texts.{kind_of, HasText}

pub only-moment : (m : ℤ) (text : List ℕ) → ((n : ℤ) → pos 0 ≤ℤ n → n ≤ℤ pos 253402300799999999 → IsMomentText n text → m ≡ n)
    → (a : Atom) → kind_of a ≡ Some kind.Moment → HasText a text → atom.Moment m ≡ a
only-moment m text only atom.Null is has = absurd has
only-moment m text only (atom.Bool truth) is has = absurd has
only-moment m text only (atom.Int number) is has = absurd has
only-moment m text only (atom.Text string) is has = absurd has
only-moment m text only (atom.Uuid id) is has = cc
only-moment m text only (atom.Moment n) is has = ap atom.Moment (only n has.0.0 has.0.1 has.1)
only-moment m text only (atom.Decimal number) is has = cc
