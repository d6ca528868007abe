-- What is read from a literal is what its text spells.
use Rattle.std.proofs.Common.{◌≡◌, ◌≤ℤ◌, ◌≤◌, pos, ℤ, ℕ, List, Option, None, Some, IfSome, FitsSigned, w64, option_and_then, refl, sym, ◌∙◌, subst}
use Rattle.es_model.specs.Scaled.{Scaled}
use Rattle.es_model.specs.declared.value.Atom.{Atom}
use Rattle.es_model.specs.declared.value.Atom.TheVariants as atom
use Rattle.es_model.specs.declared.value.AtomKind.TheVariants as kind
use Rattle.es_transcode.specs.Spelled.{moment_in, decimal_in}
use Rattle.es_transcode.specs.CivilText.{IsMomentText}
use Rattle.es_transcode.specs.Texts.{kind_of, decimal_text, HasText}
use Rattle.es_transcode.proofs.SpelledLemmas.{moment-spelled, moment-has, decimal-spelled, decimal-has}
use Rattle.es_decl.specs.inner.Atoms.{moment_of, decimal_of}

-- nothing is there
pub nothing : {A : Type 0} (o : Option A) → ((x : A) → o ≡ Some x → ⊥) → None ≡ o
nothing None never = refl
nothing (Some x) never = absurd (never x refl)

later : {A B : Type 0} → A × B → B
later (a, b) = b

moment-text : (m : ℤ) (text : List ℕ) → HasText (atom.Moment m) text → IsMomentText m text
moment-text m text (valid, is) = is

decimal-text : (d : Scaled) (text : List ℕ) → HasText (atom.Decimal d) text → text ≡ decimal_text d
decimal-text d text (valid, is) = is

pub moment-is : (text : List ℕ) (o : Option Atom) (r : Option ℤ) → r ≡ option_and_then moment_of o → IfSome r (λ m. (pos 0 ≤ℤ m) × (m ≤ℤ pos 253402300799999999))
    → IfSome o (λ a. (kind_of a ≡ Some kind.Moment) × HasText a text) → ((a : Atom) → kind_of a ≡ Some kind.Moment → HasText a text → o ≡ Some a) → r ≡ moment_in text
moment-is text None r is range has found =
    is ∙ nothing (moment_in text) (λ z spells. let h = moment-has text z spells in let wrong : ◌≡◌ {A = Option Atom} None (Some (atom.Moment z)) = found (atom.Moment z) refl ((h.1, h.2), h.0) in cc)
moment-is text (Some atom.Null) r is range has found = absurd has.1
moment-is text (Some (atom.Bool b)) r is range has found = absurd has.1
moment-is text (Some (atom.Int n)) r is range has found = absurd has.1
moment-is text (Some (atom.Text t)) r is range has found = absurd has.1
moment-is text (Some (atom.Uuid u)) r is range has found = let wrong = has.0 in cc
moment-is text (Some (atom.Moment m)) (Some n) is range has found =
    let same : n ≡ m = cc in
    is ∙ sym (moment-spelled text m (moment-text m text (later has)) (subst (λ z. pos 0 ≤ℤ z) same range.0) (subst (λ z. z ≤ℤ pos 253402300799999999) same range.1))
moment-is text (Some (atom.Moment m)) None is range has found = cc
moment-is text (Some (atom.Decimal d)) r is range has found = let wrong = has.0 in cc

pub decimal-is : (text : List ℕ) (o : Option Atom) (r : Option Scaled) → r ≡ option_and_then decimal_of o → IfSome r (λ d. FitsSigned w64 d.digits × (d.scale ≤ 6))
    → IfSome o (λ a. (kind_of a ≡ Some kind.Decimal) × HasText a text) → ((a : Atom) → kind_of a ≡ Some kind.Decimal → HasText a text → o ≡ Some a) → r ≡ decimal_in text
decimal-is text None r is range has found =
    is ∙ nothing (decimal_in text) (λ d spells. let h = decimal-has text d spells in let wrong : ◌≡◌ {A = Option Atom} None (Some (atom.Decimal d)) = found (atom.Decimal d) refl ((h.1, h.2), h.0) in cc)
decimal-is text (Some atom.Null) r is range has found = absurd has.1
decimal-is text (Some (atom.Bool b)) r is range has found = absurd has.1
decimal-is text (Some (atom.Int n)) r is range has found = absurd has.1
decimal-is text (Some (atom.Text t)) r is range has found = absurd has.1
decimal-is text (Some (atom.Uuid u)) r is range has found = let wrong = has.0 in cc
decimal-is text (Some (atom.Moment m)) r is range has found = let wrong = has.0 in cc
decimal-is text (Some (atom.Decimal d)) (Some e) is range has found =
    let same : e ≡ d = cc in
    is ∙ sym (decimal-spelled text d (decimal-text d text (later has)) (subst (λ (x : Scaled). FitsSigned w64 x.digits) same range.0) (subst (λ (x : Scaled). x.scale ≤ 6) same range.1))
decimal-is text (Some (atom.Decimal d)) None is range has found = cc
