-- What several writes append one after another, and what they leave in the end.
use Rattle.std.proofs.Common.{◌≡◌, ◌∙◌, ℕ, List, [], ◌∷◌, ◌++◌, Result, Ok, Err, sym, ap, subst, IfOk, OnOk}
use Rattle.json.specs.Print.{print}
use Rattle.json.specs.Token.{Token, begin_object, end_object}
use Rattle.json.specs.Tree.{json_tokens}
use Rattle.json.specs.Written.{Written}
use Rattle.serde_json.specs.Data.{Data}
use Rattle.serde_json.specs.Written.{outline, compact_text}
use Rattle.serde_json.proofs.Texts.{print-outline}
use Rattle.es_transcode.specs.Written.{Adds}
use Rattle.es_transcode.proofs.WritingLemmas.{both}
use Rattle.es_lines.specs.inner.Objects.{Begun, text_tokens}

-- the same tokens, where the text of one is another's
pub text : {a b : Written} {k s t : List ℕ} → s ≡ t → Adds a b (text_tokens k s) → Adds a b (text_tokens k t)
text {a} {b} {k} e x = subst (λ z. Adds a b (text_tokens k z)) e x

-- the last writes, after what was written before
pub ending : {E : Type 0} (r : Result (Unit {0}) E) {a b : Written} (c : Written) {xs : List Token} (ys : List Token) → Adds a b xs → OnOk r (Adds b c ys) → OnOk r (Adds a c (xs ++ ys))
ending (Ok u) c ys x y = both x y
ending (Err e) c ys x y = tt

-- the text of an object whose tokens were written after its beginning
pub object-of : (a b : Written) (d : Data) {ts : List Token} → Begun a → Adds a b ts → json_tokens (outline d) ≡ begin_object ∷ (ts ++ end_object ∷ []) → b.before ++ print (b.tokens ++ end_object ∷ []) ≡ compact_text d
object-of a b d {ts} begun adds same =
    ap (λ x. x ++ print (b.tokens ++ end_object ∷ [])) (adds.before ∙ begun.before)
    ∙ ap (λ x. print (x ++ end_object ∷ [])) (adds.tokens ∙ ap (λ x. x ++ ts) begun.tokens)
    ∙ ap print (sym same) ∙ print-outline d

pub whole : {E : Type 0} (r : Result (List ℕ) E) {a b : Written} (d : Data) {ts : List Token} → Begun a → Adds a b ts → json_tokens (outline d) ≡ begin_object ∷ (ts ++ end_object ∷ [])
    → IfOk r (λ t. t ≡ b.before ++ print (b.tokens ++ end_object ∷ [])) → IfOk r (λ t. t ≡ compact_text d)
whole (Ok t) {a} {b} d begun adds same ends = ends ∙ object-of a b d begun adds same
whole (Err e) d begun adds same ends = tt
