-- Laws of the tokens of an aggregate at a version.
use Rattle.std.proofs.Common.{◌≡◌, ℕ, ℤ, List, [], ◌∷◌, ◌++◌, codes, decimal, Result, Ok, Err, IfOk, sym, ap, append_assoc}
use Rattle.uuid.specs.Text.{simple_text, lower}
use Rattle.json.specs.Token.{Token, begin_object, end_object, key, string, number}
use Rattle.json.specs.Tree.{json_tokens}
use Rattle.serde_json.specs.Written.{outline}
use Rattle.es_model.specs.Values.{Name, Id, Record}
use Rattle.es_model.specs.declared.value.Atom.TheVariants as atom
use Rattle.es_transcode.specs.CanonicalText.{record_tree}
use Rattle.es_transcode.specs.MomentText.{moment_text}
use Rattle.es_transcode.specs.Texts.{HasText}
use Rattle.es_transcode.proofs.CanonicalLemmas.{only-text}
use Rattle.es_lines.specs.Texts.{reply_tree}
use Rattle.es_lines.specs.declared.replies.Reply.TheVariants as reply

-- the text of a moment is the one that it has
pub text-of : {E : Type 0} (moment : ℤ) (r : Result (List ℕ) E) → IfOk r (HasText (atom.Moment moment)) → IfOk r (λ t. t ≡ moment_text moment)
text-of moment (Ok t) has = only-text (atom.Moment moment) t has
text-of moment (Err e) has = tt

-- what is written of it after its fields
abbrev later_tokens : Id → ℕ → ℤ → List Token
later_tokens id version modified =
    key (codes "id") ∷ string (simple_text lower id) ∷ key (codes "modified_on") ∷ string (moment_text modified) ∷ key (codes "ok") ∷ string (codes "get") ∷ key (codes "version") ∷ number (decimal version) ∷ []

-- what is written of it after its beginning
abbrev got_tokens : Id → ℕ → Name → ℤ → ℤ → Record → List Token
got_tokens id version class created modified fields =
    key (codes "class") ∷ string class ∷ key (codes "created_on") ∷ string (moment_text created) ∷ key (codes "fields") ∷ (json_tokens (outline (record_tree fields)) ++ later_tokens id version modified)

pub got-whole : (id : Id) (version : ℕ) (class : Name) (created modified : ℤ) (fields : Record)
    → json_tokens (outline (reply_tree (reply.Got id version class created modified fields))) ≡ begin_object ∷ (got_tokens id version class created modified fields ++ end_object ∷ [])
got-whole id version class created modified fields =
    ap (λ ts. begin_object ∷ key (codes "class") ∷ string class ∷ key (codes "created_on") ∷ string (moment_text created) ∷ key (codes "fields") ∷ ts)
    (sym (append_assoc (json_tokens (outline (record_tree fields))) (later_tokens id version modified) (end_object ∷ [])))
