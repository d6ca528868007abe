-- Laws of the tokens of a section.
use Rattle.std.proofs.Common.{◌≡◌, ◌∙◌, ℕ, List, [], ◌∷◌, ◌++◌, codes, Option, Bool, true, false, IsUtf8, if◌then◌else◌, refl, sym, ap, subst, append_assoc}
use Rattle.std.specs.Str.{is_utf8}
use Rattle.std.proofs.lemmas.Str.{IsUtf8-from_is_utf8, is_utf8-from_IsUtf8}
use Rattle.hex.specs.Hex.{encode_lower}
use Rattle.json.specs.Token.{Token, begin_object, end_object, begin_array, key, string}
use Rattle.json.specs.Tree.{json_tokens, items_tokens}
use Rattle.json.specs.Written.{Written}
use Rattle.serde_json.specs.Written.{outline, items_outline}
use Rattle.es_model.specs.declared.event.Notification.{Notification}
use Rattle.es_transcode.specs.Written.{Adds}
use Rattle.es_lines.specs.inner.Objects.{text_tokens}
use Rattle.es_lines.specs.Texts.{span_tree, state_name, state_text, entry_trees, reply_tree}
use Rattle.es_lines.specs.declared.replies.Reply.TheVariants.{Log}

-- the same state
pub state : {a b : Written} {s t : List ℕ} → s ≡ t → Adds a b (text_tokens (state_name s) (state_text s)) → Adds a b (text_tokens (state_name t) (state_text t))
state {a} {b} e x = subst (λ z. Adds a b (text_tokens (state_name z) (state_text z))) e x

-- a state that is UTF-8
pub state-as-it-is : {a b : Written} (bytes t : List ℕ) → t ≡ bytes → IsUtf8 bytes → Adds a b (text_tokens (codes "state") t) → Adds a b (text_tokens (state_name bytes) (state_text bytes))
state-as-it-is {a} {b} bytes t same utf8 x =
    let is : is_utf8 bytes ≡ true = is_utf8-from_IsUtf8 bytes utf8 in
    subst (λ v. Adds a b (text_tokens (if v then codes "state" else codes "state_hex") (if v then bytes else encode_lower bytes))) (sym is)
    (subst (λ z. Adds a b (text_tokens (codes "state") z)) same x)

not-utf8 : (bytes : List ℕ) → (IsUtf8 bytes → ⊥) → (v : Bool) → is_utf8 bytes ≡ v → v ≡ false
not-utf8 bytes never true is = absurd (never (IsUtf8-from_is_utf8 bytes is))
not-utf8 bytes never false is = refl

-- one that isn't
pub state-in-digits : {a b : Written} (bytes t : List ℕ) → t ≡ encode_lower bytes → (IsUtf8 bytes → ⊥) → Adds a b (text_tokens (codes "state_hex") t) → Adds a b (text_tokens (state_name bytes) (state_text bytes))
state-in-digits {a} {b} bytes t same never x =
    let is : is_utf8 bytes ≡ false = not-utf8 bytes never (is_utf8 bytes) refl in
    subst (λ v. Adds a b (text_tokens (if v then codes "state" else codes "state_hex") (if v then bytes else encode_lower bytes))) (sym is)
    (subst (λ z. Adds a b (text_tokens (codes "state_hex") z)) same x)

-- the same notifications
pub entries : {a b : Written} {s t : List Notification} → s ≡ t → Adds a b (items_tokens (items_outline (entry_trees s))) → Adds a b (items_tokens (items_outline (entry_trees t)))
entries {a} {b} e x = subst (λ z. Adds a b (items_tokens (items_outline (entry_trees z)))) e x

tail : (s i n : List Token) (a b c d e f : Token) → (s ++ a ∷ b ∷ (i ++ c ∷ (n ++ d ∷ e ∷ []))) ++ f ∷ [] ≡ s ++ a ∷ b ∷ (i ++ c ∷ (n ++ d ∷ e ∷ f ∷ []))
tail s i n a b c d e f =
    append_assoc s (a ∷ b ∷ (i ++ c ∷ (n ++ d ∷ e ∷ []))) (f ∷ [])
    ∙ ap (λ x. s ++ a ∷ b ∷ x) (append_assoc i (c ∷ (n ++ d ∷ e ∷ [])) (f ∷ []) ∙ ap (λ x. i ++ c ∷ x) (append_assoc n (d ∷ e ∷ []) (f ∷ [])))

-- what is written of a section after its beginning
abbrev pub log_tokens : Option (ℕ × ℕ) → List Notification → Option (ℕ × ℕ) → List Token
log_tokens id items next =
    key (codes "id") ∷ (json_tokens (outline (span_tree id)) ++ key (codes "items") ∷ begin_array ∷ (items_tokens (items_outline (entry_trees items))
    ++ key (codes "next") ∷ (json_tokens (outline (span_tree next)) ++ key (codes "ok") ∷ string (codes "log") ∷ [])))

pub log-whole : (id : Option (ℕ × ℕ)) (items : List Notification) (next : Option (ℕ × ℕ)) → json_tokens (outline (reply_tree (Log id items next))) ≡ begin_object ∷ (log_tokens id items next ++ end_object ∷ [])
log-whole id items next =
    ap (λ ts. begin_object ∷ key (codes "id") ∷ ts)
    (sym (tail (json_tokens (outline (span_tree id))) (items_tokens (items_outline (entry_trees items))) (json_tokens (outline (span_tree next)))
    (key (codes "items")) begin_array (key (codes "next")) (key (codes "ok")) (string (codes "log")) end_object))
