use Rattle.std.proofs.Common.{◌≡◌, ◌∙◌, Bool, true, false, List, ℕ, Option, None, if◌then◌else◌, IfOk, option_map, refl, sym, ap, subst}
use Rattle.std.specs.Str.{IsUtf8, is_utf8}
use Rattle.std.proofs.lemmas.Str.{IsUtf8-from_is_utf8, is_utf8-from_IsUtf8}
use Rattle.serde_json.specs.Data.{Data}
use Rattle.serde_json.specs.Read.{read}
use Rattle.serde_json.specs.View.{view}
use Rattle.es_transcode.specs.Decoded.{tree_in}
use Rattle.es_transcode.proofs.tree.read_tree.Goals as goal

no-text : (bytes : List ℕ) → (IsUtf8 bytes → ⊥) → (b : Bool) → is_utf8 bytes ≡ b → ◌≡◌ {A = Option Data} None (if b then read bytes else None)
no-text bytes never true is = absurd (never (IsUtf8-from_is_utf8 bytes is))
no-text bytes never false is = refl

pub returns-in-Ok : goal.returns-in-Ok
returns-in-Ok c =
    let bytes = c.args.bytes.now in
    let e : tree_in bytes ≡ read c.in-Ok.text.now = ap (λ b. if b then read bytes else None) (is_utf8-from_IsUtf8 bytes c.in-Ok.ensures.cases.1) ∙ ap read (sym c.in-Ok.ensures.cases.0) in
    subst (λ d. IfOk c.tree_of.result (λ o. option_map view o ≡ d)) (sym e) c.tree_of.ensures

pub returns-in-Err : goal.returns-in-Err
returns-in-Err c = no-text c.args.bytes.now c.in-Err.ensures.cases.0 (is_utf8 c.args.bytes.now) refl
