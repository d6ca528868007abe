-- What several writes append one after another, and the text that they leave in the end.
use Rattle.std.proofs.Common.{◌≡◌, ◌∙◌, ◌≤◌, ℕ, suc, max, ℤ, List, [], ◌∷◌, ◌++◌, Result, Ok, Err, Some, option_and_then, IsUtf8, refl, sym, ap, subst, arith, append_assoc, append-nil, OnOk}
use Rattle.json.specs.Json as json
use Rattle.json.specs.Lex.{tokens}
use Rattle.json.specs.Print.{print}
use Rattle.json.specs.Token.{Token}
use Rattle.json.specs.Tree as json_tree
use Rattle.json.specs.Tree.{json_tokens}
use Rattle.json.specs.Written.{Written, Writes}
use Rattle.json.proofs.Printed.Trees.{value-json_tokens}
use Rattle.serde_json.specs.Data.{Data, null, boolean, number, string, array, object, Items, no_items, item, Members, no_members, member, depth, items_depth, members_depth}
use Rattle.serde_json.specs.Read.{of_json, read, max_depth}
use Rattle.serde_json.specs.Written.{outline, items_outline, members_outline, compact_text}
use Rattle.serde_json.proofs.Texts.{print-outline}
use Rattle.es_model.specs.declared.value.Atom.{Atom}
use Rattle.es_model.specs.declared.value.Atom.TheVariants as atom
use Rattle.es_transcode.specs.CanonicalText.{atom_text, atom_tree}
use Rattle.es_transcode.specs.RecordText.{tagged, IsAtomTree, IsTreeOf}
use Rattle.es_transcode.specs.Texts.{HasText}
use Rattle.es_transcode.specs.Written.{Adds}
use Rattle.es_transcode.proofs.CanonicalLemmas.{only-text}

-- a write that succeeded
pub one : {E : Type 0} {u : Unit {0}} {a b : Written} {t : Token} → Writes {E = E} (Ok u) a b t → Adds a b (t ∷ [])
one w = record { before = w.room.0; tokens = w.ok }

pub both : {a b c : Written} {xs ys : List Token} → Adds a b xs → Adds b c ys → Adds a c (xs ++ ys)
both {a} {b} {c} {xs} {ys} x y = record { before = y.before ∙ x.before; tokens = y.tokens ∙ ap (λ ts. ts ++ ys) x.tokens ∙ append_assoc a.tokens xs ys }

-- the last write
pub last : {E : Type 0} (r : Result (Unit {0}) E) {a b c : Written} {xs : List Token} {t : Token} → Adds a b xs → Writes r b c t → OnOk r (Adds a c (xs ++ t ∷ []))
last (Ok u) x w = both x (one w)
last (Err e) x w = tt

-- ---- the text of a tree whose tokens were written

pub text-of : (w : Written) (d : Data) (a : Written) → a.before ≡ [] → a.tokens ≡ [] → Adds a w (json_tokens (outline d)) → w.before ++ print w.tokens ≡ compact_text d
text-of w d a nothing none adds = ap (λ b. b ++ print w.tokens) (adds.before ∙ nothing) ∙ ap print (adds.tokens ∙ ap (λ ts. ts ++ json_tokens (outline d)) none) ∙ print-outline d

mutual
  depth-outline : (d : Data) → json_tree.depth (outline d) ≡ depth d
  depth-outline null = refl
  depth-outline (boolean b) = refl
  depth-outline (number n) = refl
  depth-outline (string s) = refl
  depth-outline (array ds) = ap suc (depth-items ds)
  depth-outline (object ms) = ap suc (depth-members ms)

  depth-items : (ds : Items) → json_tree.items_depth (items_outline ds) ≡ items_depth ds
  depth-items no_items = refl
  depth-items (item d ds) = λ i. max (depth-outline d i) (depth-items ds i)

  depth-members : (ms : Members) → json_tree.members_depth (members_outline ms) ≡ members_depth ms
  depth-members no_members = refl
  depth-members (member k d ms) = λ i. max (depth-outline d i) (depth-members ms i)

value-back : (d : Data) → depth d ≤ max_depth → json.value max_depth (json_tokens (outline d)) ≡ Some (outline d, [])
value-back d shallow =
    ap (json.value max_depth) (sym (append-nil (json_tokens (outline d)))) ∙ value-json_tokens (outline d) max_depth [] (omega (arith, shallow, depth-outline d))

-- a text of the tree's tokens is read as the tree
pub read-back : (text : List ℕ) (d : Data) → tokens text ≡ json_tokens (outline d) → depth d ≤ max_depth → of_json (outline d) ≡ Some d → read text ≡ Some d
read-back text d spelled shallow is =
    (λ i. option_and_then of_json (option_and_then (λ p. json.if_last p.0 p.1) (json.value max_depth (spelled i))))
    ∙ (λ i. option_and_then of_json (option_and_then (λ p. json.if_last p.0 p.1) (value-back d shallow i)))
    ∙ is

pub tree-of : (w : Written) (d : Data) (a : Written) → a.before ≡ [] → a.tokens ≡ [] → Adds a w (json_tokens (outline d)) → tokens (print w.tokens) ≡ w.tokens → IsUtf8 (print w.tokens)
    → depth d ≤ max_depth → of_json (outline d) ≡ Some d → IsTreeOf (w.before ++ print w.tokens) d
tree-of w d a nothing none adds back utf8 shallow is =
    let alone : print w.tokens ≡ w.before ++ print w.tokens = sym (ap (λ b. b ++ print w.tokens) (adds.before ∙ nothing)) in
    let spelled : tokens (print w.tokens) ≡ json_tokens (outline d) = back ∙ adds.tokens ∙ ap (λ ts. ts ++ json_tokens (outline d)) none in
    subst (λ t. IsTreeOf t d) alone (utf8, read-back (print w.tokens) d spelled shallow is)

-- ---- the tree of an atom that is written as a text beside a word

pub tagged-as : {a b : Written} (word : List ℕ) (x y : Atom) (s t : List ℕ) → x ≡ y → tagged word (atom_text y) ≡ atom_tree y → s ≡ t → HasText x t → Adds a b (json_tokens (outline (tagged word s)))
    → Adds a b (json_tokens (outline (atom_tree x)))
tagged-as {a} {b} word x y s t is spelled text has written =
    let one_text : s ≡ atom_text y = text ∙ only-text y t (subst (λ z. HasText z t) is has) in
    subst (λ d. Adds a b (json_tokens (outline d))) (ap (tagged word) one_text ∙ spelled ∙ sym (ap atom_tree is)) written

pub moment-tree : (x : Atom) (m : ℤ) (t : List ℕ) → x ≡ atom.Moment m → HasText x t → IsAtomTree x (atom_tree x)
moment-tree x m t is has =
    let text : HasText (atom.Moment m) t = subst (λ z. HasText z t) is has in
    subst (λ z. IsAtomTree z (atom_tree z)) (sym is) (atom_text (atom.Moment m), subst (HasText (atom.Moment m)) (only-text (atom.Moment m) t text) text, refl)
