use Rattle.std.proofs.Common.{◌≡◌, ◌∙◌, ℕ, List, Option, Some, sym, ap, subst}
use Rattle.std.specs.Prelude.{IfSome}
use Rattle.serde_json.specs.Data.{string}
use Rattle.serde_json.specs.View.{view, members_view}
use Rattle.es_model.specs.declared.value.Atom.{Atom}
use Rattle.es_transcode.specs.Decoding.{kind_named}
use Rattle.es_transcode.specs.Texts.{kind_of, HasText}
use Rattle.es_transcode.proofs.TaggedLemmas.{tagged-tree, view-String}
use Rattle.es_transcode.proofs.decoding.tagged_atom.Goals as goal

pub returns-in-Some-2 : goal.returns-in-Some-2
returns-in-Some-2 c =
    let a : Atom = c.in-Some-2.atom in
    let text : List ℕ = c.as_str.result.now in
    let is : (kind_of a ≡ Some c.in-Some-named_kind.kind) × HasText a text = subst (λ (o : Option Atom). IfSome o (λ b. (kind_of b ≡ Some c.in-Some-named_kind.kind) × HasText b text)) c.in-Some-2.is c.in_ok-atom-in-String.ensures.text in
    let data_is : view c.in-Some.data.now ≡ string text = ap view c.in-String.is ∙ view-String c.in-String.text ∙ ap string (sym c.as_str.ensures.value) in
    let named : kind_named c.in-Some.word.now ≡ Some c.in-Some-named_kind.kind = sym c.named_kind.ensures ∙ c.in-Some-named_kind.is in
    tagged-tree c.in-Some.word.now a c.in-Some-named_kind.kind text (view c.in-Some.data.now) (members_view c.args.members.now.entries) c.in-Some.ensures data_is named is.0 is.1
