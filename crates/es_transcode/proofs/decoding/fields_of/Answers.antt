use Rattle.std.proofs.Common.{◌≡◌, ◌∙◌, List, [], ◌∷◌, ◌++◌, IsTrue, string_bytes, append_assoc, sym, ap, subst}
use Rattle.std.specs.List.Sorted.{IsStrictlySortedBy}
use Rattle.std.specs.String.{string_cmp}
use Rattle.std.specs.Map.{keys_of}
use Rattle.serde_json.specs.View.{view, members_view}
use Rattle.serde_json.proofs.Views.{Entry}
use Rattle.es_model.specs.Rising.{comes_last}
use Rattle.es_model.specs.Values.{Record}
use Rattle.es_transcode.specs.RecordText.{AreMembers, IsValueTree}
use Rattle.es_transcode.specs.Decoding.{IsValueFault, IsMembersFault}
use Rattle.es_transcode.proofs.DecodingLemmas.{comes-last, members-fault, push-member, still}
use Rattle.es_transcode.proofs.decoding.fields_of.Goals as goal

pub push-requires : goal.push-requires
push-requires c =
    let e : Entry = (c.in-Some.name.now, c.in-Some.tree.now) in
    let inv = c.loop-name.invariant in
    let es : c.args.members.now.entries ≡ inv.0 ++ e ∷ c.next.new.self = inv.1 ∙ ap (λ (r : List Entry). inv.0 ++ r) c.in-Some.ensures.steps in
    let name : c.in_ok-from_str-in-Ok.field-0 ≡ string_bytes c.in-Some.name.now = c.in_ok-from_str-in-Ok.ensures ∙ c.as_str.ensures.value in
    subst (λ n. IsTrue (comes_last c.loop-name.fields n)) (sym name)
    (comes-last c.loop-name.fields inv.0 e c.next.new.self inv.2 (subst (λ (xs : List Entry). IsStrictlySortedBy string_cmp (keys_of xs)) es c.iter-name-items.ensures.ordered))

pub loop-name-preserved : goal.loop-name-preserved
loop-name-preserved c =
    let e : Entry = (c.in-Some.name.now, c.in-Some.tree.now) in
    let inv = c.loop-name.invariant in
    let es : c.args.members.now.entries ≡ inv.0 ++ e ∷ c.next.new.self = inv.1 ∙ ap (λ (r : List Entry). inv.0 ++ r) c.in-Some.ensures.steps in
    let name : c.in_ok-from_str-in-Ok.field-0 ≡ string_bytes c.in-Some.name.now = c.in_ok-from_str-in-Ok.ensures ∙ c.as_str.ensures.value in (
      inv.0 ++ e ∷ [],
      es ∙ sym (append_assoc inv.0 (e ∷ []) c.next.new.self),
      subst (λ (r : Record). AreMembers r (members_view (inv.0 ++ e ∷ []))) (sym c.in_ok-push-in-Ok.ensures.ok)
          (push-member c.loop-name.fields inv.0 c.in_ok-from_str-in-Ok.field-0 c.in-Ok.value e inv.2 (sym name) c.in-Ok.ensures),
    )

pub returns-in-Err : goal.returns-in-Err
returns-in-Err c =
    let e : Entry = (c.in-Some.name.now, c.in-Some.tree.now) in
    let inv = c.loop-name.invariant in
    let es : c.args.members.now.entries ≡ inv.0 ++ e ∷ c.next.new.self = inv.1 ∙ ap (λ (r : List Entry). inv.0 ++ r) c.in-Some.ensures.steps in
    still (λ v. IsValueTree v (view c.in-Some.tree.now)) (λ (r : Record). AreMembers r (members_view c.args.members.now.entries)) (IsValueFault (view c.in-Some.tree.now)) (IsMembersFault (members_view c.args.members.now.entries))
    (members-fault c.loop-name.fields c.args.members.now.entries inv.0 e c.next.new.self es inv.2) c.in-Err.fault c.in-Err.ensures
