use Rattle.std.proofs.Common.{◌≡◌, ◌∙◌, List, [], ◌∷◌, ◌++◌, IsTrue, Ok, string_bytes, append_assoc, sym, ap, subst}
use Rattle.std.specs.List.Sorted.{IsStrictlySortedBy}
use Rattle.std.specs.String.{string_cmp}
use Rattle.std.specs.Map.{keys_of}
use Rattle.serde_json.specs.View.{view, members_view}
use Rattle.serde_json.proofs.Views.{Entry}
use Rattle.es_model.specs.Rising.{comes_last}
use Rattle.es_decl.specs.Paths.{member_step}
use Rattle.es_decl.specs.Readings.{under}
use Rattle.es_decl.specs.Parts.{each_member, with_name}
use Rattle.es_decl.proofs.PartLemmas.{AreNames, comes-last, push-name, has-name, one-member, member-fails}
use Rattle.es_decl.proofs.ReadingLemmas.{after}
use Rattle.es_decl.proofs.parts.each_member.Goals as goal

pub push-requires : goal.push-requires
push-requires g c =
    let m = g.P.Part.meaning c.args.part.now in
    let n = c.as_str-name.result.now in
    let e : Entry = (c.in-Some.name.now, c.in-Some.tree.now) in
    let inv = c.loop-name.invariant.0 in
    let es : c.args.members.now.entries ≡ inv.0 ++ e ∷ c.next.new.self = inv.1 ∙ ap (λ (r : List Entry). inv.0 ++ r) c.in-Some.ensures.steps in
    let name : string_bytes c.in-Some.name.now ≡ c.in-Ok.entry.0 = sym c.as_str-name.ensures.value ∙ has-name c.args.form m n (view c.in-Some.tree.now) c.in-Ok.entry (c.in-Ok.ensures (with_name c.args.form m n (view c.in-Some.tree.now)) c.with_name.ensures) in
    subst (λ k. IsTrue (comes_last c.loop-name.all k)) name
    (comes-last c.loop-name.all inv.0 e c.next.new.self inv.2 (subst (λ (xs : List Entry). IsStrictlySortedBy string_cmp (keys_of xs)) es c.iter-name-items.ensures.ordered))

pub loop-name-preserved : goal.loop-name-preserved
loop-name-preserved g c =
    let m = g.P.Part.meaning c.args.part.now in
    let n = c.as_str-name.result.now in
    let e : Entry = (c.in-Some.name.now, c.in-Some.tree.now) in
    let inv = c.loop-name.invariant.0 in
    let es : c.args.members.now.entries ≡ inv.0 ++ e ∷ c.next.new.self = inv.1 ∙ ap (λ (r : List Entry). inv.0 ++ r) c.in-Some.ensures.steps in
    let read : under (member_step n) (with_name c.args.form m n (view c.in-Some.tree.now)) ≡ Ok c.in-Ok.entry = c.in-Ok.ensures (with_name c.args.form m n (view c.in-Some.tree.now)) c.with_name.ensures in
    let name : string_bytes c.in-Some.name.now ≡ c.in-Ok.entry.0 = sym c.as_str-name.ensures.value ∙ has-name c.args.form m n (view c.in-Some.tree.now) c.in-Ok.entry read in (
      (
        inv.0 ++ e ∷ [],
        es ∙ sym (append_assoc inv.0 (e ∷ []) c.next.new.self),
        subst (λ r. AreNames r (inv.0 ++ e ∷ [])) (sym c.in_ok-push-in-Ok.ensures.ok) (push-name c.loop-name.all inv.0 c.in-Ok.entry e inv.2 name),
      ),
      c.loop-name.invariant.1 ∙ ap (λ (r : List Entry). after c.loop-name.all (each_member c.args.form m (members_view r))) c.in-Some.ensures.steps
          ∙ one-member c.args.form m n e c.next.new.self c.loop-name.all c.in-Ok.entry c.as_str-name.ensures.value read
          ∙ ap (λ r. after r (each_member c.args.form m (members_view c.next.new.self))) (sym c.in_ok-push-in-Ok.ensures.ok),
    )

pub returns-in-Err : goal.returns-in-Err
returns-in-Err g c =
    let m = g.P.Part.meaning c.args.part.now in
    let n = c.as_str-name.result.now in
    let e : Entry = (c.in-Some.name.now, c.in-Some.tree.now) in
    member-fails c.args.form m n c.args.members.now.entries e c.next.new.self c.loop-name.all c.in-Err.fault c.as_str-name.ensures.value
    (c.loop-name.invariant.1 ∙ ap (λ (r : List Entry). after c.loop-name.all (each_member c.args.form m (members_view r))) c.in-Some.ensures.steps)
    (c.in-Err.ensures (with_name c.args.form m n (view c.in-Some.tree.now)) c.with_name.ensures)
