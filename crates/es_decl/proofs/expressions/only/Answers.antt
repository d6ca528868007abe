use Rattle.std.proofs.Common.{◌≡◌, List, [], ◌∷◌, length, sym, ◌∙◌, arith, String, Global}
use Rattle.serde_json.specs.declared.value.Value.{Value}
use Rattle.es_decl.proofs.expressions.only.Goals as goal

single-entry : (es : List (String Global × Value)) (e : String Global × Value) (rest : List (String Global × Value)) → es ≡ e ∷ rest → length es ≡ 1 → es ≡ e ∷ []
single-entry [] e rest p h = cc
single-entry (x ∷ []) e rest p h = cc
single-entry (x ∷ y ∷ es) e rest p h = absurd (omega (arith, h))

pub returns-in-Some : goal.returns-in-Some
returns-in-Some c =
    let one : length c.args.members.now.entries ≡ 1 = sym c.len.ensures.len ∙ c.if-len-ne1.false in
    (c.in-Some.name.now, single-entry c.args.members.now.entries (c.in-Some.name.now, c.in-Some.value.now) c.next.new.self (sym c.iter.ensures.rest ∙ c.in-Some.ensures.steps) one, c.as_str.ensures.value)
