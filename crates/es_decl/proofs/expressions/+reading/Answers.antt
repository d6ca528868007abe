use Rattle.std.proofs.Common.{sym, subst}
use Rattle.serde_json.specs.View.{view}
use Rattle.es_model.specs.declared.declaration.Code.TheVariants as code
use Rattle.es_decl.specs.Expressions.{spells, spelled}
use Rattle.es_decl.specs.Paths.{item_step}
use Rattle.es_decl.specs.Readings.{Reads, here, under}
use Rattle.es_decl.proofs.ExpressionLemmas.{folded-none, not-one, not-two, not-three}
use Rattle.es_decl.proofs.expressions.+reading.Goals as goal

pub of_one-returns-in-None : goal.of_one-returns-in-None
of_one-returns-in-None t c =
    subst (λ r. Reads r c.here.result) (sym (not-one spelled c.args.word.now (here code.Form) c.args.operator c.args.items.now c.in-None.ensures)) c.here.ensures

pub of_two-returns-in-None : goal.of_two-returns-in-None
of_two-returns-in-None t c =
    subst (λ r. Reads r c.here.result) (sym (not-two spelled c.args.word.now (here code.Form) c.args.operator c.args.items.now c.in-None.ensures)) c.here.ensures

pub of_three-returns-in-None : goal.of_three-returns-in-None
of_three-returns-in-None t c =
    subst (λ r. Reads r c.here.result) (sym (not-three spelled c.args.word.now (here code.Form) c.args.items.now c.in-None.ensures)) c.here.ensures

pub spelled-returns-in-None : goal.spelled-returns-in-None
spelled-returns-in-None t c = subst (λ r. Reads r c.here.result) (sym (folded-none (here code.Form) spelled c.args.tree.now c.in-Object.members c.in-Object.is c.in-None.ensures)) c.here.ensures

pub spelled_operand-returns : goal.spelled_operand-returns
spelled_operand-returns t c =
    let r = spells (view c.args.tree.now) in
    c.in_member.ensures (under (item_step c.args.place) r) (c.in_item.ensures r c.spelled.ensures)
