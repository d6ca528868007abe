use Rattle.std.proofs.Common.{rules, ◌≡◌, ◌∙◌, sym, length, subst}
use Rattle.std.proofs.lemmas.List.{with_items_is}
use Rattle.es_world.specs.Answers.{commanded}
use Rattle.es_world.specs.Told.{histories_in}
use Rattle.es_world.specs.inner.Left.{LeavesAt}
use Rattle.es_world.proofs.DoubtLemmas.{made-concluded, commanded-reasoned}
use Rattle.es_world.proofs.StepLemmas.{same_long}
use Rattle.es_world.proofs.world.World.command.Goals as goal

pub returns-clause-made : goal.returns-clause-made
returns-clause-made c =
    let old = c.args.self.now.histories.items in
    let new = c.command_at-answer.new.histories in
    let lent : c.as_mut_slice-histories.result.now ≡ old = search rules in
    let size : c.doubt.new.self.histories.len ≡ length c.as_mut_slice-histories.result.now = search rules in
    let long : length new ≡ c.doubt.new.self.histories.len = same_long new c.as_mut_slice-histories.result.now c.command_at-answer.ensures.named ∙ sym size in
    let back : c.conclude.new.self.histories.items ≡ new = c.conclude.ensures.histories ∙ with_items_is c.doubt.new.self.histories new long in
    let o = commanded c.args.self.now.sys c.args.app.now (histories_in old c.args.app.now) c.args.text c.args.at c.args.command.now in
    let left : LeavesAt c.args.app.now o (histories_in old) c.command_at-answer.result (histories_in new) = search rules in
    made-concluded old c.conclude.new.self.histories.items c.args.self.now.down.items c.args.app.now c.doubt.new.self.down.items c.conclude.new.self.down.items c.args.sure o c.command_at-answer.result c.conclude.result
    (commanded-reasoned c.args.self.now.sys c.args.app.now (histories_in old c.args.app.now) c.args.text c.args.at c.args.command.now)
    c.in_ok-doubt.ensures.down (subst (λ hs. LeavesAt c.args.app.now o (histories_in old) c.command_at-answer.result (histories_in hs)) (sym back) left) c.conclude.ensures.concludes
