use Rattle.std.proofs.Common.{rules, ◌≡◌, ◌∙◌, sym, length, subst}
use Rattle.std.proofs.lemmas.List.{with_items_is}
use Rattle.es_world.specs.Answers.{come_to}
use Rattle.es_world.specs.Told.{histories_in}
use Rattle.es_world.specs.inner.Left.{LeavesAt}
use Rattle.es_world.proofs.DoubtLemmas.{made-concluded, come-reasoned}
use Rattle.es_world.proofs.StepLemmas.{same_long}
use Rattle.es_world.proofs.world.World.notify.Goals as goal

pub returns-clause-made : goal.returns-clause-made
returns-clause-made c = λ entries there.
    let old = c.args.self.now.histories.items in
    let new = c.notification_at-answer.new.histories in
    let lent : c.as_mut_slice-histories.result.now ≡ old = search rules in
    let size : c.doubt.new.self.histories.len ≡ length c.as_mut_slice-histories.result.now = search rules in
    let long : length new ≡ c.doubt.new.self.histories.len = same_long new c.as_mut_slice-histories.result.now c.notification_at-answer.ensures.named ∙ sym size in
    let back : c.conclude.new.self.histories.items ≡ new = c.conclude.ensures.histories ∙ with_items_is c.doubt.new.self.histories new long in
    let o = come_to c.args.self.now.sys c.args.follower.now (histories_in old c.args.follower.now) entries c.args.leader.now c.args.notification.now.id c.args.at in
    let left : LeavesAt c.args.follower.now o (histories_in old) c.notification_at-answer.result (histories_in new) =
    subst (λ s. LeavesAt c.args.follower.now (come_to s c.args.follower.now (histories_in old c.args.follower.now) entries c.args.leader.now c.args.notification.now.id c.args.at) (histories_in old) c.notification_at-answer.result (histories_in new)) c.in_ok-doubt.ensures.system
    (subst (λ hs. LeavesAt c.args.follower.now (come_to c.doubt.new.self.sys c.args.follower.now (histories_in hs c.args.follower.now) entries c.args.leader.now c.args.notification.now.id c.args.at) (histories_in hs) c.notification_at-answer.result (histories_in new)) lent
    (c.notification_at-answer.ensures.leaves entries there)) in
    made-concluded old c.conclude.new.self.histories.items c.args.self.now.down.items c.args.follower.now c.doubt.new.self.down.items c.conclude.new.self.down.items c.args.sure o c.notification_at-answer.result c.conclude.result
    (come-reasoned c.args.self.now.sys c.args.follower.now (histories_in old c.args.follower.now) entries c.args.leader.now c.args.notification.now.id c.args.at)
    c.in_ok-doubt.ensures.down (subst (λ hs. LeavesAt c.args.follower.now o (histories_in old) c.notification_at-answer.result (histories_in hs)) (sym back) left) c.conclude.ensures.concludes
