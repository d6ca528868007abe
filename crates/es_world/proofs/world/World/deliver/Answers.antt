use Rattle.std.proofs.Common.{rules, ◌≡◌, ◌∙◌, ◌<◌, ◌-◌, Some, slice_get, ap, sym, subst, arith, length, true, false}
use Rattle.std.proofs.lemmas.List.{with_items_is}
use Rattle.es_model.specs.History.{log}
use Rattle.es_process.specs.SingleThread.{is_among}
use Rattle.es_process.specs.Standing.{IsNextAfter}
use Rattle.es_world.specs.Answers.{is_led}
use Rattle.es_world.specs.Steps.{world_of, world_over}
use Rattle.es_world.specs.Told.{histories_in, place_in}
use Rattle.es_world.specs.declared.steps.StepAnswer.TheVariants as answer
use Rattle.es_world.proofs.StepLemmas.{declared-placed, led-declared, delivered-made, delivered-none, only-made}
use Rattle.es_world.proofs.world.World.deliver.Goals as goal

pub entry_at-requires-clause-there : goal.entry_at-requires-clause-there
entry_at-requires-clause-there c =
    let led : is_led c.args.self.now.sys c.args.leader.now c.args.follower.now ≡ true = search rules in
    let lent : c.as_mut_slice.result.now ≡ c.args.self.now.histories.items = search rules in
    let both = led-declared c.args.self.now.sys c.args.leader.now c.args.follower.now c.args.self.now.checked led in
    subst (λ hs. place_in hs c.args.leader.now < length hs) (sym lent) (declared-placed c.args.self.now.sys c.args.self.now.histories.items c.args.leader.now c.args.self.now.named both.0)

pub notify-requires-clause-app : goal.notify-requires-clause-app
notify-requires-clause-app c =
    let led : is_led c.args.self.now.sys c.args.leader.now c.args.follower.now ≡ true = search rules in
    (led-declared c.args.self.now.sys c.args.leader.now c.args.follower.now c.args.self.now.checked led).1

pub notify-requires-clause-leader : goal.notify-requires-clause-leader
notify-requires-clause-leader c =
    let led : is_led c.args.self.now.sys c.args.leader.now c.args.follower.now ≡ true = search rules in
    (led-declared c.args.self.now.sys c.args.leader.now c.args.follower.now c.args.self.now.checked led).0

pub notify-requires-clause-there : goal.notify-requires-clause-there
notify-requires-clause-there c =
    let led : is_led c.args.self.now.sys c.args.leader.now c.args.follower.now ≡ true = search rules in
    let lent : c.as_mut_slice.result.now ≡ c.args.self.now.histories.items = search rules in
    let size : c.args.self.now.histories.len ≡ length c.as_mut_slice.result.now = search rules in
    let same : c.entry_at.new.histories ≡ c.as_mut_slice.result.now = c.in_ok-entry.ensures.same in
    let back = with_items_is c.args.self.now.histories c.entry_at.new.histories (ap length same ∙ sym size) ∙ same ∙ lent in
    subst (λ hs. place_in hs c.args.follower.now < length hs) (sym back)
    (declared-placed c.args.self.now.sys c.args.self.now.histories.items c.args.follower.now c.args.self.now.named (led-declared c.args.self.now.sys c.args.leader.now c.args.follower.now c.args.self.now.checked led).1)

pub returns-in-Some-clause-made : goal.returns-in-Some-clause-made
returns-in-Some-clause-made c =
    let led : is_led c.args.self.now.sys c.args.leader.now c.args.follower.now ≡ true = search rules in
    let up : is_among c.args.follower.now c.args.self.now.down.items ≡ false = search rules in
    let leader_up : is_among c.args.leader.now c.args.self.now.down.items ≡ false = search rules in
    let lent : c.as_mut_slice.result.now ≡ c.args.self.now.histories.items = search rules in
    let size : c.args.self.now.histories.len ≡ length c.as_mut_slice.result.now = search rules in
    let same : c.entry_at.new.histories ≡ c.as_mut_slice.result.now = c.in_ok-entry.ensures.same in
    let back = with_items_is c.args.self.now.histories c.entry_at.new.histories (ap length same ∙ sym size) ∙ same ∙ lent in
    let next : IsNextAfter (log (histories_in c.as_mut_slice.result.now c.args.leader.now)) (c.args.id - 1) (Some c.in-Some.entry) = subst (IsNextAfter (log (histories_in c.as_mut_slice.result.now c.args.leader.now)) (c.args.id - 1)) c.in-Some.is c.in_ok-entry.ensures.found in
    delivered-made c.args.self.now.sys (world_of c.args.self.now) c.args.follower.now c.args.leader.now c.args.id c.args.at up leader_up _ c.in-Some.entry.id c.args.sure c.in-Some.entry.event c.notify.result (world_of c.notify.new.self)
    (ap (λ hs. world_over hs c.args.self.now.down.items) back) (omega (arith, c.if-id-eq0.false)) led (subst (λ hs. slice_get (log (histories_in hs c.args.leader.now)) (c.args.id - 1) ≡ Some c.in-Some.entry.event) lent next.0) (omega (arith, next.1, c.if-id-eq0.false)) c.notify.ensures.made

pub returns-in-None-clause-made : goal.returns-in-None-clause-made
returns-in-None-clause-made c =
    let up : is_among c.args.follower.now c.args.self.now.down.items ≡ false = search rules in
    let leader_up : is_among c.args.leader.now c.args.self.now.down.items ≡ false = search rules in
    let lent : c.as_mut_slice.result.now ≡ c.args.self.now.histories.items = search rules in
    let size : c.args.self.now.histories.len ≡ length c.as_mut_slice.result.now = search rules in
    let same : c.entry_at.new.histories ≡ c.as_mut_slice.result.now = c.in_ok-entry.ensures.same in
    let back = with_items_is c.args.self.now.histories c.entry_at.new.histories (ap length same ∙ sym size) ∙ same ∙ lent in
    only-made (world_of c.args.self.now) _ c.args.follower.now c.args.sure _ answer.NoSuch
    (delivered-none c.args.self.now.sys (world_of c.args.self.now) c.args.follower.now c.args.leader.now c.args.id c.args.at up leader_up (omega (arith, c.if-id-eq0.false)) (search rules))
    (ap (λ hs. world_over hs c.args.self.now.down.items) back)
