use Rattle.std.proofs.Common.{rules, ◌≡◌, ◌∙◌, ◌&&◌, not, [], ap, sym, length}
use Rattle.std.proofs.lemmas.List.{with_items_is}
use Rattle.es_process.specs.SingleThread.{is_among}
use Rattle.es_world.specs.Told.{histories_in}
use Rattle.es_world.specs.World.{left_of}
use Rattle.es_world.proofs.StepLemmas.{same_long}
use Rattle.es_world.proofs.world.World.stop.Goals as goal

pub returns-clause-left : goal.returns-clause-left
returns-clause-left c =
    let new = c.settle_each.new.histories in
    let size : c.args.self.now.histories.len ≡ length c.as_mut_slice.result.now = search rules in
    let long : length new ≡ c.args.self.now.histories.len = same_long new c.as_mut_slice.result.now c.settle_each.ensures.named ∙ sym size in
    let lent : c.as_mut_slice.result.now ≡ c.args.self.now.histories.items = search rules in
    let names : c.as_slice.result.now ≡ c.args.self.now.down.items = search rules in
    let cleared : c.clear.new.self.items ≡ [] = search rules in
    let left = ap histories_in (with_items_is c.args.self.now.histories new long) ∙ c.settle_each.ensures.left ∙ (λ i app. left_of (is_among app (names i) && not (is_among app c.args.kept.now)) (histories_in (lent i) app)) in
    λ i. record { histories = left i; down = λ app. is_among app (cleared i) }
