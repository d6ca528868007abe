use Rattle.std.proofs.Common.{◌∙◌}
use Rattle.es_world.proofs.LeftLemmas.{left_come}
use Rattle.es_world.proofs.lending.notification_over.Goals as goal

pub returns-in-Ok : goal.returns-in-Ok
returns-in-Ok c = λ h entries told there.
    left_come c.args.sys.now c.args.app.now h entries c.args.leader.now c.args.notification.now.id c.args.at c.in_ok-tracked.tracked c.args.notification.now.event c.in-Ok.event _ _
    (c.in_ok-tracked.ensures.tracked h told) c.if-id-tracked.false c.if-id-tracked-2.false there c.in-Ok.ensures.converts
    (c.event_over.ensures h (c.in_ok-tracked.ensures.same ∙ told))
