use Rattle.std.proofs.Common.{◌∙◌, sym}
use Rattle.es_world.proofs.LeftLemmas.{left_followed}
use Rattle.es_world.proofs.outcomes.event_over.Goals as goal

pub returns-in-Ok : goal.returns-in-Ok
returns-in-Ok c = λ h told.
    left_followed c.args.app.now c.args.leader.now _ c.args.id c.args.at _ c.in-Ok.verdict h _ _ c.in_ok-copy.ensures (sym (c.in-Ok.ensures.verdict h told)) (c.add_decided.ensures h (c.in-Ok.ensures.same.history ∙ told))
