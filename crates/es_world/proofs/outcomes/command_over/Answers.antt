use Rattle.std.proofs.Common.{◌∙◌, sym}
use Rattle.es_world.proofs.LeftLemmas.{left_commanded}
use Rattle.es_world.proofs.outcomes.command_over.Goals as goal

pub returns-in-Ok : goal.returns-in-Ok
returns-in-Ok c = λ h told.
    left_commanded c.args.sys.now c.args.app.now h c.args.text c.args.at c.args.command.now c.in-Ok.verdict _ _
    (sym (c.expects_other.ensures h c.args.command.now.id (c.in_ok-latest.ensures.latest h told)) ∙ c.if-expects_other.false)
    (c.in-Ok.ensures.verdict h (c.in_ok-latest.ensures.same ∙ told))
    (c.add_decided.ensures h (c.in-Ok.ensures.same.history ∙ c.in_ok-latest.ensures.same ∙ told))
