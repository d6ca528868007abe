use Rattle.std.proofs.Common.{◌∙◌, sym, ap}
use Rattle.es_expr.specs.Misfits.{leads}
use Rattle.es_lines.specs.declared.request.Request.TheVariants as requests
use Rattle.es_lines.proofs.RequestLemmas.{tests-led}
use Rattle.es_lines.proofs.reading.test_leader.Goals as goal

pub returns-then-leads : goal.returns-then-leads
returns-then-leads c =
    tests-led c.args.sys.now c.args.app.now c.args.leader.now c.test_app.result
    (ap (λ l. leads c.args.sys.now l c.args.app.now) (sym c.as_str.ensures) ∙ ap (λ a. leads c.args.sys.now c.as_str.result.now a) (sym c.as_str-2.ensures) ∙ sym c.leads.ensures ∙ c.if-leads.true)
    (c.test_app.ensures (requests.Tracking c.args.app.now c.args.leader.now))
