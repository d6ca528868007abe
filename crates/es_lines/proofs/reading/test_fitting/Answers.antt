use Rattle.std.proofs.Common.{◌∙◌, sym}
use Rattle.es_lines.proofs.RequestLemmas.{tests-listed}
use Rattle.es_lines.proofs.reading.test_fitting.Goals as goal

pub returns-then-is_listed : goal.returns-then-is_listed
returns-then-is_listed c =
    tests-listed c.args.sys.now c.args.app.now c.args.command.now c.test_arguments.result (sym c.is_listed.ensures ∙ c.if-is_listed.true) (c.test_arguments.ensures c.args.app.now)
