use Rattle.std.proofs.Common.{◌≡◌, Err, arith, rules}
use Rattle.es_expr.specs.Misfits.{command_misfits}
use Rattle.es_expr.proofs.FindsLemmas.{loop-on, loop-halts}
use Rattle.es_expr.proofs.walk.classes.commands.Goals as goal

pub returns-in_err-command : goal.returns-in_err-command
returns-in_err-command c =
    let rethrown : c.from_residual.result ≡ Err c.in_err-command.field-0.0 = search rules in
    loop-halts (command_misfits c.args.class.now c.args.path.now) c.args.commands.now c.loop-place.place c.loop-place.invariant
    c.index-commands-place.result c.in_err-command.field-0.0 c.from_residual.result rethrown
    c.loop-place-test.true c.index-commands-place.is c.in_err-command.ensures

pub loop-place-preserved : goal.loop-place-preserved
loop-place-preserved c =
    loop-on (command_misfits c.args.class.now c.args.path.now) c.args.commands.now c.loop-place.place c.loop-place.invariant
    _ c.index-commands-place.result (omega arith) c.loop-place-test.true c.index-commands-place.is c.in_ok-command.ensures
