use Rattle.std.proofs.Common.{◌≡◌, Err, arith, rules}
use Rattle.es_expr.specs.Misfits.{pipe_misfits}
use Rattle.es_expr.proofs.FindsLemmas.{loop-on, loop-halts}
use Rattle.es_expr.proofs.walk.pipes.pipes.Goals as goal

pub returns-in_err-pipe : goal.returns-in_err-pipe
returns-in_err-pipe c =
    let rethrown : c.from_residual.result ≡ Err c.in_err-pipe.field-0.0 = search rules in
    loop-halts (pipe_misfits c.args.sys.now c.args.path.now) c.args.pipes.now c.loop-place.place c.loop-place.invariant
    c.index-pipes-place.result c.in_err-pipe.field-0.0 c.from_residual.result rethrown
    c.loop-place-test.true c.index-pipes-place.is c.in_err-pipe.ensures

pub loop-place-preserved : goal.loop-place-preserved
loop-place-preserved c =
    loop-on (pipe_misfits c.args.sys.now c.args.path.now) c.args.pipes.now c.loop-place.place c.loop-place.invariant
    _ c.index-pipes-place.result (omega arith) c.loop-place-test.true c.index-pipes-place.is c.in_ok-pipe.ensures
