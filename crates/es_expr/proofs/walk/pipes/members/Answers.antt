use Rattle.std.proofs.Common.{◌≡◌, Err, arith, rules}
use Rattle.es_expr.specs.Misfits.{joined_misfits}
use Rattle.es_expr.proofs.FindsLemmas.{loop-on, loop-halts}
use Rattle.es_expr.proofs.walk.pipes.members.Goals as goal

pub returns-in_err-member : goal.returns-in_err-member
returns-in_err-member c =
    let rethrown : c.from_residual.result ≡ Err c.in_err-member.field-0.0 = search rules in
    loop-halts (joined_misfits c.args.sys.now c.args.pipe.now c.args.path.now) c.args.pipe.now c.loop-place.place c.loop-place.invariant
    c.index-pipe-place.result c.in_err-member.field-0.0 c.from_residual.result rethrown
    c.loop-place-test.true c.index-pipe-place.is c.in_err-member.ensures

pub loop-place-preserved : goal.loop-place-preserved
loop-place-preserved c =
    loop-on (joined_misfits c.args.sys.now c.args.pipe.now c.args.path.now) c.args.pipe.now c.loop-place.place c.loop-place.invariant
    _ c.index-pipe-place.result (omega arith) c.loop-place-test.true c.index-pipe-place.is c.in_ok-member.ensures
