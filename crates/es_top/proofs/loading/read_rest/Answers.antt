use Rattle.std.proofs.Common.{inr, length, ap, sym, subst, arith, length-append, length-drop, length-take}
use Rattle.std.specs.Io.KnownBytes.{Consumes}
use Rattle.es_io.proofs.LinesLemmas.{TakesAtMost-none, TakesAtMost-then}
use Rattle.es_top.proofs.TakenLemmas.{takes_less}
use Rattle.es_top.proofs.LoadingLemmas.{consumes_nothing, reads_more, read_size, piece_taken}
use Rattle.es_top.proofs.loading.read_rest.Goals as goal

pub loop-room-init : goal.loop-room-init
loop-room-init g c = record {
  size = omega (arith, ap length c.new-bytes.ensures);
  piece = omega (arith, (c.in-Ok.ensures {u = tt}).len, c.in-Ok.piece.ok.0);
  front = subst (Consumes (g.S.Source.left c.args.source.now) (g.S.Source.left c.args.source.now)) (sym c.new-bytes.ensures) (consumes_nothing (g.S.Source.left c.args.source.now));
  bound = TakesAtMost-none (g.S.Source.left c.args.source.now) 1048577;
  later = omega arith;
}

pub returns-in_err-count-clause-bound : goal.returns-in_err-count-clause-bound
returns-in_err-count-clause-bound g c = TakesAtMost-then _ (g.S.Source.left c.loop-room.source) _ _ c.loop-room.room _ c.loop-room.invariant.bound c.read_piece.ensures.bound

pub returns-then-count-eq0-clause-reads : goal.returns-then-count-eq0-clause-reads
returns-then-count-eq0-clause-reads g c =
    let more = (c.in_ok-count.ensures {u = tt}).reads in
    record {
      front = reads_more _ (g.S.Source.left c.loop-room.source) _ c.loop-room.bytes _ _ c.loop-room.invariant.front more;
      whole = inr (more.end c.if-count-eq0.true);
    }

pub returns-then-count-eq0-clause-bound : goal.returns-then-count-eq0-clause-bound
returns-then-count-eq0-clause-bound g c = TakesAtMost-then _ (g.S.Source.left c.loop-room.source) _ _ c.loop-room.room _ c.loop-room.invariant.bound c.read_piece.ensures.bound

pub loop-room-preserved : goal.loop-room-preserved
loop-room-preserved g c =
    let more = (c.in_ok-count.ensures {u = tt}).reads in
    let few = (c.in_ok-count.ensures {u = tt}).few in
    record {
      size = omega (arith, read_size _ _ _ _ _ more, few, c.loop-room.invariant.size);
      piece = simp (length-take, length-append, length-drop) (omega (arith, c.loop-room.invariant.piece, c.loop-room.piece.ok.0));
      front = reads_more _ (g.S.Source.left c.loop-room.source) _ c.loop-room.bytes _ _ c.loop-room.invariant.front more;
      bound = TakesAtMost-then _ (g.S.Source.left c.loop-room.source) _ _ c.loop-room.room _ c.loop-room.invariant.bound (piece_taken _ _ _ _ _ _ more few);
      later = omega (arith, c.read_piece.ensures.cause.later, c.loop-room.invariant.later);
    }

pub returns-clause-bound : goal.returns-clause-bound
returns-clause-bound g c = takes_less _ _ _ c.loop-room.room 0 c.loop-room.invariant.bound (omega arith)
