use Rattle.std.proofs.Common.{arith}
use Rattle.es_io.proofs.KnownLemmas.{Written-none, Written-more}
use Rattle.es_io.proofs.outside.write_all.Goals as goal

pub loop-rest-init : goal.loop-rest-init
loop-rest-init g c = record { so = Written-none _ _; later = omega arith }

pub loop-rest-preserved : goal.loop-rest-preserved
loop-rest-preserved g c = record {
  so = Written-more _ _ _ _ _ _ c.loop-rest.invariant.so c.in_ok-count.ensures.bytes;
  later = omega (arith, c.write.ensures.cause.later, c.loop-rest.invariant.later);
}
