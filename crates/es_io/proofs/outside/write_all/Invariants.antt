use Rattle.std.proofs.Common.{◌≤◌, length}
use Rattle.es_io.proofs.KnownLemmas.{Written}
use Rattle.es_io.proofs.outside.write_all.Given as goal

abbrev pub invariant-loop-rest : goal.invariant-loop-rest
invariant-loop-rest g l = record {
  so : Written (g.T.Sink.written l.initial.sink) (g.T.Sink.written l.sink) l.bytes l.rest;
  later : g.T.Sink.faults l.initial.sink ≤ g.T.Sink.faults l.sink;
}

abbrev pub decreases-loop-rest : goal.decreases-loop-rest
decreases-loop-rest g l = length l.rest
