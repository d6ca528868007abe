use Rattle.std.proofs.Common.{◌≡◌}
use Rattle.es_ties.proofs.tests.write.Given as goal

abbrev pub invariant-loop : goal.invariant-loop
invariant-loop l = record { ties : l.pen.ties ≡ l.ties; log : l.pen.log ≡ l.initial.pen.log; from : l.note.ties ≡ l.ties; seen : l.note.seen ≡ l.pen.seen }
