use Rattle.std.proofs.Common.{◌≡◌, false}
use Rattle.es_sqlite.proofs.layout.compile.Given as goal

abbrev pub invariant-loop-statement : goal.invariant-loop-statement
invariant-loop-statement g l = l.initial.conn.in_transaction ≡ false → l.conn.in_transaction ≡ false
