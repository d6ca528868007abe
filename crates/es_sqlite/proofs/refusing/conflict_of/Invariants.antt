use Rattle.std.proofs.Common.{◌≡◌, false}
use Rattle.es_sqlite.proofs.refusing.conflict_of.Given as goal

abbrev pub invariant-loop-at : goal.invariant-loop-at
invariant-loop-at g l = l.initial.conn.in_transaction ≡ false → l.conn.in_transaction ≡ false
