use Rattle.std.proofs.Common.{◌≡◌, take, length}
use Rattle.std.specs.Prelude.{IfSome}
use Rattle.es_model.specs.History.{log}
use Rattle.es_memory.specs.inner.Index.{Stands}
use Rattle.es_memory.proofs.index.index_of.Given as goal

abbrev pub invariant-loop-i : goal.invariant-loop-i
invariant-loop-i l = record {
  before : l.before ≡ length (log (take l.i l.history));
  index : IfSome l.index (Stands (take l.i l.history));
}
