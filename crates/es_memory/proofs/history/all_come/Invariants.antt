use Rattle.std.proofs.Common.{◌≡◌, ◌&&◌, true, [], length, take, drop}
use Rattle.std.specs.Prelude.{IfSome}
use Rattle.es_model.specs.History.{log, versions_follow, causes_follow}
use Rattle.es_memory.specs.inner.Index.{Stands}
use Rattle.es_memory.proofs.history.all_come.Given as goal

abbrev pub invariant-loop-i : goal.invariant-loop-i
invariant-loop-i l = record {
  same : (versions_follow (log (take l.i l.history)) (log (drop l.i l.history)) && causes_follow (take l.i l.history) (drop l.i l.history)) ≡ (versions_follow [] (log l.history) && causes_follow [] l.history);
  follow : causes_follow [] (take l.i l.history) ≡ true;
  before : l.before ≡ length (log (take l.i l.history));
  index : IfSome l.index (Stands (take l.i l.history));
}
