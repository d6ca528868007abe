use Rattle.std.proofs.Common.{take}
use Rattle.std.specs.Option.{option_copied}
use Rattle.es_recorder.specs.Selections.{snapshots_upto, IsNewest}
use Rattle.es_memory.proofs.snapshots.newest_of.Given as goal

abbrev pub invariant-loop-snapshot : goal.invariant-loop-snapshot
invariant-loop-snapshot l = IsNewest (snapshots_upto (take l.snapshot-index l.snapshots) l.id l.lte) (option_copied l.newest)
