use Rattle.std.proofs.Common.{◌≡◌, ◌<◌, ◌^◌, length}
use Rattle.std.specs.Prelude.{All}
use Rattle.es_sqlite.proofs.reading.events_of.Given as goal

abbrev pub invariant-loop-row : goal.invariant-loop-row
invariant-loop-row l = record {
  count : length l.events ≡ l.row-index;
  versions : All (λ e. e.originator_version < 2 ^ 62) l.events;
}
