use Rattle.std.proofs.Common.{◌≡◌, ◌+◌, ◌<◌, ◌^◌, length}
use Rattle.std.specs.Prelude.{All}
use Rattle.es_recorder.specs.Selections.{AreNumbered}
use Rattle.es_sqlite.proofs.reading.notifications_of.Given as goal

abbrev pub invariant-loop-row : goal.invariant-loop-row
invariant-loop-row l = record {
  count : length l.notifications ≡ l.row-index;
  expected : l.expected ≡ l.first + l.row-index;
  numbered : AreNumbered l.first l.notifications;
  ids : All (λ n. n.id < 2 ^ 62) l.notifications;
  versions : All (λ n. n.event.originator_version < 2 ^ 62) l.notifications;
}
