use Rattle.std.proofs.Common.{◌≡◌, map, take}
use Rattle.std.specs.Prelude.{All}
use Rattle.es_expr.specs.Checked.{IsCheckedSystem}
use Rattle.es_mapper.specs.Mapping.{stored}
use Rattle.es_domain.specs.Decision.{IsNewEvent}
use Rattle.es_repo.specs.inner.Stored.{IsReadBack}
use Rattle.es_repo.proofs.verdict.all_stored.Given as goal

abbrev pub invariant-loop-event : goal.invariant-loop-event
invariant-loop-event l = record {
  stored : l.all ≡ map (stored l.sys) (take l.event-index l.events);
  back : IsCheckedSystem l.sys → All (IsNewEvent l.sys) l.events → All (IsReadBack l.sys) (take l.event-index l.events);
}
