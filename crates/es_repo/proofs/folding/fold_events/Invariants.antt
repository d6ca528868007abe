use Rattle.std.proofs.Common.{◌≡◌, ◌^◌, None, IfSome, drop}
use Rattle.es_domain.specs.inner.Overlay.{IsBelow}
use Rattle.es_repo.specs.inner.Reader.{folded_from}
use Rattle.es_repo.proofs.folding.fold_events.Given as goal

abbrev pub invariant-loop-event : goal.invariant-loop-event
invariant-loop-event l = (folded_from l.sys None l.events ≡ folded_from l.sys l.found (drop l.event-index l.events)) × IfSome l.found (IsBelow l.sys (2 ^ 62))
