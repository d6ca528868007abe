use Rattle.std.proofs.Common.{ap, length}
use Rattle.es_memory.proofs.IndexLemmas.{ids-push, leaders-push, places-push}
use Rattle.es_memory.proofs.index.Index.add.Goals as goal

pub returns : goal.returns
returns c = λ h number before stands. (
  λ id. ids-push h c.args.recording.now c.args.before c.as_slice-events.result.now id _ _ before c.as_slice-events.ensures (stands.0 id) (c.in_ok-add_events.ensures {u = tt} id),
  λ leader. leaders-push h c.args.recording.now leader _ _ (stands.1 leader) (c.in_ok-add_cause.ensures {u = tt} leader),
  places-push h c.args.recording.now c.args.number (length c.as_slice-events.result.now) c.args.self.now.places.items _ number (ap length c.as_slice-events.ensures) (c.in_ok-add_places.ensures {u = tt}) stands.2,
)
