use Rattle.std.proofs.Common.{arith, ◌≡◌, ◌∙◌, ap, []}
use Rattle.es_model.specs.Tracking.{tracked_in}
use Rattle.es_model.proofs.HistoryLemmas.{tracked_in-small}
use Rattle.es_memory.proofs.memory.MemoryRecorderProcessRecorder.max_tracking_id.Goals as goal

pub returns-clause-small : goal.returns-clause-small
returns-clause-small c =
    let is : c.find_tracked.result ≡ tracked_in c.args.self.now.history c.args.leader.now = c.find_tracked.ensures ∙ ap (λ h. tracked_in h c.args.leader.now) c.as_slice.ensures in
    omega (arith, tracked_in-small [] c.args.self.now.history c.args.leader.now c.args.self.now.formed.causes)
