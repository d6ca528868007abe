use Rattle.std.proofs.Common.{arith, ◌≡◌, ◌++◌, ◌+◌, ◌∙◌, ap, length, take, drop}
use Rattle.es_model.specs.History.{log}
use Rattle.es_model.proofs.HistoryLemmas.{size-drop}
use Rattle.es_recorder.specs.Selections.{ids_from, numbered_from}
use Rattle.es_memory.proofs.SelectingLemmas.{add-recording}
use Rattle.es_memory.proofs.selections.notifications_of.Goals as goal

pub loop-recording-preserved : goal.loop-recording-preserved
loop-recording-preserved c =
    let h = c.args.history.now in
    let i = c.loop-recording.recording-index in
    let r = c.recording-item.result in
    let before = c.loop-recording.before in
    let events : c.as_slice-events.result.now ≡ r.events = c.as_slice-events.ensures in
    let added = c.in_ok-add_notifications.ensures.added ∙ (λ k. take c.args.limit (c.loop-recording.found ++ ids_from c.args.start (numbered_from (before + 1) (events k)))) in
    record {
      few = c.add_notifications.ensures.few;
      counted = omega (arith, size-drop h i r c.loop-recording-test.true c.recording-item.is, ap length events, c.loop-recording.invariant.counted);
      found = (λ k. take c.args.limit (added k ++ ids_from c.args.start (numbered_from (before + length (events k) + 1) (log (drop (i + 1) h)))))
          ∙ add-recording c.loop-recording.found c.args.start c.args.limit before h i r c.loop-recording-test.true c.recording-item.is
          ∙ c.loop-recording.invariant.found;
    }
