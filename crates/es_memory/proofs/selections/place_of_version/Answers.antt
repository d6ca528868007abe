use Rattle.std.proofs.Common.{arith, ◌≡◌, ◌+◌, ◌∙◌, sym, ap, Some, None, length, drop}
use Rattle.std.specs.List.{position_from}
use Rattle.es_model.specs.History.{log}
use Rattle.es_model.proofs.HistoryLemmas.{size-drop}
use Rattle.es_recorder.specs.Selections.{is_version}
use Rattle.es_memory.proofs.SelectingLemmas.{place-in, place-past}
use Rattle.es_memory.proofs.selections.place_of_version.Goals as goal

pub returns-in-Some : goal.returns-in-Some
returns-in-Some c =
    let p = is_version c.args.id c.args.version in
    let before = c.loop-recording.before in
    let number : before + c.in-Some.at + 1 ≡ before + 1 + c.in-Some.at = omega arith in
    let found : position_from p 0 c.recording-item.result.events ≡ Some c.in-Some.at = (λ j. position_from p 0 (sym c.as_slice-events.ensures j)) ∙ sym c.first_place.ensures.place ∙ c.in-Some.is in
    ap Some number
    ∙ sym (place-in p c.args.history.now c.loop-recording.recording-index (before + 1) c.in-Some.at c.recording-item.result c.loop-recording-test.true c.recording-item.is found)
    ∙ c.loop-recording.invariant.place

pub loop-recording-preserved : goal.loop-recording-preserved
loop-recording-preserved c =
    let p = is_version c.args.id c.args.version in
    let h = c.args.history.now in
    let i = c.loop-recording.recording-index in
    let before = c.loop-recording.before in
    let events = c.as_slice-events.ensures in
    let same : before + length c.as_slice-events.result.now + 1 ≡ before + 1 + length c.recording-item.result.events = omega (arith, ap length events) in
    let missed : position_from p 0 c.recording-item.result.events ≡ None = (λ j. position_from p 0 (sym events j)) ∙ sym c.first_place.ensures.place ∙ c.in_default.is in
    record {
      counted = omega (arith, size-drop h i c.recording-item.result c.loop-recording-test.true c.recording-item.is, ap length events, c.loop-recording.invariant.counted);
      place = (λ j. position_from p (same j) (log (drop (i + 1) h)))
          ∙ sym (place-past p h i (before + 1) c.recording-item.result c.loop-recording-test.true c.recording-item.is missed)
          ∙ c.loop-recording.invariant.place;
    }
