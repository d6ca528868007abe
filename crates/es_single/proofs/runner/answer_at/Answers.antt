use Rattle.std.proofs.Common.{rules, ◌≡◌, ◌<◌, ◌∙◌, Err, Some, length, get_or, sym, ap}
use Rattle.es_process.specs.declared.faults.RunFault.TheVariants as fault
use Rattle.es_process.specs.Decision.{logs_of}
use Rattle.es_process.specs.Standing.{names_in}
use Rattle.es_process.proofs.HoldsLemmas.{all-set, rose-set}
use Rattle.es_single.proofs.CommandLemmas.{found-at, found-name, found-below, request_replied, request_failed, may-ask}
use Rattle.es_single.proofs.RunnerLemmas.{prompted-placed}
use Rattle.es_single.proofs.runner.answer_at.Goals as goal

pub offset_bounds-apps-place : goal.offset_bounds-apps-place
offset_bounds-apps-place g c =
    let within : c.args.place < length c.args.apps.now = found-below c.args.apps.now c.args.place c.requires.asked.app c.requires.asked.there in
    search rules

pub bounds-apps-place : goal.bounds-apps-place
bounds-apps-place g c = found-below c.args.apps.now c.args.place c.requires.asked.app c.requires.asked.there

pub answer-requires-clause-asked : goal.answer-requires-clause-asked
answer-requires-clause-asked g c =
    let asked = c.requires.asked in
    may-ask c.args.sys.now c.args.request.now asked.app (get_or c.args.apps.now c.args.place c.index-apps-place.result).name asked.about asked.asked (found-name c.args.apps.now c.args.place c.index-apps-place.result asked.app asked.there)

pub returns-in-Ok-clause-answered : goal.returns-in-Ok-clause-answered
returns-in-Ok-clause-answered g c = λ after may.
    let x = (c.in-Ok.ensures {u = tt}).leaves after may in (
      x.0,
      x.1,
      λ base options s line u asks held.
          let asked = c.requires.asked in
          let named = found-name c.args.apps.now c.args.place c.index-apps-place.result asked.app asked.there in
          request_replied g.R.AggregateRecorder.history g.R.AggregateRecorder.stable g.R.AggregateRecorder.settled g.met.R.AggregateRecorder.settled_is_whole g.R.AggregateRecorder.snapshots g.R.AggregateRecorder.capacity c.args.apps.now c.requires.apps.distinct c.args.place (get_or c.args.apps.now c.args.place c.index-apps-place.result) c.answer.new.self (found-at c.args.apps.now c.args.place c.index-apps-place.result asked.app asked.there) c.answer.ensures.same.name
          c.args.sys.now base options _ s held line u c.args.request.now (Some after) c.in-Ok.reply _ (asked.about ∙ ap Some (sym named)) c.answer.ensures.same.turns c.answer.ensures.same_used c.answer.ensures.same.room (c.in-Ok.ensures {u = tt}).settles.whole
          (λ h q r told kept clock. (x.2 (logs_of s.contents.histories) h q r told kept clock).0) (λ h q r told kept clock. (x.2 (logs_of s.contents.histories) h q r told kept clock).1)
          (λ next holds. record { held = holds; prompts = prompted-placed (names_in c.args.apps.now) c.args.place _ c.in-Ok.reply (asked.there ∙ ap Some (sym named)) }),
    )

pub returns-in-Ok-clause-same : goal.returns-in-Ok-clause-same
returns-in-Ok-clause-same g c =
    let asked = c.requires.asked in
    all-set c.args.apps.now c.requires.apps.distinct c.args.place (get_or c.args.apps.now c.args.place c.index-apps-place.result) c.answer.new.self (found-at c.args.apps.now c.args.place c.index-apps-place.result asked.app asked.there) c.answer.ensures.same

pub returns-in-Err-clause-answered : goal.returns-in-Err-clause-answered
returns-in-Err-clause-answered g c = λ after may.
    let x = (c.in-Err.ensures {u = tt}).leaves after may in (
      x.0,
      x.1,
      λ base options s line u asks held.
          let asked = c.requires.asked in
          let named = found-name c.args.apps.now c.args.place c.index-apps-place.result asked.app asked.there in
          request_failed g.R.AggregateRecorder.history g.R.AggregateRecorder.stable g.R.AggregateRecorder.settled g.met.R.AggregateRecorder.settled_is_whole g.R.AggregateRecorder.snapshots g.R.AggregateRecorder.capacity c.args.apps.now c.requires.apps.distinct c.args.place (get_or c.args.apps.now c.args.place c.index-apps-place.result) c.answer.new.self (found-at c.args.apps.now c.args.place c.index-apps-place.result asked.app asked.there) c.answer.ensures.same.name
          c.args.sys.now base options _ s held line u c.args.request.now c.in-Err.fault (λ next prompted. Unit {0}) asks (asked.about ∙ ap Some (sym named)) (λ h q r told kept clock. (x.2 (logs_of s.contents.histories) h q r told kept clock).0)
          c.answer.ensures.settles.grows,
    )

pub returns-in-Err-clause-same : goal.returns-in-Err-clause-same
returns-in-Err-clause-same g c =
    let asked = c.requires.asked in
    all-set c.args.apps.now c.requires.apps.distinct c.args.place (get_or c.args.apps.now c.args.place c.index-apps-place.result) c.answer.new.self (found-at c.args.apps.now c.args.place c.index-apps-place.result asked.app asked.there) c.answer.ensures.same

pub returns-in-Err-clause-failed : goal.returns-in-Err-clause-failed
returns-in-Err-clause-failed g c = λ is.
    let asked = c.requires.asked in
    let e : c.in-Err.fault ≡ fault.Recorder = cc is in
    rose-set g.R.AggregateRecorder.faults c.args.apps.now c.args.place (get_or c.args.apps.now c.args.place c.index-apps-place.result) c.answer.new.self (found-at c.args.apps.now c.args.place c.index-apps-place.result asked.app asked.there) ((c.in-Err.ensures {u = tt}).failed (ap Err e))
