use Rattle.std.proofs.Common.{rules, ◌≡◌, ◌∷◌, [], ◌++◌, ℕ, List, Err, Some, slice_get, subst, sym, ap, ◌∙◌}
use Rattle.std.specs.List.{position_or_len}
use Rattle.std.specs.Str.{bytes_eq}
use Rattle.es_process.specs.declared.faults.RunFault.TheVariants as fault
use Rattle.es_process.specs.Standing.{Holds, HoldContents, Faulted, names_in}
use Rattle.es_process.specs.SystemRules.{rules_of}
use Rattle.es_process.specs.Terms.{terms}
use Rattle.es_process.proofs.HoldsLemmas.{held-contents}
use Rattle.es_model.specs.Lines.{text}
use Rattle.es_single.specs.Answers.{at_line}
use Rattle.es_single.proofs.AnswerLemmas.{starved_answer}
use Rattle.es_single.proofs.CommandLemmas.{app-declared, place-there}
use Rattle.es_single.proofs.RunnerLemmas.{none-prompted, replied_back, written_back}
use Rattle.es_single.proofs.runner.SingleRunner.answer.Goals as goal

pub returns-in_err-push_place-clause-answered : goal.returns-in_err-push_place-clause-answered
returns-in_err-push_place-clause-answered g c = λ after may. (
  after,
  may,
  λ base options s line u asked held.
      let starved : c.from_residual.result ≡ Err fault.NoMemory = search rules in
      starved_answer (terms (rules_of c.args.self.now.sys) options) s line c.args.request.now _ _ u c.from_residual.result starved (held-contents _ _ _ g.met.R.AggregateRecorder.settled_is_whole _ _ base options _ _ s held.holds),
)

pub answer_at-requires-clause-asked : goal.answer_at-requires-clause-asked
answer_at-requires-clause-asked g c =
    let there = place-there c.args.self.now.sys c.args.self.now.apps.items c.args.app.now c.place_of-place.result c.requires.ready.apps (app-declared c.args.self.now.sys c.args.request.now c.args.app.now c.requires.about c.requires.asked)
    (c.place_of-place.ensures ∙ ap (λ (xs : _). position_or_len (λ a. bytes_eq a.name c.args.app.now) xs) c.as_slice.ensures.value) in record {
      app = c.args.app.now;
      about = c.requires.about;
      there = ap (λ (xs : _). slice_get (names_in xs) c.place_of-place.result) c.as_mut_slice-apps.ensures.value ∙ there;
      asked = c.requires.asked;
    }

pub returns-in-Err-clause-answered : goal.returns-in-Err-clause-answered
returns-in-Err-clause-answered g c = λ after may.
    let x = (c.in-Err.ensures {u = tt}).answered after may in
    let written = written_back c.args.self.now.apps.len c.answer_at.new.apps c.as_mut_slice-apps.result.now c.args.self.now.apps.items c.answer_at.auto.apps c.as_mut_slice-apps.ensures.value c.args.self.now.apps.ok.0 in (
      x.0,
      x.1,
      λ base options s line u asked held.
          subst (λ (xs : _). Faulted (terms (rules_of c.args.self.now.sys) options) (at_line s (text line)) c.in-Err.fault (HoldContents g.R.AggregateRecorder.history g.R.AggregateRecorder.stable g.R.AggregateRecorder.snapshots base xs) u u) (sym written)
          (x.2 base options s line u asked
          (subst (λ (xs : _). Holds g.R.AggregateRecorder.history g.R.AggregateRecorder.settled g.R.AggregateRecorder.snapshots g.R.AggregateRecorder.capacity base options xs (Some x.0) s) (sym c.as_mut_slice-apps.ensures.value) held.holds)),
    )

pub returns-clause-answered : goal.returns-clause-answered
returns-clause-answered g c = λ after may.
    let x = (c.in-Ok.ensures {u = tt}).answered after may in
    let written = written_back c.args.self.now.apps.len c.answer_at.new.apps c.as_mut_slice-apps.result.now c.args.self.now.apps.items c.answer_at.auto.apps c.as_mut_slice-apps.ensures.value c.args.self.now.apps.ok.0 in (
      x.0,
      x.1,
      λ base options s line u asked held.
          let queue : c.push_place.new.queue.items ≡ c.place_of-place.result ∷ [] =
          c.in_ok-push_place.ensures {u = tt} ∙ ap (λ (places : List ℕ). places ++ c.place_of-place.result ∷ []) (none-prompted _ c.args.self.now.prompted.items held.prompts) in
          replied_back g.R.AggregateRecorder.history g.R.AggregateRecorder.stable g.R.AggregateRecorder.settled g.R.AggregateRecorder.snapshots g.R.AggregateRecorder.capacity base options (terms (rules_of c.args.self.now.sys) options) s _ c.answer_at.new.apps (Some after) written
          c.args.request.now c.in-Ok.reply (names_in c.as_mut_slice-apps.result.now) c.place_of-place.result c.answer_at.ensures.same.names (c.keep_accepted.ensures c.place_of-place.result queue)
          (x.2 base options s line u asked
          (subst (λ (xs : _). Holds g.R.AggregateRecorder.history g.R.AggregateRecorder.settled g.R.AggregateRecorder.snapshots g.R.AggregateRecorder.capacity base options xs (Some x.0) s) (sym c.as_mut_slice-apps.ensures.value) held.holds)),
    )
