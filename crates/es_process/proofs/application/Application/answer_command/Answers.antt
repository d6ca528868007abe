use Rattle.std.proofs.Common.{◌≡◌, ◌∙◌, Some, IfSome, false, not, sym, ap, subst}
use Rattle.es_model.specs.History.{log, latest}
use Rattle.es_io.specs.Readings.{first_reading, later_readings, Reads, GoesOn}
use Rattle.es_lines.proofs.RequestLemmas.{declared}
use Rattle.es_process.specs.Answer.{differs}
use Rattle.es_process.specs.SingleThread.{readings_after}
use Rattle.es_process.proofs.TracedLemmas.{reading_taken}
use Rattle.es_process.proofs.ApplicationLemmas.{command_leaves, failed_leaves, ok_always}
use Rattle.es_process.proofs.application.Application.answer_command.Goals as goal

pub decide-requires-clause-declared : goal.decide-requires-clause-declared
decide-requires-clause-declared g c = declared c.args.sys.now _ _ _ c.requires.asked

pub returns-clause-leaves : goal.returns-clause-leaves
returns-clause-leaves g c = λ after may.
    let x = reading_taken _ _ c.now-at.result c.now-at.ensures.reading c.now-at.ensures.rest after may in (
      x.0,
      x.1,
      λ logs h q r told kept reading.
          let reads : c.now-at.result ≡ first_reading r = subst (λ o. Reads o c.now-at.result) reading x.2.0 in
          let rest : Some after ≡ Some (later_readings r) = subst (λ o. GoesOn o (Some after)) reading x.2.1 in
          let version = subst (λ o. IfSome o (λ k. c.in_ok-version.version ≡ latest (log k) c.args.command.now.id)) told (c.in_ok-version.ensures {u = tt}).value in
          let same : differs h c.args.command.now.id c.args.command.now.expect ≡ false = sym (c.expects_other.ensures h c.args.command.now.id version) ∙ c.if-expects_other.false in (
            command_leaves c.args.sys.now _ _ _ h q logs c.args.command.now c.now-at.result _ c.decide.result _ _ c.latest_version.ensures.same.capacity reads same c.requires.asked
                (c.decide.ensures.leaves h q (c.latest_version.ensures.same.history ∙ told) (c.latest_version.ensures.same.snapshots ∙ kept) version),
            ok_always c.decide.result (rest ∙ ap (λ b. Some (readings_after (not b) r)) (sym same)),
          ),
    )

pub returns-in_err-version-clause-leaves : goal.returns-in_err-version-clause-leaves
returns-in_err-version-clause-leaves g c = λ after may. (
  after,
  may,
  λ logs h q r told kept reading. failed_leaves _ h q _ _ c.from_residual.result _ _ c.from_residual.ensures.1 (c.latest_version.ensures.same.history ∙ told) (c.latest_version.ensures.same.snapshots ∙ kept),
)
