use Rattle.std.proofs.Common.{◌∙◌, Ok, Err, sym, ap}
use Rattle.es_model.specs.declared.event.Recording.{Recording}
use Rattle.es_model.specs.History.{latest}
use Rattle.es_lines.specs.declared.replies.Reply.TheVariants.{Accepted}
use Rattle.es_process.specs.SystemRules.{rules_of}
use Rattle.es_process.proofs.ApplicationLemmas.{accept_as, not_accepted, accepted_whole, accepted_part}
use Rattle.es_process.proofs.application.Application.accept.Goals as goal

pub returns-in-Err-clause-leaves : goal.returns-in-Err-clause-leaves
returns-in-Err-clause-leaves g c = λ h q told kept version.
    accept_as (rules_of c.args.sys.now) _ _ h q c.in_ok-recording.recording _ c.args.command.now.id (Err c.in-Err.fault) _ _ (c.in_ok-recording.ensures {u = tt})
    (not_accepted (rules_of c.args.sys.now) _ _ h q c.in_ok-recording.recording c.args.command.now.id c.in-Err.fault _ _ (c.add.ensures.kept ∙ kept) ((c.in-Err.ensures {u = tt}).adds h told))

pub returns-in-Ok-put_each_due-clause-leaves : goal.returns-in-Ok-put_each_due-clause-leaves
returns-in-Ok-put_each_due-clause-leaves g c = λ h q told kept version.
    let count = c.count_own.ensures.count ∙ ap (λ es. latest es c.args.command.now.id) c.as_slice.ensures ∙ ap (λ (r : Recording). latest r.events c.args.command.now.id) (sym (c.in_ok-recording.ensures {u = tt})) in
    accept_as (rules_of c.args.sys.now) _ _ h q c.in_ok-recording.recording _ c.args.command.now.id (Ok (Accepted c.in-Ok.inserted.recording c.in-Ok.inserted.first c.in-Ok.inserted.last _)) _ _ (c.in_ok-recording.ensures {u = tt})
    (accepted_whole (rules_of c.args.sys.now) _ _ h q c.in_ok-recording.recording c.args.command.now.id c.args.version c.count_own.result c.in-Ok.inserted tt _ _ _ _ c.as_slice-2.result.now c.as_slice-2.ensures version count
    ((c.in-Ok.ensures {u = tt}).adds h told) (c.add.ensures.kept ∙ kept) (c.in-Ok-put_each_due.ensures {u = tt}).puts)

pub returns-clause-leaves : goal.returns-clause-leaves
returns-clause-leaves g c = λ h q told kept version.
    accept_as (rules_of c.args.sys.now) _ _ h q c.in_ok-recording.recording _ c.args.command.now.id (Err c.in-Err-put_each_due.fault) _ _ (c.in_ok-recording.ensures {u = tt})
    (accepted_part (rules_of c.args.sys.now) _ _ h q c.in_ok-recording.recording c.args.command.now.id c.in-Ok.inserted c.in-Err-put_each_due.fault _ _ _ _ c.as_slice-2.result.now c.as_slice-2.ensures (c.in-Err-put_each_due.ensures {u = tt}).faults
    ((c.in-Ok.ensures {u = tt}).adds h told) (c.add.ensures.kept ∙ kept) (c.in-Err-put_each_due.ensures {u = tt}).puts)
