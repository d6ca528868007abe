use Rattle.std.proofs.Common.{◌∙◌}
use Rattle.es_process.specs.SystemRules.{rules_of}
use Rattle.es_process.proofs.ApplicationLemmas.{not_added, added_whole, added_part}
use Rattle.es_process.proofs.application.Application.save.Goals as goal

pub returns-in-Err-clause-saves : goal.returns-in-Err-clause-saves
returns-in-Err-clause-saves g c = λ h q told kept.
    not_added (rules_of c.args.sys.now) _ _ h q c.args.recording.now c.in-Err.fault _ _ (c.add.ensures.kept ∙ kept) ((c.in-Err.ensures {u = tt}).adds h told)

pub returns-in-Err-put_each_due-clause-saves : goal.returns-in-Err-put_each_due-clause-saves
returns-in-Err-put_each_due-clause-saves g c = λ h q told kept.
    added_part (rules_of c.args.sys.now) _ _ h q c.args.recording.now c.in-Ok.inserted c.in-Err-put_each_due.fault _ _ _ _ c.as_slice.result.now c.as_slice.ensures (c.in-Err-put_each_due.ensures {u = tt}).faults
    ((c.in-Ok.ensures {u = tt}).adds h told) (c.add.ensures.kept ∙ kept) (c.in-Err-put_each_due.ensures {u = tt}).puts

pub returns-in-Ok-put_each_due-clause-saves : goal.returns-in-Ok-put_each_due-clause-saves
returns-in-Ok-put_each_due-clause-saves g c = λ h q told kept.
    added_whole (rules_of c.args.sys.now) _ _ h q c.args.recording.now c.in-Ok.inserted tt _ _ _ _ c.as_slice.result.now c.as_slice.ensures ((c.in-Ok.ensures {u = tt}).adds h told) (c.add.ensures.kept ∙ kept)
    (c.in-Ok-put_each_due.ensures {u = tt}).puts
