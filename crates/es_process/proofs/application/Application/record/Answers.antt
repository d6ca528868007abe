use Rattle.std.proofs.Common.{◌∙◌}
use Rattle.es_process.specs.SystemRules.{rules_of}
use Rattle.es_process.proofs.ApplicationLemmas.{records_saved}
use Rattle.es_process.proofs.application.Application.record.Goals as goal

pub returns-clause-records : goal.returns-clause-records
returns-clause-records g c = λ h q told kept.
    records_saved (rules_of c.args.sys.now) _ _ _ _ h q _ _ c.args.id c.args.at c.in-Ok.events _ c.save.result _ _ c.follow.ensures.same.stays.room c.follow.ensures.same.stays.name (c.in_ok-copy.ensures {u = tt})
    ((c.in-Ok.ensures {u = tt}).decides h told) (c.save.ensures.saves h q (c.follow.ensures.same.told ∙ told) (c.follow.ensures.same.kept ∙ kept))
