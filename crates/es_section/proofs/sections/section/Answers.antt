use Rattle.std.proofs.Common.{rules}
use Rattle.es_section.proofs.AskedLemmas.{asked-told}
use Rattle.es_section.proofs.sections.section.Goals as goal

pub returns-in-Ok-clause-section : goal.returns-in-Ok-clause-section
returns-in-Ok-clause-section g c =
    asked-told (g.R.AggregateRecorder.history c.args.recorder.now) c.args.request.now c.in-Some.first c.in-Some.last c.args.size c.max-start.result c.min-limit.result c.in-Ok.items c.section_with.result
    (search rules) (search rules) (search rules) c.in-Ok.ensures.value c.section_with.ensures
