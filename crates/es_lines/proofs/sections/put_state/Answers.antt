use Rattle.std.proofs.Common.{◌∙◌}
use Rattle.es_lines.proofs.SectionLemmas.{state-as-it-is, state-in-digits}
use Rattle.es_lines.proofs.sections.put_state.Goals as goal

pub returns-in_ok-put_text-in-Ok : goal.returns-in_ok-put_text-in-Ok
returns-in_ok-put_text-in-Ok c = state-as-it-is c.args.bytes.now c.in-Ok.text.now c.in-Ok.ensures.cases.0 c.in-Ok.ensures.cases.1 c.in_ok-put_text-in-Ok.ensures

pub returns-in_ok-put_text-in-Err : goal.returns-in_ok-put_text-in-Err
returns-in_ok-put_text-in-Err c = state-in-digits c.args.bytes.now c.as_str.result.now (c.as_str.ensures.value ∙ c.in_ok-digits-in-Err.ensures) c.in-Err.ensures.cases.0 c.in_ok-put_text-in-Err.ensures
