use Rattle.std.proofs.Common.{◌∙◌}
use Rattle.es_transcode.proofs.WritingLemmas.{one, both}
use Rattle.es_lines.proofs.ObjectLemmas.{text}
use Rattle.es_lines.proofs.SectionLemmas.{state}
use Rattle.es_lines.proofs.sections.write_entry.Goals as goal

pub returns : goal.returns
returns c =
    both (both (both (both (both (both (one c.in_ok-begin_object.ensures) c.in_ok-put_number.ensures) (text (c.as_str.ensures ∙ c.in_ok-id.ensures.0) c.in_ok-put_text.ensures)) c.in_ok-put_number-2.ensures) (state c.as_slice.ensures c.in_ok-put_state.ensures)) (text c.as_str-2.ensures c.in_ok-put_text-2.ensures)) (one c.in_ok-end_object.ensures)
