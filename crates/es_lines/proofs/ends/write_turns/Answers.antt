use Rattle.es_transcode.proofs.WritingLemmas.{one, both, last}
use Rattle.es_lines.proofs.ObjectLemmas.{text}
use Rattle.es_lines.proofs.ends.write_turns.Goals as goal

pub returns : goal.returns
returns c = last c.end_object.result (both (both (both (one c.in_ok-begin_object.ensures) (text c.as_str.ensures c.in_ok-put_text.ensures)) c.in_ok-put_text-2.ensures) c.in_ok-put_number.ensures) c.end_object.ensures
