use Rattle.es_transcode.proofs.WritingLemmas.{one, both, last}
use Rattle.es_transcode.proofs.encoding.write_tagged.Goals as goal

pub returns : goal.returns
returns c =
    last c.end_object.result (both (both (both (both (one c.in_ok-begin_object.ensures) (one c.in_ok-key.ensures)) (one c.in_ok-string.ensures)) (one c.in_ok-key-2.ensures)) (one c.in_ok-string-2.ensures)) c.end_object.ensures
