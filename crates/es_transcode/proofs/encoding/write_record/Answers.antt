use Rattle.es_transcode.proofs.RecordLemmas.{record-back}
use Rattle.es_transcode.proofs.encoding.write_record.Goals as goal

pub returns-clause-reads_back : goal.returns-clause-reads_back
returns-clause-reads_back c = record-back c.write_members.result c.args.fields.now c.as_slice.result.now c.as_slice.ensures.value c.as_slice.ensures.rising c.write_members.ensures.trees
