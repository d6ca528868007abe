use Rattle.std.proofs.Common.{Err, sym, subst}
use Rattle.serde_json.specs.View.{view}
use Rattle.es_transcode.specs.Decoded.{record_in}
use Rattle.es_transcode.proofs.DecodedLemmas.{record-of-tree}
use Rattle.es_lines.specs.inner.Parts.{Reads}
use Rattle.es_lines.proofs.RequestLemmas.{record-refused}
use Rattle.es_lines.proofs.reading.record_of.Goals as goal

pub returns-in-Ok : goal.returns-in-Ok
returns-in-Ok c = record-of-tree (view c.args.tree.now) c.in-Ok.fields c.in-Ok.ensures

pub returns-in-Err : goal.returns-in-Err
returns-in-Err c =
    subst (λ f. Reads (record_in (view c.args.tree.now)) (Err f)) (sym c.fault_of.ensures)
    (record-refused (view c.args.tree.now) c.decode_tree.result c.in-Err.fault c.decode_tree.ensures c.in-Err.is)
