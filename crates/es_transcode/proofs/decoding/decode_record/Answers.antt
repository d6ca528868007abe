use Rattle.std.proofs.Common.{◌∙◌, sym, ap, option_map}
use Rattle.serde_json.specs.View.{view}
use Rattle.es_transcode.proofs.DecodedLemmas.{found-tree, no-tree}
use Rattle.es_transcode.proofs.DecodingLemmas.{of-tree}
use Rattle.es_transcode.proofs.FaultLemmas.{no-record}
use Rattle.es_transcode.proofs.OnlyLemmas.{one-answer}
use Rattle.es_transcode.proofs.decoding.decode_record.Goals as goal

pub returns-in-Some-clause-decoded : goal.returns-in-Some-clause-decoded
returns-in-Some-clause-decoded c =
    of-tree c.args.bytes.now (view c.in-Some.tree) (found-tree c.args.bytes.now (view c.in-Some.tree) (sym c.in_ok-tree.ensures ∙ ap (option_map view) c.in-Some.is)) c.decode_tree.result c.decode_tree.ensures

pub returns-in-Some-clause-one : goal.returns-in-Some-clause-one
returns-in-Some-clause-one c = one-answer c.args.bytes.now c.decode_tree.result (returns-in-Some-clause-decoded c)

pub returns-in-Some-clause-none : goal.returns-in-Some-clause-none
returns-in-Some-clause-none c = no-record c.args.bytes.now c.decode_tree.result (returns-in-Some-clause-decoded c)

pub returns-in-None-clause-decoded : goal.returns-in-None-clause-decoded
returns-in-None-clause-decoded c = no-tree c.args.bytes.now (sym c.in_ok-tree.ensures ∙ ap (option_map view) c.in-None.is)

pub returns-in-None-clause-none : goal.returns-in-None-clause-none
returns-in-None-clause-none c = λ real r (d, tree, is). returns-in-None-clause-decoded c d tree
