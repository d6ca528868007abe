use Rattle.serde_json.specs.View.{view}
use Rattle.es_decl.specs.Edits.{constant}
use Rattle.es_decl.proofs.edits.constant_item.Goals as goal

pub returns : goal.returns
returns c = c.in_item.ensures (constant (view c.args.tree.now)) c.constant.ensures
