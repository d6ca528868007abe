use Rattle.serde_json.specs.View.{view}
use Rattle.es_decl.specs.Edits.{add_of}
use Rattle.es_decl.proofs.edits.add_member.Goals as goal

pub returns : goal.returns
returns c = c.in_member.ensures (add_of c.args.name.now (view c.args.tree.now)) c.add.ensures
