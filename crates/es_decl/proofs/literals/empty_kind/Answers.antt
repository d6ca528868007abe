use Rattle.serde_json.specs.View.{view}
use Rattle.es_decl.specs.Kinds.{atom_kind}
use Rattle.es_decl.proofs.literals.empty_kind.Goals as goal

pub returns : goal.returns
returns c = c.in_member.ensures (atom_kind (view c.args.body.now)) c.atom_kind.ensures
