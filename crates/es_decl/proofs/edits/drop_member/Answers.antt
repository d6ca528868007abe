use Rattle.es_decl.specs.Edits.{drop_of}
use Rattle.es_decl.proofs.edits.drop_member.Goals as goal

pub returns : goal.returns
returns c = c.in_member.ensures (drop_of c.args.name.now) c.drop_of.ensures
