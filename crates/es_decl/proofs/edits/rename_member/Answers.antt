use Rattle.es_decl.specs.Edits.{rename_of}
use Rattle.es_decl.proofs.edits.rename_member.Goals as goal

pub returns : goal.returns
returns c = c.in_member.ensures (rename_of c.args.from.now c.args.to.now) c.rename.ensures
