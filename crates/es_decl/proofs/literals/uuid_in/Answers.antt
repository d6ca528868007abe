use Rattle.es_decl.specs.Expressions.{id_in}
use Rattle.es_decl.proofs.literals.uuid_in.Goals as goal

pub returns : goal.returns
unfolding id_in
returns c = c.id_of.ensures
