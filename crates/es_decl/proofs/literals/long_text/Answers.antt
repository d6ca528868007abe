use Rattle.es_model.specs.declared.declaration.Code.TheVariants.{Limit}
use Rattle.es_decl.specs.Readings.{here}
use Rattle.es_decl.proofs.literals.long_text.Goals as goal

pub returns : goal.returns
returns c = c.in_member.ensures (here Limit) c.here.ensures
