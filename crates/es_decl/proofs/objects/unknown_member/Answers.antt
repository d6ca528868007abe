use Rattle.es_model.specs.declared.declaration.Code.TheVariants.{Form}
use Rattle.es_decl.specs.Readings.{here}
use Rattle.es_decl.proofs.objects.unknown_member.Goals as goal

pub returns : goal.returns
returns c = c.in_member.ensures (here Form) c.here.ensures
