use Rattle.std.proofs.Common.{sym, subst}
use Rattle.es_decl.specs.Readings.{Reads}
use Rattle.es_decl.specs.Edits.{edit_by}
use Rattle.es_decl.proofs.PartLemmas.{sole-none}
use Rattle.es_decl.proofs.edits.EditObjectPart.read.Goals as goal

pub returns-in-None : goal.returns-in-None
returns-in-None c = subst (λ r. Reads r c.here.result) (sym (sole-none edit_by c.args.tree.now c.in-Object.members c.in-Object.is c.in-None.ensures)) c.here.ensures
