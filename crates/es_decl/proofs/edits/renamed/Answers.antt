use Rattle.std.proofs.Common.{sym, subst}
use Rattle.es_decl.specs.Readings.{Reads}
use Rattle.es_decl.specs.Edits.{renamed_pair}
use Rattle.es_decl.proofs.PartLemmas.{two-none}
use Rattle.es_decl.proofs.edits.renamed.Goals as goal

pub returns-in-None : goal.returns-in-None
returns-in-None c = subst (λ r. Reads r c.here.result) (sym (two-none renamed_pair c.args.body.now c.in-Array.items c.as_slice.result.now c.in-Array.is c.as_slice.ensures.value c.in-None.ensures)) c.here.ensures
