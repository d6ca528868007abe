use Rattle.std.proofs.Common.{sym, subst}
use Rattle.es_decl.specs.Readings.{Reads, and_then}
use Rattle.es_decl.specs.Edits.{value_of}
use Rattle.es_decl.specs.Expressions.{literal}
use Rattle.es_decl.proofs.PartLemmas.{sole-none}
use Rattle.es_decl.proofs.edits.constant.Goals as goal

pub returns-in-None : goal.returns-in-None
returns-in-None c = subst (λ r. Reads r c.here.result) (sym (sole-none (λ w body. and_then (literal w body) value_of) c.args.tree.now c.in-Object.members c.in-Object.is c.in-None.ensures)) c.here.ensures
