use Rattle.std.proofs.Common.{subst}
use Rattle.es_decl.specs.Readings.{Reads}
use Rattle.es_decl.proofs.fault.around.Goals as goal

pub returns-in-Err : goal.returns-in-Err
returns-in-Err g c = λ r t reads tests. c.around_fault.ensures r t (subst (Reads r) c.in-Err.is reads) tests
