use Rattle.es_decl.proofs.CheckedLemmas.{declared-checked}
use Rattle.es_decl.proofs.document.read_system.Goals as goal

pub returns-clause-checked : goal.returns-clause-checked
returns-clause-checked c = declared-checked c.args.bytes.now c.declared.result c.declared.ensures
