use Rattle.es_io.proofs.KnownLemmas.{read_gives}
use Rattle.es_io.proofs.memory.MemorySourceSource.read.Goals as goal

pub returns-clause-bytes : goal.returns-clause-bytes
returns-clause-bytes c = read_gives _ _ _ _ _ _ c.as_slice-bytes.ensures c.copy_front-count.ensures.count c.copy_front-count.ensures.bytes
