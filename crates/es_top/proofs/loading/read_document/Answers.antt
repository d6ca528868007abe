use Rattle.es_top.proofs.LoadingLemmas.{document_left, document_taken, result_read}
use Rattle.es_top.proofs.loading.read_document.Goals as goal

pub returns-in-Ok-clause-read : goal.returns-in-Ok-clause-read
returns-in-Ok-clause-read g c = result_read _ _ (g.D.Source.left c.begin.new.self) _ _ _ (c.in-Ok.ensures {u = tt}).begins c.read_rest.ensures.reads

pub returns-in-Ok-clause-bound : goal.returns-in-Ok-clause-bound
returns-in-Ok-clause-bound g c = document_taken _ _ _ (g.D.Source.left c.begin.new.self) _ _ (c.in-Ok.ensures {u = tt}).begins c.read_rest.ensures.bound

pub returns-in-Err-clause-bound : goal.returns-in-Err-clause-bound
returns-in-Err-clause-bound g c = document_left _ _ _ _ (c.in-Err.ensures {u = tt}).refused
