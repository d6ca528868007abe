use Rattle.std.proofs.Common.{◌∙◌, refl, sym}
use Rattle.es_top.proofs.LoadingLemmas.{document_left, document_loads, document_named}
use Rattle.es_top.proofs.loading.load.Goals as goal

pub returns-in-Ok-read_document-clause-loads : goal.returns-in-Ok-read_document-clause-loads
returns-in-Ok-read_document-clause-loads g c =
    document_loads (g.D.Source.documents c.args.system.now) c.args.name.now c.in-Ok.title c.in-Ok-read_document.bytes c.as_slice.result.now c.declared.result (sym c.eq.ensures ∙ c.if-eq.false) (c.in-Ok.ensures {u = tt}) c.as_slice.ensures
    (c.in-Ok-read_document.ensures {u = tt}).read c.declared.ensures.gives

pub returns-in-Ok-read_document-clause-bound : goal.returns-in-Ok-read_document-clause-bound
returns-in-Ok-read_document-clause-bound g c = document_named _ c.args.name.now c.in-Ok.title _ _ (c.in-Ok.ensures {u = tt}) c.read_document.ensures.bound

pub returns-in-Err-Failed-clause-bound : goal.returns-in-Err-Failed-clause-bound
returns-in-Err-Failed-clause-bound g c = document_named _ c.args.name.now c.in-Ok.title _ _ (c.in-Ok.ensures {u = tt}) c.read_document.ensures.bound

pub returns-then-eq-clause-bound : goal.returns-then-eq-clause-bound
returns-then-eq-clause-bound g c = document_left _ _ _ _ refl

pub returns-in_default-clause-bound : goal.returns-in_default-clause-bound
returns-in_default-clause-bound g c = document_left _ _ _ _ refl
