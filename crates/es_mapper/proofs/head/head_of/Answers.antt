use Rattle.es_mapper.proofs.head.head_of.Goals as goal

pub returns-in_default-clause-none : goal.returns-in_default-clause-none
returns-in_default-clause-none c = λ n m h. c.in_default.ensures.none n h.version_is
