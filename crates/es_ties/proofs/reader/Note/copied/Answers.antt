use Rattle.std.proofs.Common.{◌∙◌, ap}
use Rattle.es_ties.specs.Views.{seen_of}
use Rattle.es_ties.proofs.SeenLemmas.{copy_seen}
use Rattle.es_ties.proofs.reader.Note.copied.Goals as goal

pub returns-clause-note : goal.returns-clause-note
returns-clause-note g c =
    let seen = ap seen_of c.copy.ensures.copy.1 ∙ copy_seen c.self.inside.seat.me.0 in
    c.of.ensures ∙ ((λ i. record { ties = c.copy.ensures.table i; seen = seen i }) ∙ c.self.view_is)
