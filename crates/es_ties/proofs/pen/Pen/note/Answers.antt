use Rattle.std.proofs.Common.{◌∙◌, ap}
use Rattle.es_ties.specs.Views.{seen_of}
use Rattle.es_ties.proofs.SeenLemmas.{copy_seen}
use Rattle.es_ties.proofs.pen.Pen.note.Goals as goal

pub returns-clause-note : goal.returns-clause-note
returns-clause-note g c = (
  ap (λ n. n.ties) c.of.ensures ∙ (c.copy.ensures.table ∙ ap (λ p. p.ties) c.self.view_is),
  ap (λ n. n.seen) c.of.ensures ∙ (ap seen_of c.copy.ensures.copy.1 ∙ (copy_seen c.self.inside.seat.me.0 ∙ ap (λ p. p.seen) c.self.view_is)),
)
