use Rattle.std.proofs.Common.{◌∙◌, ◌++◌, ap, sym, subst}
use mathlib.Core.List.{IsPrefix}
use Rattle.es_ties.specs.Seen.{of_log}
use Rattle.es_ties.proofs.examples.tell.Goals as goal

pub returns-clause-told : goal.returns-clause-told
returns-clause-told c =
    let log = c.args.second.now.log in
    let note = ap (λ (l : _). of_log l log) c.note-note.ensures.note.1 ∙ c.append.ensures.own in
    subst (λ p. IsPrefix (of_log c.args.second.now.seen log ++ c.args.entry.now) (of_log p.seen log)) (sym c.reader.ensures.same) (subst (λ l. IsPrefix l (of_log c.learn.new.self.seen log)) note (c.learn.ensures.told log))
