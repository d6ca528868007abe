use Rattle.std.proofs.Common.{◌∙◌, List, sym, subst}
use Rattle.es_ties.specs.Seen.{Writer, ArePensOf, IsBehindPens}
use Rattle.es_ties.specs.inner.Gathering.{IsAbovePens}
use Rattle.es_ties.proofs.Gathering.{within_trans, behind_more}
use Rattle.es_ties.proofs.settling.settle.Goals as goal

pub gather_pens-requires-clause-pens : goal.gather_pens-requires-clause-pens
gather_pens-requires-clause-pens g c = subst (ArePensOf c.args.ties) (sym c.first_reader-all.ensures.same) c.requires.pens

pub gather_readers-requires-clause-reader : goal.gather_readers-requires-clause-reader
gather_readers-requires-clause-reader g c = c.gather_pens.ensures.reader ∙ c.first_reader-all.ensures.reader

pub spread-requires-clause-pens : goal.spread-requires-clause-pens
spread-requires-clause-pens g c = subst (ArePensOf c.args.ties) (sym (c.gather_pens.ensures.same ∙ c.first_reader-all.ensures.same)) c.requires.pens

pub spread-requires-clause-reader : goal.spread-requires-clause-reader
spread-requires-clause-reader g c = c.gather_readers.ensures.reader ∙ (c.gather_pens.ensures.reader ∙ c.first_reader-all.ensures.reader)

pub returns-clause-pens : goal.returns-clause-pens
returns-clause-pens g c k p at =
    let all = c.gather_readers.new.all.seen in
    let pens = c.args.pens.items in
    let above : IsAbovePens c.gather_pens.new.all.seen pens = subst (IsAbovePens c.gather_pens.new.all.seen) c.first_reader-all.ensures.same c.gather_pens.ensures.above in
    let own : IsBehindPens all pens = subst (λ (ps : List (Writer _)). IsBehindPens all ps) (c.gather_pens.ensures.same ∙ c.first_reader-all.ensures.same) c.spread.ensures in
    behind_more p.seen all pens (within_trans p.seen c.gather_pens.new.all.seen all (above k p at) c.gather_readers.ensures.kept) own

pub returns-clause-readers : goal.returns-clause-readers
returns-clause-readers g c k r at =
    let all = c.gather_readers.new.all.seen in
    let pens = c.args.pens.items in
    let own : IsBehindPens all pens = subst (λ (ps : List (Writer _)). IsBehindPens all ps) (c.gather_pens.ensures.same ∙ c.first_reader-all.ensures.same) c.spread.ensures in
    behind_more r.seen all pens (c.gather_readers.ensures.above k r at) own
