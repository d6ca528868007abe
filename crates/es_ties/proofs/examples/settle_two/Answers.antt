use Rattle.std.proofs.Common.{◌∷◌, [], ℕ, refl, sym, subst}
use mathlib.Core.List.{IsPrefix}
use Rattle.es_ties.specs.Seen.{of_log, HaveEachLog}
use Rattle.es_ties.proofs.Order.{get_in, order_none, order_end, have_each_log}
use Rattle.es_ties.proofs.examples.settle_two.Goals as goal

pub settle-requires-clause-all : goal.settle-requires-clause-all
settle-requires-clause-all c =
    let r = c.requires in
    let pens = c.args.first ∷ c.args.second ∷ [] in
    subst (HaveEachLog c.args.ties) (sym (c.in_ok-pens.ensures {u = tt}).items) (have_each_log c.args.ties pens (sym r.count) (order_end (c.args.first ∷ []) c.args.second r.second.1 (order_end [] c.args.first r.first.1 order_none)))

pub returns-clause-first : goal.returns-clause-first
returns-clause-first c =
    let a = c.args in
    let pens = a.first ∷ a.second ∷ [] in
    let items = (c.in_ok-pens.ensures {u = tt}).items in
    subst (λ (log : ℕ). IsPrefix (of_log a.first.seen log) (of_log a.second.seen log)) c.requires.second.1 (c.settle.ensures.pens 0 a.first (get_in _ pens 0 a.first items refl) 1 a.second (get_in _ pens 1 a.second items refl))

pub returns-clause-reader : goal.returns-clause-reader
returns-clause-reader c =
    let a = c.args in
    let pens = a.first ∷ a.second ∷ [] in
    let readers = a.reader ∷ [] in
    subst (λ (log : ℕ). IsPrefix (of_log a.reader.seen log) (of_log a.second.seen log)) c.requires.second.1
    (c.settle.ensures.readers 0 a.reader (get_in _ readers 0 a.reader (c.in_ok-readers.ensures {u = tt}).items refl) 1 a.second (get_in _ pens 1 a.second (c.in_ok-pens.ensures {u = tt}).items refl))
