use Rattle.std.proofs.Common.{◌∷◌, [], ℕ, refl, sym, subst}
use mathlib.Core.List.{IsPrefix}
use Rattle.es_ties.specs.Seen.{of_log, HaveEachLog}
use Rattle.es_ties.proofs.Order.{get_in, order_none, order_end, have_each_log}
use Rattle.es_ties.proofs.examples.settle_three.Goals as goal

pub settle-requires-clause-all : goal.settle-requires-clause-all
settle-requires-clause-all c =
    let a = c.args in
    let r = c.requires in
    let pens = a.first ∷ a.second ∷ a.third ∷ [] in
    subst (HaveEachLog a.ties) (sym (c.in_ok-pens.ensures {u = tt}).items)
    (have_each_log a.ties pens (sym r.count) (order_end (a.first ∷ a.second ∷ []) a.third r.third.1 (order_end (a.first ∷ []) a.second r.second.1 (order_end [] a.first r.first.1 order_none))))

pub returns-clause-first : goal.returns-clause-first
returns-clause-first c =
    let a = c.args in
    let pens = a.first ∷ a.second ∷ a.third ∷ [] in
    let items = (c.in_ok-pens.ensures {u = tt}).items in
    subst (λ (log : ℕ). IsPrefix (of_log a.first.seen log) (of_log a.third.seen log)) c.requires.third.1 (c.settle.ensures.pens 0 a.first (get_in _ pens 0 a.first items refl) 2 a.third (get_in _ pens 2 a.third items refl))

pub returns-clause-third : goal.returns-clause-third
returns-clause-third c =
    let a = c.args in
    let pens = a.first ∷ a.second ∷ a.third ∷ [] in
    let items = (c.in_ok-pens.ensures {u = tt}).items in
    subst (λ (log : ℕ). IsPrefix (of_log a.third.seen log) (of_log a.first.seen log)) c.requires.first.1 (c.settle.ensures.pens 2 a.third (get_in _ pens 2 a.third items refl) 0 a.first (get_in _ pens 0 a.first items refl))
