use Rattle.std.proofs.Common.{◌≡◌, ◌≢◌, ◌<◌, ◌++◌, ◌∙◌, ℕ, ap, sym, subst}
use Rattle.es_ties.specs.declared.view.Page.{Page}
use Rattle.es_ties.specs.Views.{seen_of, is_some}
use Rattle.es_ties.specs.Seen.{Writer, of_log, IsWithin}
use Rattle.es_ties.proofs.Growing.{grown_owns, grown_else, grown_kept}
use Rattle.es_ties.proofs.SeenLemmas.{grown_log, grown_other, within_of}
use Rattle.es_ties.proofs.pen.Pen.append.Goals as goal

pub grow-requires-clause-table : goal.grow-requires-clause-table
grow-requires-clause-table g c =
    let logs = c.logs.ensures in
    (ap (λ p. p.ties) c.self.view_is ∙ (c.requires ∙ sym logs.0), logs.1 ∙ ap (λ z. z.words) (sym logs.0))

pub grow-requires-clause-seat : goal.grow-requires-clause-seat
grow-requires-clause-seat g c = let p = c.self.invariant in (p.live, p.owns, p.within)

pub invariant_of-self : goal.invariant_of-self
invariant_of-self g c =
    let p = c.self.invariant in
    let grown = c.grow.ensures in
    record {
      live = grown.live;
      owns = grown_owns _ _ _ _ grown.grown p.owns;
      only = λ j ne. ap (λ (q : Page _). is_some q.number) (grown_else _ _ j _ _ grown.grown ne) ∙ p.only j ne;
      within = subst (λ (k : ℕ). c.self.inside.log < k) (sym (ap (λ z. z.words) grown.table)) p.within;
    }

pub returns-clause-own : goal.returns-clause-own
returns-clause-own g c =
    subst (λ (p : Writer _). of_log (seen_of c.grow.new.seat.me.0) p.log ≡ of_log p.seen p.log ++ g.E.Logged.items c.args.entry.now) c.self.view_is (grown_log _ _ _ _ c.grow.ensures.grown c.self.invariant.owns)

pub returns-clause-others : goal.returns-clause-others
returns-clause-others g c =
    subst (λ (p : Writer _). (j : ℕ) → j ≢ p.log → of_log (seen_of c.grow.new.seat.me.0) j ≡ of_log p.seen j) c.self.view_is (λ j ne. grown_other _ _ j _ _ c.grow.ensures.grown ne)

pub returns-clause-kept : goal.returns-clause-kept
returns-clause-kept g c =
    subst (λ (p : Writer _). IsWithin p.seen (seen_of c.grow.new.seat.me.0)) c.self.view_is (within_of c.self.inside.seat.me.0 c.grow.new.seat.me.0 (λ j. grown_kept _ _ j _ _ c.grow.ensures.grown c.self.invariant.owns))
