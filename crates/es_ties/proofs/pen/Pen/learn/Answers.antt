use Rattle.std.proofs.Common.{◌≡◌, ◌<◌, ◌∙◌, ℕ, ap, sym, subst}
use Rattle.es_ties.specs.Views.{seen_of}
use Rattle.es_ties.specs.Seen.{Writer, Witness, of_log, IsWithin}
use Rattle.es_ties.proofs.Sharing.{both_owns}
use Rattle.es_ties.proofs.SeenLemmas.{joined_own, within_of}
use Rattle.es_ties.proofs.pen.Pen.learn.Goals as goal

pub invariant_of-self : goal.invariant_of-self
invariant_of-self g c =
    let p = c.self.invariant in
    let h = c.absorb.ensures in
    let owns = λ (j : ℕ). both_owns c.self.inside.seat.me.0 c.into_seat.result.me.0 c.absorb.new.seat.me.0 j h.joined.pages (c.into_seat.ensures.seat.none j) in
    record {
      live = h.live;
      owns = owns c.self.inside.log ∙ p.owns;
      only = λ j ne. owns j ∙ p.only j ne;
      within = subst (λ (k : ℕ). c.self.inside.log < k) (sym (ap (λ z. z.words) h.table)) p.within;
    }

pub returns-clause-own : goal.returns-clause-own
returns-clause-own g c =
    subst (λ (p : Writer _). of_log (seen_of c.absorb.new.seat.me.0) p.log ≡ of_log p.seen p.log) c.self.view_is (joined_own _ _ _ _ c.absorb.ensures.joined c.self.invariant.owns)

pub returns-clause-kept : goal.returns-clause-kept
returns-clause-kept g c =
    subst (λ (p : Writer _). IsWithin p.seen (seen_of c.absorb.new.seat.me.0)) c.self.view_is (within_of c.self.inside.seat.me.0 c.absorb.new.seat.me.0 c.absorb.ensures.joined.one)

pub returns-clause-told : goal.returns-clause-told
returns-clause-told g c =
    subst (λ (n : Witness _). IsWithin n.seen (seen_of c.absorb.new.seat.me.0)) (sym c.into_seat.ensures.value) (within_of c.into_seat.result.me.0 c.absorb.new.seat.me.0 c.absorb.ensures.joined.other)
