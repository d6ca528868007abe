use Rattle.std.proofs.Common.{◌∙◌, sym, subst}
use Rattle.es_ties.specs.Views.{seen_of}
use Rattle.es_ties.specs.Seen.{Witness, IsWithin}
use Rattle.es_ties.proofs.Sharing.{both_owns}
use Rattle.es_ties.proofs.SeenLemmas.{within_of}
use Rattle.es_ties.proofs.reader.Note.take_in.Goals as goal

pub invariant_of-self : goal.invariant_of-self
invariant_of-self g c =
    let p = c.self.invariant in
    let h = c.absorb.ensures in
    record {
      live = h.live;
      none = λ j. both_owns c.self.inside.seat.me.0 c.into_seat.result.me.0 c.absorb.new.seat.me.0 j h.joined.pages (c.into_seat.ensures.seat.none j) ∙ p.none j;
    }

pub returns-clause-kept : goal.returns-clause-kept
returns-clause-kept g c =
    subst (λ (p : Witness _). IsWithin p.seen (seen_of c.absorb.new.seat.me.0)) c.self.view_is (within_of c.self.inside.seat.me.0 c.absorb.new.seat.me.0 c.absorb.ensures.joined.one)

pub returns-clause-told : goal.returns-clause-told
returns-clause-told g c =
    subst (λ (n : Witness _). IsWithin n.seen (seen_of c.absorb.new.seat.me.0)) (sym c.into_seat.ensures.value) (within_of c.into_seat.result.me.0 c.absorb.new.seat.me.0 c.absorb.ensures.joined.other)
