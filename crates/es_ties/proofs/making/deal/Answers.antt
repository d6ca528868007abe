use Rattle.std.proofs.Common.{refl, ap, sym, subst, ◌∙◌, ◌≡◌, ◌<◌, ◌+◌, ℕ, arith, true}
use Rattle.atomic_table.specs.Seated.{TableId}
use Rattle.es_ties.specs.Views.{owns_at, seen_of, kept_of, dealt_of}
use Rattle.es_ties.proofs.Live.{live_after}
use Rattle.es_ties.proofs.Dealing.{next_owned, deals, kept_owns, dealt_owns, dealt_only}
use Rattle.es_ties.proofs.SeenLemmas.{kept_seen, dealt_seen}
use Rattle.es_ties.proofs.making.deal.Goals as goal

pub split_seat-requires : goal.split_seat-requires
split_seat-requires g c =
    let d = c.requires.dealer in
    let logs = c.logs.ensures in
    let v = c.args.seat.now.me.0 in
    let own = next_owned _ _ _ c.args.seat.now d c.requires.log in
    (d.table ∙ sym logs.0, subst (λ (z : TableId). 0 < z.words) (sym logs.0) logs.2, deals _ _ v d.live.live d.live.earlier own)

pub of-requires : goal.of-requires
of-requires g c =
    let d = c.requires.dealer in
    let v = c.args.seat.now.me.0 in
    let own = next_owned _ _ _ c.args.seat.now d c.requires.log in
    let me = c.split_seat.ensures.4 in
    record {
      live = live_after c.split_seat.result (dealt_of v) (ap (λ m. m.0) me) refl refl (ap (λ m. m.1) me);
      owns = ap (λ m. owns_at m.0 c.args.log) me ∙ subst (λ (k : ℕ). owns_at (dealt_of v) k ≡ true) d.dealt (dealt_owns v own);
      only = λ j ne. ap (λ m. owns_at m.0 j) me ∙ dealt_only v j (λ e. ne (e ∙ d.dealt));
      within = subst (λ (k : ℕ). c.args.log < k) (sym (ap (λ z. z.words) (c.split_seat.ensures.3 ∙ d.table) ∙ c.requires.count)) c.requires.log;
    }

pub returns-clause-dealer : goal.returns-clause-dealer
returns-clause-dealer g c =
    let d = c.requires.dealer in
    let v = c.args.seat.now.me.0 in
    let me = c.split_seat.ensures.2 in
    record {
      live = live_after c.split_seat.new.seat (kept_of v) (ap (λ m. m.0) me) d.live.live d.live.earlier (ap (λ m. m.1) me ∙ d.live.slots);
      table = c.split_seat.ensures.0 ∙ d.table;
      dealt = ap (λ m. m.0.dealt) me ∙ ap (λ (k : ℕ). k + 1) d.dealt;
      owns = λ j le lt. ap (λ m. owns_at m.0 j) me ∙ (kept_owns v j (λ e. let f = d.dealt in absurd (omega (arith, e, f, le))) ∙ d.owns j (omega (arith, le)) lt);
      seen = ap (λ m. seen_of m.0) me ∙ (kept_seen v ∙ d.seen);
    }

pub returns-clause-pen : goal.returns-clause-pen
returns-clause-pen g c =
    let d = c.requires.dealer in
    let seen = ap (λ m. seen_of m.0) c.split_seat.ensures.4 ∙ (dealt_seen c.args.seat.now.me.0 ∙ d.seen) in
    c.of.ensures ∙ (λ i. record { ties = (c.split_seat.ensures.3 ∙ d.table) i; log = c.args.log; seen = seen i })
