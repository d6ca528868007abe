use Rattle.std.proofs.Common.{[], refl, ap, ◌∙◌}
use Rattle.es_ties.proofs.Live.{live_after}
use Rattle.es_ties.proofs.Sharing.{joins, settles, joined}
use Rattle.es_ties.proofs.seats.absorb.Goals as goal

pub join_seat-requires : goal.join_seat-requires
join_seat-requires g c =
    let table = c.requires.table in
    let live = c.requires.live in
    (table.0, table.1, live.1.slots, table.2, joins _ _ c.args.seat.now.me.0 _ c.args.other.me.0 live.0.live live.1.live)

pub load-requires : goal.load-requires
load-requires g c =
    let h = c.join_seat.ensures in
    (h.0 ∙ c.requires.table.0, c.requires.table.2, settles _ _ _ c.join_seat.new.seat.me (ap (λ m. m.0.live) h.2 ∙ c.requires.live.0.live))

pub returns-clause-live : goal.returns-clause-live
returns-clause-live g c =
    let me = c.join_seat.ensures.2 in
    let told = c.load.ensures.2 in
    let live = c.requires.live.0 in
    live_after c.load.new.seat (record c.join_seat.new.seat.me.0 { earlier = [] }) told.0.0 (ap (λ m. m.0.live) me ∙ live.live) refl (told.1 ∙ (ap (λ m. m.1) me ∙ live.slots))

pub returns-clause-joined : goal.returns-clause-joined
returns-clause-joined g c = joined c.args.seat.now.me.0 c.args.other.me.0 c.join_seat.new.seat.me.0 c.load.new.seat.me.0 (ap (λ m. m.0) c.join_seat.ensures.2) c.load.ensures.2.0
