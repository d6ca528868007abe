use Rattle.std.proofs.Common.{subst, sym, ap, ◌∙◌, ◌<◌, ℕ}
use Rattle.es_ties.specs.Steps.{grown_at}
use Rattle.es_ties.proofs.Growing.{grows}
use Rattle.es_ties.proofs.Live.{live_after}
use Rattle.es_ties.proofs.seats.grow.Goals as goal

pub fetch_add-requires : goal.fetch_add-requires
fetch_add-requires g c =
    let table = c.requires.table in
    let seat = c.requires.seat in
    let within = subst (λ (k : ℕ). c.args.log < k) (ap (λ z. z.words) table.0) seat.2 in
    (table.0, within, grows c.args.logs.now.key _ _ c.args.seat.now.me g.N.Entry.items c.args.log (subst (λ (k : ℕ). c.args.log < k) (sym table.1) within) seat.0.live seat.1)

pub returns-clause-live : goal.returns-clause-live
returns-clause-live g c =
    let told = c.fetch_add.ensures.2 in
    let live = c.requires.seat.0 in
    live_after c.fetch_add.new.seat (record c.args.seat.now.me.0 { pages = grown_at g.N.Entry.items c.args.log c.args.seat.now.me.0.pages }) told.0 live.live live.earlier (told.1 ∙ live.slots)
