use Rattle.std.proofs.Common.{refl, ap, ◌∙◌}
use Rattle.es_ties.specs.Views.{owns_at, copy_of}
use Rattle.es_ties.proofs.Live.{live_after}
use Rattle.es_ties.proofs.Sharing.{copies, copy_none}
use Rattle.es_ties.proofs.seats.copy.Goals as goal

pub split_seat-requires : goal.split_seat-requires
split_seat-requires g c = (c.requires.table.0, c.requires.table.1, copies _ _ c.args.seat.now.me.0 c.requires.live.live)

pub returns-clause-same : goal.returns-clause-same
returns-clause-same g c = λ i. record {
  marker = c.args.seat.now.marker;
  table_id = c.split_seat.ensures.0 i;
  id = c.split_seat.ensures.1 i;
  me = c.split_seat.ensures.2 i;
}

pub returns-clause-copy : goal.returns-clause-copy
returns-clause-copy g c =
    let me = c.split_seat.ensures.4 in (
      record {
        live = live_after c.split_seat.result (copy_of c.args.seat.now.me.0) (ap (λ m. m.0) me) refl refl (ap (λ m. m.1) me);
        none = λ j. ap (λ m. owns_at m.0 j) me ∙ copy_none c.args.seat.now.me.0 j;
      },
      ap (λ m. m.0) me,
    )
