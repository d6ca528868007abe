-- A live seat after a step.
use Rattle.std.proofs.Common.{◌≡◌, true, [], ap, ◌∙◌}
use Rattle.atomic_table.specs.declared.shared.Seat.{Seat}
use Rattle.es_ties.specs.declared.view.View.{View}
use Rattle.es_ties.specs.Seats.{IsLive}

pub live_after : {I : Type 0} (s : Seat (Unit {0}) (View I)) (v : View I) → s.me.0 ≡ v → v.live ≡ true → v.earlier ≡ [] → s.me.1 ≡ [] → IsLive s
live_after s v is live earlier slots = record { live = ap (λ w. w.live) is ∙ live; earlier = ap (λ w. w.earlier) is ∙ earlier; slots = slots }
