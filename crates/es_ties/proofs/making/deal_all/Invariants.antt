use Rattle.std.proofs.Common.{◌≡◌, vec_len}
use Rattle.es_ties.specs.Seen.{AreFirstPens}
use Rattle.es_ties.specs.Seats.{IsDealer}
use Rattle.es_ties.proofs.making.deal_all.Given as goal

abbrev pub invariant-loop-log : goal.invariant-loop-log
invariant-loop-log g l = record { dealer : IsDealer l.ties g.N.Starts.starts l.log l.seat; pens : AreFirstPens l.ties g.N.Starts.starts l.pens.items; count : vec_len l.pens ≡ l.log }
