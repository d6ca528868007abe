use Rattle.std.proofs.Common.{arith, get_or, ap, sym, subst, IfOk}
use Rattle.es_model.specs.History.{log}
use Rattle.es_process.specs.Standing.{IsNextAfter}
use Rattle.es_world.proofs.PlaceLemmas.{named_at}
use Rattle.es_world.proofs.places.entry_at.Goals as goal

pub returns-clause-found : goal.returns-clause-found
returns-clause-found c =
    let entry = named_at c.args.histories.now c.place.result c.args.app.now (get_or c.args.histories.now c.place.result c.index-histories-place.result) c.place.ensures.place (omega (arith, c.place.ensures.place, c.requires.there)) (ap (get_or c.args.histories.now c.place.result) c.index-histories-place.is) in
    subst (λ h. IfOk c.entry_in.result (IsNextAfter (log h) c.args.before)) (sym entry.1) c.entry_in.ensures.found
