use Rattle.std.proofs.Common.{ℕ, Option, IsSome, sym, subst, ◌∙◌}
use Rattle.es_process.proofs.PairingLemmas.{app_found, app_placed}
use Rattle.es_process.proofs.pairs.place_of.Goals as goal

pub unwrap-requires : goal.unwrap-requires
unwrap-requires c = subst (λ (o : Option ℕ). IsSome o) (sym c.position_of.ensures) (app_found c.args.apps.now c.args.name.now c.requires)

pub returns : goal.returns
returns c = app_placed c.args.apps.now c.args.name.now c.unwrap.result (sym c.position_of.ensures ∙ c.unwrap.ensures)
