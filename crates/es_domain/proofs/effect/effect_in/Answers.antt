use Rattle.std.proofs.Common.{◌≡◌, None, sym, ◌∙◌}
use Rattle.es_model.specs.Declaration.{is_creating}
use Rattle.es_domain.specs.Effect.{guarded, misplaced, seen}
use Rattle.es_domain.proofs.FiringLemmas.{first_none, placed_ready}
use Rattle.es_domain.proofs.FoldLemmas.{created_class}
use Rattle.es_domain.proofs.Projections.{guards_tested, triggers_few, triggers_run}
use Rattle.es_domain.proofs.effect.effect_in.Goals as goal

pub refused-requires-clause-tests : goal.refused-requires-clause-tests
refused-requires-clause-tests c placed =
    let named = created_class c.args.sys.now c.args.command.now.class c.args.class.now c.requires.checked c.requires.command.class in
    guards_tested c.args.sys.now c.args.class.now c.args.definition.now c.args.command.now c.args.at c.args.found c.requires.checked c.requires.command placed
    (placed_ready c.args.sys.now c.args.class.now (is_creating c.args.class.now c.args.definition.now.triggers) c.args.found named placed c.requires.found)

pub triggered-requires-clause-few : goal.triggered-requires-clause-few
triggered-requires-clause-few c = triggers_few c.args.sys.now c.args.class.now c.args.definition.now c.args.command.now c.requires.checked c.requires.command

pub triggered-requires-clause-ready : goal.triggered-requires-clause-ready
triggered-requires-clause-ready c =
    let named = created_class c.args.sys.now c.args.command.now.class c.args.class.now c.requires.checked c.requires.command.class in
    let placed : misplaced (is_creating c.args.class.now c.args.definition.now.triggers) c.args.class.now c.args.found ≡ None =
    first_none _ (guarded c.args.definition.now.guards (seen c.args.command.now c.args.at c.args.found)) (sym c.in_ok-code.ensures ∙ c.in-None.is) in
    placed_ready c.args.sys.now c.args.class.now (is_creating c.args.class.now c.args.definition.now.triggers) c.args.found named placed c.requires.found

pub triggered-requires-clause-fields : goal.triggered-requires-clause-fields
triggered-requires-clause-fields c =
    let named = created_class c.args.sys.now c.args.command.now.class c.args.class.now c.requires.checked c.requires.command.class in
    let placed : misplaced (is_creating c.args.class.now c.args.definition.now.triggers) c.args.class.now c.args.found ≡ None =
    first_none _ (guarded c.args.definition.now.guards (seen c.args.command.now c.args.at c.args.found)) (sym c.in_ok-code.ensures ∙ c.in-None.is) in
    triggers_run c.args.sys.now c.args.class.now c.args.definition.now c.args.command.now c.args.at c.args.found c.requires.checked c.requires.command placed
    (placed_ready c.args.sys.now c.args.class.now (is_creating c.args.class.now c.args.definition.now.triggers) c.args.found named placed c.requires.found)
