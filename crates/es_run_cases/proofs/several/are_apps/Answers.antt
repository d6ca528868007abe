use Rattle.std.proofs.Common.{rules, ◌≡◌, sym, subst}
use Rattle.es_process.specs.Standing.{AreDistinct, names_in}
use Rattle.es_process.specs.SystemRules.{app_names}
use Rattle.es_process.proofs.DeclaredLemmas.{distinct-apps}
use Rattle.es_run_cases.proofs.several.are_apps.Goals as goal

pub returns : goal.returns
returns c = λ so.
    let named : names_in c.args.apps.now ≡ app_names c.args.sys.now = search rules in
    record { checked = c.requires; named = named; distinct = subst AreDistinct (sym named) (distinct-apps c.args.sys.now c.requires) }
