use Rattle.std.proofs.Common.{rules, ◌≡◌, true}
use Rattle.std.specs.Str.{bytes_eq}
use Rattle.es_run_cases.proofs.SeveralLemmas.{named-step}
use Rattle.es_run_cases.proofs.several.+are_named.Goals as goal

pub returns-then-eq : goal.returns-then-eq
returns-then-eq t c = λ so.
    let same : bytes_eq c.app-item.result.name c.first-item.result.name ≡ true = search rules in
    named-step (λ a. a.name) c.args.declared.now c.args.apps.now c.first-item.result c.app-item.result c.in-len1-up.len_at_least c.in-len1-up-apps.len_at_least c.first-item.is c.app-item.is same (c.are_named.ensures so)
