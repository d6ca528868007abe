use Rattle.std.proofs.Common.{rules, ◌<◌, length, Contains}
use Rattle.std.specs.List.{position_or_len}
use Rattle.std.specs.Str.{bytes_eq}
use Rattle.es_process.specs.Standing.{names_in}
use Rattle.es_run_cases.proofs.SeveralLemmas.{place-contains, all-step}
use Rattle.es_run_cases.proofs.drains.+are_declared.Goals as goal

pub returns-then-place_of-apps : goal.returns-then-place_of-apps
returns-then-place_of-apps t c = λ so.
    let within : position_or_len (λ x. bytes_eq x.name c.name-item.result) c.args.apps.now < length c.args.apps.now = search rules in
    all-step (Contains (names_in c.args.apps.now)) c.args.names.now c.name-item.result c.in-len1-up.len_at_least c.name-item.is (place-contains c.args.apps.now c.name-item.result within) (c.are_declared.ensures so)
