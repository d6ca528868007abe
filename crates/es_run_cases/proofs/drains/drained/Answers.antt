use Rattle.std.proofs.Common.{rules, ◌≡◌, true, All, Contains, subst}
use Rattle.es_process.specs.Standing.{names_in}
use Rattle.es_run_cases.proofs.drains.drained.Goals as goal

pub drain-requires-clause-declared : goal.drain-requires-clause-declared
drain-requires-clause-declared c =
    let so : c.are_declared.result ≡ true = search rules in
    subst (All (Contains (names_in c.args.apps.now))) c.as_slice.ensures (c.are_declared.ensures so)
