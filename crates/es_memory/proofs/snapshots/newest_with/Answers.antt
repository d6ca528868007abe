use Rattle.std.proofs.Common.{◌≡◌, ◌∙◌, ◌++◌, ◌∷◌, [], true, sym, subst}
use Rattle.std.specs.Option.{option_copied}
use Rattle.es_recorder.specs.Selections.{snapshots_upto, IsNewest}
use Rattle.es_memory.proofs.SnapshotsLemmas.{is_one, newest-newer, newest-older}
use Rattle.es_memory.proofs.snapshots.newest_with.Goals as goal

pub returns-then-other-snapshot : goal.returns-then-other-snapshot
returns-then-other-snapshot c = λ seen newest.
    let one : is_one c.args.id c.args.lte c.args.snapshot.now ≡ true = sym c.is_upto_bound.ensures ∙ c.if-not-is_upto_bound.false in
    newest-newer seen c.args.snapshot.now c.in-Some.other.now c.args.id c.args.lte one c.if-other-snapshot.true
    (subst (λ o. IsNewest (snapshots_upto seen c.args.id c.args.lte) (option_copied o)) c.in-Some.is newest)

pub returns-else-other-snapshot : goal.returns-else-other-snapshot
returns-else-other-snapshot c = λ seen newest.
    let one : is_one c.args.id c.args.lte c.args.snapshot.now ≡ true = sym c.is_upto_bound.ensures ∙ c.if-not-is_upto_bound.false in
    subst (λ o. IsNewest (snapshots_upto (seen ++ c.args.snapshot.now ∷ []) c.args.id c.args.lte) (option_copied o)) (sym c.in-Some.is)
    (newest-older seen c.args.snapshot.now c.in-Some.other.now c.args.id c.args.lte one c.if-other-snapshot.false
    (subst (λ o. IsNewest (snapshots_upto seen c.args.id c.args.lte) (option_copied o)) c.in-Some.is newest))
