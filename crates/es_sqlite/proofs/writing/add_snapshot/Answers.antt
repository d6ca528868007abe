use Rattle.std.proofs.Common.{◌≡◌, subst, rules}
use Rattle.sqlite.specs.State.{Survives}
use Rattle.sqlite.specs.Held.{state}
use Rattle.es_sqlite.specs.Commits.{CommitsOnce}
use Rattle.es_sqlite.proofs.CommitLemmas.{begins, nothing_then, nothing_then_once, nothing_is_once}
use Rattle.es_sqlite.proofs.writing.add_snapshot.Goals as goal

pub returns-in_err-replace_snapshot-clause-once : goal.returns-in_err-replace_snapshot-clause-once
returns-in_err-replace_snapshot-clause-once g c =
    let old = state g.S.Store c.args.conn.now in
    let mid = state g.S.Store c.replace_snapshot.new.tx.conn.now in
    let end = c.drop-tx.new.self.0 in
    let same : end ≡ c.conn-1.given.0 = search rules in
    let wrote : Survives old mid (λ _. ⊥) = begins g.S.Store c.args.conn.now mid (λ _. ⊥) (rw c.transaction-tx.ensures.begun at c.replace_snapshot.ensures.survives) in
    subst (λ h. CommitsOnce old (state g.S.Store h)) same (nothing_is_once old (state g.S.Store end) (nothing_then old mid (state g.S.Store end) wrote c.drop-tx.ensures.survives))

pub returns-in-Ok-clause-once : goal.returns-in-Ok-clause-once
returns-in-Ok-clause-once g c =
    let old = state g.S.Store c.args.conn.now in
    let mid = state g.S.Store c.replace_snapshot.new.tx.conn.now in
    let end = c.commit-put.new.self.0 in
    let same : end ≡ c.conn-2-1.given.0 = search rules in
    let wrote : Survives old mid (λ _. ⊥) = begins g.S.Store c.args.conn.now mid (λ _. ⊥) (rw c.transaction-tx.ensures.begun at c.replace_snapshot.ensures.survives) in
    subst (λ h. CommitsOnce old (state g.S.Store h)) same (nothing_then_once old mid (state g.S.Store end) mid.now.trees wrote c.commit-put.ensures.survives)

pub returns-in-Err-clause-once : goal.returns-in-Err-clause-once
returns-in-Err-clause-once g c =
    let old = state g.S.Store c.args.conn.now in
    let mid = state g.S.Store c.replace_snapshot.new.tx.conn.now in
    let end = c.commit-put.new.self.0 in
    let same : end ≡ c.conn-2-1.given.0 = search rules in
    let wrote : Survives old mid (λ _. ⊥) = begins g.S.Store c.args.conn.now mid (λ _. ⊥) (rw c.transaction-tx.ensures.begun at c.replace_snapshot.ensures.survives) in
    subst (λ h. CommitsOnce old (state g.S.Store h)) same (nothing_then_once old mid (state g.S.Store end) mid.now.trees wrote c.commit-put.ensures.survives)
