-- What a stop may find after calls in a transaction.
use Rattle.std.proofs.Common.{◌≡◌, true, inl, inr}
use Rattle.sqlite.specs.Store.{Ghosts}
use Rattle.sqlite.specs.State.{State, Survives}
use Rattle.sqlite.specs.Held.{Held, state}
use Rattle.sqlite.specs.Tree.{Trees}
use Rattle.sqlite.proofs.StateLemmas.{survives_then}
use Rattle.es_sqlite.specs.Commits.{CommitsOnce}

-- to begin a transaction changes nothing that a stop finds
pub begins : {S : Type 0} (g : Ghosts S) (h : Held S) (b : State) (P : Trees → Type 0) → Survives (state g (record h { in_transaction = true })) b P → Survives (state g h) b P
begins g h b P s = record { clean = s.clean; shield = s.shield; counts = s.counts; limit = s.limit; closes = s.closes; crash = s.crash }

-- two calls that commit nothing
pub nothing_then : (a b c : State) → Survives a b (λ _. ⊥) → Survives b c (λ _. ⊥) → Survives a c (λ _. ⊥)
nothing_then a b c one two = survives_then a b c (λ _. ⊥) (λ _. ⊥) (λ _. ⊥) (λ _ db none. none) (λ _ db none. none) one two

-- a call that commits nothing, and then one that commits
pub nothing_then_once : (a b c : State) (made : Trees) → Survives a b (λ _. ⊥) → Survives b c (λ db. db ≡ made) → CommitsOnce a c
nothing_then_once a b c made one two = (made, survives_then a b c (λ _. ⊥) (λ db. db ≡ made) (λ db. db ≡ made) (λ _ db none. absurd none) (λ _ db is. is) one two)

-- to commit nothing is to commit at most once
pub nothing_is_once : (a b : State) → Survives a b (λ _. ⊥) → CommitsOnce a b
nothing_is_once a b s = (a.now.trees, record { clean = s.clean; shield = s.shield; counts = s.counts; limit = s.limit; closes = s.closes; crash = λ clean db may. elim (s.crash clean db may) [ inl before ↦ inl before | inr none ↦ absurd none ] })
