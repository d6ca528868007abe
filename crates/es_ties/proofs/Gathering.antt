-- One reader gathers what all have seen, and each pen learns it.
use Rattle.std.proofs.Common.{◌≡◌, ◌≢◌, ◌⊎◌, ℕ, zero, suc, ◌+◌, ◌<◌, Some, List, [], ◌∷◌, length, set, get_or, slice_get, refl, sym, ap, ◌∙◌, subst, ⊎_elim, inl, inr, arith}
use Rattle.std.proofs.lemmas.List.{set-get_or}
use Rattle.std.proofs.lemmas.Option.{slice_get-get_or}
use mathlib.Core.Logic.{dite}
use native.Mathlib.Decide.{ℕ_discrete}
use Rattle.es_ties.specs.Seen.{Writer, IsWithin, IsBehindPens}
use Rattle.es_ties.proofs.Prefixes.{prefix_trans}

some_is : {A : Type 0} {a b : A} → Some a ≡ Some b → a ≡ b
some_is e = cc e

module _ {A : Type 0} where
  pub get_set : (xs : List A) (k i : ℕ) (a b : A) → slice_get (set xs k a) i ≡ Some b → ((i ≡ k) × (a ≡ b)) ⊎ (slice_get xs i ≡ Some b)
  get_set [] k i a b e = inr e
  get_set (x ∷ xs) zero zero a b e = inl (refl, some_is e)
  get_set (x ∷ xs) zero (suc i) a b e = inr e
  get_set (x ∷ xs) (suc k) zero a b e = inr e
  get_set (x ∷ xs) (suc k) (suc i) a b e = ⊎_elim (λ t. inl (ap suc t.0, t.1)) inr (get_set xs k i a b e)

  pub get_set_else : (xs : List A) (k i : ℕ) (a : A) → i ≢ k → slice_get (set xs k a) i ≡ slice_get xs i
  get_set_else [] k i a ne = refl
  get_set_else (x ∷ xs) zero zero a ne = absurd (ne refl)
  get_set_else (x ∷ xs) zero (suc i) a ne = refl
  get_set_else (x ∷ xs) (suc k) zero a ne = refl
  get_set_else (x ∷ xs) (suc k) (suc i) a ne = get_set_else xs k i a (λ e. ne (ap suc e))

  -- the item that was read is written back
  pub set_back : (xs : List A) (k : ℕ) (a b : A) → b ≡ a → a ≡ get_or xs k a → set xs k b ≡ xs
  set_back xs k a b same read = ap (set xs k) (same ∙ read) ∙ set-get_or xs k a

  pub get_read : (xs : List A) (k : ℕ) (a : A) → k < length xs → a ≡ get_or xs k a → slice_get xs k ≡ Some a
  get_read xs k a lt read = slice_get-get_or xs k a lt ∙ ap Some (sym read)

  -- for each item below k, and for the k-th
  pub up_to : (P : A → Type 0) (xs : List A) (k : ℕ) (a : A) → slice_get xs k ≡ Some a → P a → ((i : ℕ) (b : A) → i < k → slice_get xs i ≡ Some b → P b) → (i : ℕ) (b : A) → i < k + 1 → slice_get xs i ≡ Some b → P b
  up_to P xs k a here mine below i b lt at =
      dite (ℕ_discrete i k)
      (λ e. subst P (some_is (sym here ∙ (ap (slice_get xs) (sym e) ∙ at))) mine)
      (λ ne. below i b (omega arith) at)

module _ {I : Type 0} where
  pub within_trans : (xs ys zs : List (List I)) → IsWithin xs ys → IsWithin ys zs → IsWithin xs zs
  within_trans xs ys zs p q log = prefix_trans _ _ _ (p log) (q log)

  pub behind_more : (less more : List (List I)) (pens : List (Writer I)) → IsWithin less more → IsBehindPens more pens → IsBehindPens less pens
  behind_more less more pens within behind k p at = prefix_trans _ _ _ (within p.log) (behind k p at)
