-- The pens of all logs, in order.
use Rattle.std.proofs.Common.{◌≡◌, ℕ, zero, suc, ◌<◌, Some, List, [], ◌∷◌, ◌++◌, length, slice_get, refl, sym, ap, ◌∙◌, subst, ⊎_elim, arith}
use Rattle.std.proofs.lemmas.Option.{slice_get_within}
use Rattle.atomic_table.specs.Seated.{TableId}
use Rattle.es_ties.specs.Seen.{Writer, log_count, HaveEachLog}
use Rattle.es_ties.proofs.SeenLemmas.{at_end}

get_there : {A : Type 0} (xs : List A) (k : ℕ) → k < length xs → (a : A) × (slice_get xs k ≡ Some a)
get_there [] k lt = absurd (omega arith)
get_there (x ∷ xs) zero lt = (x, refl)
get_there (x ∷ xs) (suc k) lt = get_there xs k (omega arith)

pub get_in : {A : Type 0} (xs ys : List A) (k : ℕ) (a : A) → xs ≡ ys → slice_get ys k ≡ Some a → slice_get xs k ≡ Some a
get_in xs ys k a same = subst (λ l. slice_get l k ≡ Some a) (sym same)

module _ {I : Type 0} where
  abbrev pub IsInOrder : List (Writer I) → Type 0
  IsInOrder pens = (k : ℕ) (p : Writer I) → slice_get pens k ≡ Some p → p.log ≡ k

  pub order_none : IsInOrder []
  order_none k p e = absurd (cc e)

  pub order_end : (pens : List (Writer I)) (p : Writer I) → p.log ≡ length pens → IsInOrder pens → IsInOrder (pens ++ p ∷ [])
  order_end pens p last before k q e = ⊎_elim (before k q) (λ (h : (k ≡ length pens) × (p ≡ q)). sym (ap (λ w. w.log) h.1) ∙ (last ∙ sym h.0)) (at_end pens p q k e)

  pub have_each_log : (ties : TableId) (pens : List (Writer I)) → length pens ≡ log_count ties → IsInOrder pens → HaveEachLog ties pens
  have_each_log ties pens len order log lt = let h = get_there pens log (omega (arith, len, lt)) in (log, h.0, h.1, order log h.0 h.1)

  pub some_pen : (ties : TableId) (pens : List (Writer I)) → 0 < log_count ties → HaveEachLog ties pens → 0 < length pens
  some_pen ties pens some all = let first = all 0 some in let lt = slice_get_within pens first.0 first.1 first.2 in omega (arith, lt)
