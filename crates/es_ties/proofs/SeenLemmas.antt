-- What views have seen, as a list for each log.
use Rattle.std.proofs.Common.{◌≡◌, ◌≢◌, ◌⊎◌, true, ℕ, zero, suc, List, [], ◌∷◌, ◌++◌, length, slice_get, map, set, Some, refl, sym, ap, ◌∙◌, subst, ⊎_elim, inl, inr}
use Rattle.std.proofs.Math.ListN as L
use mathlib.Core.List.{IsPrefix}
use Rattle.es_ties.specs.declared.view.Page.{Page}
use Rattle.es_ties.specs.declared.view.View.{View}
use Rattle.es_ties.specs.Steps.{Grows, Joined}
use Rattle.es_ties.proofs.Growing.{grown_here, grown_else}
use Rattle.es_ties.proofs.Sharing.{both_own}
use Rattle.es_ties.specs.Views.{blank, page_of, seen_at, seen_of, owns_at, copied, copy_of, kept_of, dealt_of, opened}
use Rattle.es_ties.specs.Seen.{Writer, of_log, IsWithin, AreFirstPens}
use Rattle.atomic_table.specs.Seated.{TableId}

pub at_end : {A : Type 0} (l : List A) (a b : A) (j : ℕ) → slice_get (l ++ a ∷ []) j ≡ Some b → (slice_get l j ≡ Some b) ⊎ ((j ≡ length l) × (a ≡ b))
at_end [] a b zero e = inr (refl, cc e)
at_end [] a b (suc j) e = absurd (cc e)
at_end (x ∷ xs) a b zero e = inl e
at_end (x ∷ xs) a b (suc j) e = ⊎_elim inl (λ t. inr (ap suc t.0, t.1)) (at_end xs a b j e)

module _ {I : Type 0} where
  pub log_seen : (v : View I) (j : ℕ) → of_log (seen_of v) j ≡ seen_at v j
  log_seen v j = L.get_or-map (λ (p : Page I). p.seen) v.pages j blank

  pub same_seen : (v w : View I) → seen_of w ≡ seen_of v → (j : ℕ) → seen_at w j ≡ seen_at v j
  same_seen v w same j = sym (log_seen w j) ∙ (ap (λ s. of_log s j) same ∙ log_seen v j)

  pub within_of : (v w : View I) → ((j : ℕ) → IsPrefix (seen_at v j) (seen_at w j)) → IsWithin (seen_of v) (seen_of w)
  within_of v w each j = subst (λ xs. IsPrefix xs (of_log (seen_of w) j)) (sym (log_seen v j)) (subst (IsPrefix (seen_at v j)) (sym (log_seen w j)) (each j))

  seen_copied : (ps : List (Page I)) → map (λ (p : Page I). p.seen) (map copied ps) ≡ map (λ (p : Page I). p.seen) ps
  seen_copied [] = refl
  seen_copied (p ∷ ps) = ap (λ l. p.seen ∷ l) (seen_copied ps)

  seen_set : (ps : List (Page I)) (d : ℕ) (q : Page I) → q.seen ≡ (page_of ps d).seen → map (λ (p : Page I). p.seen) (set ps d q) ≡ map (λ (p : Page I). p.seen) ps
  seen_set [] d q e = refl
  seen_set (p ∷ ps) zero q e = ap (λ x. x ∷ map (λ (p : Page I). p.seen) ps) e
  seen_set (p ∷ ps) (suc d) q e = ap (λ l. p.seen ∷ l) (seen_set ps d q e)

  pub copy_seen : (v : View I) → seen_of (copy_of v) ≡ seen_of v
  copy_seen v = seen_copied v.pages

  pub kept_seen : (v : View I) → seen_of (kept_of v) ≡ seen_of v
  kept_seen v = seen_set v.pages v.dealt (copied (page_of v.pages v.dealt)) refl

  pub dealt_seen : (v : View I) → seen_of (dealt_of v) ≡ seen_of v
  dealt_seen v = seen_set (map copied v.pages) v.dealt (page_of v.pages v.dealt) (sym (ap (λ (p : Page I). p.seen) (L.get_or-map copied v.pages v.dealt blank))) ∙ seen_copied v.pages

  pub opened_seen : (starts : List (List I)) → seen_of (opened starts) ≡ starts
  opened_seen [] = refl
  opened_seen (x ∷ xs) = ap (λ l. x ∷ l) (opened_seen xs)

  pub pens_more : (ties : TableId) (starts : List (List I)) (pens all : List (Writer I)) (p : Writer I) (log : ℕ) → all ≡ pens ++ p ∷ [] → length pens ≡ log → AreFirstPens ties starts pens → p ≡ record { ties = ties; log = log; seen = starts } → AreFirstPens ties starts all
  pens_more ties starts pens all p log is len before mine j q at =
      ⊎_elim
      (λ (h : slice_get pens j ≡ Some q). before j q h)
      (λ (h : (j ≡ length pens) × (p ≡ q)). sym h.1 ∙ (mine ∙ ap (λ (k : ℕ). record { ties = ties; log = k; seen = starts }) (sym len ∙ sym h.0)))
      (at_end pens p q j (subst (λ l. slice_get l j ≡ Some q) is at))

  pub grown_log : (items : List I) (log : ℕ) (v w : View I) → Grows items log v w → owns_at v log ≡ true → of_log (seen_of w) log ≡ of_log (seen_of v) log ++ items
  grown_log items log v w is own = log_seen w log ∙ (grown_here items log v w is own ∙ ap (λ l. l ++ items) (sym (log_seen v log)))

  pub grown_other : (items : List I) (log j : ℕ) (v w : View I) → Grows items log v w → j ≢ log → of_log (seen_of w) j ≡ of_log (seen_of v) j
  grown_other items log j v w is ne = log_seen w j ∙ (ap (λ (p : Page I). p.seen) (grown_else items log j v w is ne) ∙ sym (log_seen v j))

  pub joined_own : (v w u : View I) (log : ℕ) → Joined v w u → owns_at v log ≡ true → of_log (seen_of u) log ≡ of_log (seen_of v) log
  joined_own v w u log j own = log_seen u log ∙ (both_own v w u log j.pages own ∙ sym (log_seen v log))
