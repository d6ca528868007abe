-- Making the ties.
use Rattle.std.proofs.Common.{◌≡◌, ◌⊎◌, ℕ, zero, suc, ◌<◌, Some, true, List, [], ◌∷◌, ◌++◌, length, set, get_or, replicate, refl, sym, ap, ◌∙◌, subst, ⊎_elim, inl, inr, arith}
use Rattle.std.proofs.lemmas.List.{append-nil, set-get_or}
use Rattle.std.proofs.Math.ListN as L
use mathlib.Core.Option.{some, some-ne-none, some-injective}
use mathlib.Core.List.{IsPrefix}
use mathlib.Core.Logic.{dite}
use native.Mathlib.Decide.{dec_le}
use lib.ListN.{get_elem?}
use Rattle.atomic_table.specs.Table.{Me, Allows, keeps, opening}
use Rattle.es_ties.specs.declared.view.Page.{Page}
use Rattle.es_ties.specs.declared.view.View.{View}
use Rattle.es_ties.specs.Views.{page, blank, page_of, seen_at, number_at, is_some, first_view, opened}
use Rattle.es_ties.specs.Ties.{Fits, IsTied}
use Rattle.es_ties.proofs.Prefixes.{prefix_self, prefix_more, prefix_trans}
use Rattle.es_ties.proofs.Owners.{off, fits_set, owner_set}

zeros : (n j : ℕ) → ◌≡◌ {A = ℕ} (get_or (replicate n 0) j 0) 0
zeros zero j = refl
zeros (suc n) zero = refl
zeros (suc n) (suc j) = zeros n j

module _ {I : Type 0} where
  first_seen : (n j : ℕ) → page_of {I = I} (replicate n (page (Some 0) [])) j ≡ page (Some 0) [] ⊎ page_of {I = I} (replicate n (page (Some 0) [])) j ≡ blank
  first_seen zero j = inr refl
  first_seen (suc n) zero = inl refl
  first_seen (suc n) (suc j) = first_seen n j

  pub begins : (n : ℕ) → IsTied n (opening (replicate n 0) (let none : List (Unit {0}) = [] in none) (first_view {I = I} n))
  begins n = record { logs = λ _. []; owner = λ _. 0; wide = L.length-replicate n 0; fits = one; held = λ j lt. record { view = first_view n; there = refl; live = refl; owns = ap (λ (p : Page I). is_some p.number) (L.get_or-replicate n j (page (Some 0) []) blank lt) } }
    where
      blank_fits : (j : ℕ) (p : Page I) → (p ≡ page (Some 0) []) ⊎ (p ≡ blank) → IsPrefix p.seen [] × ((k : ℕ) → p.number ≡ Some k → (p.seen ≡ []) × (0 ≡ k))
      blank_fits j p e = ⊎_elim
          (λ (h : p ≡ page (Some 0) []). ((subst (λ (q : Page I). IsPrefix q.seen []) (sym h) ([], refl)), (λ k is. (ap (λ (q : Page I). q.seen) h, cc (sym (ap (λ (q : Page I). q.number) h) ∙ is)))))
          (λ (h : p ≡ blank). ((subst (λ (q : Page I). IsPrefix q.seen []) (sym h) ([], refl)), (λ k is. (ap (λ (q : Page I). q.seen) h, absurd (off (ap is_some (sym (ap (λ (q : Page I). q.number) h) ∙ is)))))))
          e

      one : (seat : ℕ) (v : View I) → get_elem? (first_view n ∷ []) seat ≡ some v → v.live ≡ true → Fits (replicate n 0) (λ _. []) (λ _. 0) seat v
      one (suc seat) v e live = absurd (some-ne-none v (sym e))
      one zero v e live = subst (Fits (replicate n 0) (λ _. []) (λ _. 0) 0) (some-injective _ _ e) record {
        seen = λ j. (blank_fits j _ (first_seen n j)).0;
        owned = λ j k is. let h = (blank_fits j _ (first_seen n j)).1 k is in (refl, h.0, zeros n j ∙ h.1);
        earlier = λ m ps j e. absurd (some-ne-none ps (sym e));
      }

  pub seen_opened : (starts : List (List I)) (k : ℕ) → seen_at (opened starts) k ≡ get_or starts k []
  seen_opened [] k = refl
  seen_opened (x ∷ xs) zero = refl
  seen_opened (x ∷ xs) (suc k) = seen_opened xs k

  pub number_opened : (starts : List (List I)) (k : ℕ) → k < length starts → number_at (opened starts) k ≡ Some 0
  number_opened [] k h = absurd (omega arith)
  number_opened (x ∷ xs) zero h = refl
  number_opened (x ∷ xs) (suc k) h = number_opened xs k (omega arith)

  number_within : (starts : List (List I)) (k x : ℕ) → number_at (opened starts) k ≡ Some x → (k < length starts) × (0 ≡ x)
  number_within [] k x e = absurd (cc e)
  number_within (y ∷ ys) zero x e = (omega arith, cc e)
  number_within (y ∷ ys) (suc k) x e = let h = number_within ys k x e in (let l = h.0 in omega arith, h.1)

  pub opens : (slots id : ℕ) (me : Me (Unit {0}) (View I)) (starts : List (List I)) → me.0 ≡ first_view (length starts) → Allows (IsTied (length starts)) slots id me 0 (λ k. k) (λ found w. (w.0 ≡ opened starts) × (w.1 ≡ me.1))
  opens slots id me starts is s tied len at small =
      let mine = tied.fits id me.0 at (ap (λ (v : View I). v.live) is) in
      let w : View I = opened starts in
      let same : set s.words 0 (get_or s.words 0 0) ≡ s.words = set-get_or s.words 0 0 in
      let logs : ℕ → List I = λ k. tied.logs k ++ get_or starts k [] in
      let own : (k : ℕ) → k < length starts → (tied.owner k ≡ id) × (tied.logs k ≡ []) × (get_or s.words k 0 ≡ 0) = λ k lt.
      let p : page_of me.0.pages k ≡ page (Some 0) [] = ap (λ (v : View I). page_of v.pages k) is ∙ L.get_or-replicate (length starts) k (page (Some 0) []) blank lt in
      let h = mine.owned k 0 (ap (λ (q : Page I). q.number) p) in
      (h.0, sym h.1 ∙ ap (λ (q : Page I). q.seen) p, h.2) in
      let past : (k : ℕ) → (k < length starts → ⊥) → get_or starts k [] ≡ [] = λ k out. past_end starts k out in (
        w,
        keeps,
        tt,
        record {
          logs = logs;
          owner = tied.owner;
          wide = ap length same ∙ tied.wide;
          fits = fits_set (set s.words 0 (get_or s.words 0 0)) logs tied.owner s.views id w
              (λ i u apart e l.
              let theirs = tied.fits i u e l in
              subst (λ ws. Fits ws logs tied.owner i u) (sym same) record {
                seen = λ k. prefix_trans _ _ _ (theirs.seen k) (prefix_more _ _);
                owned = λ k x number.
                    let o = theirs.owned k x number in
                    (o.0, o.1 ∙ (sym (append-nil (tied.logs k)) ∙ ap (λ l. tied.logs k ++ l) (sym (past k (λ lt. apart (sym o.0 ∙ (own k lt).0))))), o.2);
                earlier = theirs.earlier;
              })
              (λ l. subst (λ ws. Fits ws logs tied.owner id w) (sym same) record {
                seen = λ k. subst (λ (xs : List I). IsPrefix xs (logs k)) (sym (seen_opened starts k)) (starts_seen (length starts) k (tied.logs k) (get_or starts k []) (λ lt. (own k lt).1) (past k));
                owned = λ k x number.
                    let n = number_within starts k x number in
                    let o = own k n.0 in
                    (o.0, seen_opened starts k ∙ ap (λ l. l ++ get_or starts k []) (sym o.1), o.2 ∙ n.1);
                earlier = λ m ps k e. absurd (some-ne-none ps (sym e));
              });
          held = λ k lt. owner_set s.views id me.0 w (tied.owner k) k at refl (λ _. ap is_some (number_opened starts k lt)) (tied.held k lt);
        },
        (refl, refl),
      )
    where
      past_end : (xs : List (List I)) (k : ℕ) → (k < length xs → ⊥) → get_or xs k [] ≡ []
      past_end [] k out = refl
      past_end (x ∷ xs) zero out = absurd (out (omega arith))
      past_end (x ∷ xs) (suc k) out = past_end xs k (λ lt. out (omega arith))

      starts_seen : (n k : ℕ) (log xs : List I) → (k < n → log ≡ []) → ((k < n → ⊥) → xs ≡ []) → IsPrefix xs (log ++ xs)
      starts_seen n k log xs here past = dite (dec_le (suc k) n)
          (λ le. subst (λ (l : List I). IsPrefix xs (l ++ xs)) (sym (here (omega arith))) (prefix_self xs))
          (λ out. subst (λ (l : List I). IsPrefix l (log ++ l)) (sym (past (λ lt. out (omega arith)))) (log ++ [], refl))
