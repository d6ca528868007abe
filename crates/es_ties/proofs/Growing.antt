-- An append keeps the rule.
use Rattle.std.proofs.Common.{◌≡◌, ◌≢◌, ℕ, ◌+◌, ◌%◌, ◌^◌, ◌<◌, Option, Some, true, cond, eqb, List, ◌++◌, set, get_or, refl, sym, ap, ◌∙◌, subst, eq-eqb, ne_eqb, get_or-set_other, get_or-set_same, length-set}
use mathlib.Core.List.{IsPrefix}
use mathlib.Core.Logic.{dite}
use native.Mathlib.Decide.{ℕ_discrete}
use Rattle.atomic_table.specs.Table.{Me, Allows, keeps}
use Rattle.es_ties.specs.declared.view.Page.{Page}
use Rattle.es_ties.specs.declared.view.View.{View}
use Rattle.es_ties.specs.Views.{page, blank, page_of, seen_at, number_at, is_some, owns_at}
use Rattle.es_ties.specs.Ties.{IsTied}
use Rattle.es_ties.specs.Steps.{grown, grown_at, Grows}
use Rattle.es_ties.proofs.Prefixes.{prefix_self, prefix_more, prefix_trans, prefix_is}
use Rattle.es_ties.proofs.Owners.{some_of, in_range, fits_set, owner_set}

module _ {I : Type 0} where
  abbrev bump : (ℕ → List I) → ℕ → List I → ℕ → List I
  bump logs j items k = cond (eqb k j) (logs k ++ items) (logs k)

  bump_cases : (F : List I → Type 0) (logs : ℕ → List I) (j : ℕ) (items : List I) (k : ℕ) → (k ≡ j → F (logs k ++ items)) → (k ≢ j → F (logs k)) → F (bump logs j items k)
  bump_cases F logs j items k hit miss =
      dite (ℕ_discrete k j)
      (λ e. subst (λ b. F (cond b (logs k ++ items) (logs k))) (sym (eq-eqb k j e)) (hit e))
      (λ ne. subst (λ b. F (cond b (logs k ++ items) (logs k))) (sym (ne_eqb k j ne)) (miss ne))

  -- the page of the log that grew, and the others
  pub grown_page : (items : List I) (j k : ℕ) (v w : View I) → Grows items j v w → number_at v j ≡ Some k → page_of w.pages j ≡ page (Some ((k + 1) % 2 ^ 64)) (seen_at v j ++ items)
  grown_page items j k v w is own =
      ap (λ (u : View I). page_of u.pages j) is
      ∙ (get_or-set_same v.pages j (grown items (number_at v j) (seen_at v j)) blank (in_range v.pages j (ap is_some own)) ∙ ap (λ (o : Option ℕ). grown items o (seen_at v j)) own)

  pub grown_else : (items : List I) (j k : ℕ) (v w : View I) → Grows items j v w → k ≢ j → page_of w.pages k ≡ page_of v.pages k
  grown_else items j k v w is ne = ap (λ (u : View I). page_of u.pages k) is ∙ get_or-set_other v.pages j k (grown items (number_at v j) (seen_at v j)) blank ne

  pub grown_here : (items : List I) (j : ℕ) (v w : View I) → Grows items j v w → owns_at v j ≡ true → seen_at w j ≡ seen_at v j ++ items
  grown_here items j v w is own = let got = some_of (number_at v j) own in ap (λ (p : Page I). p.seen) (grown_page items j got.0 v w is got.1)

  pub grown_owns : (items : List I) (j : ℕ) (v w : View I) → Grows items j v w → owns_at v j ≡ true → owns_at w j ≡ true
  grown_owns items j v w is own = let got = some_of (number_at v j) own in ap (λ (p : Page I). is_some p.number) (grown_page items j got.0 v w is got.1)

  -- what was owned still is
  pub grown_owned : (items : List I) (j k : ℕ) (v w : View I) → Grows items j v w → owns_at v j ≡ true → owns_at v k ≡ true → owns_at w k ≡ true
  grown_owned items j k v w is own o =
      dite (ℕ_discrete k j)
      (λ e. subst (λ (x : ℕ). owns_at w x ≡ true) (sym e) (grown_owns items j v w is own))
      (λ ne. ap (λ (p : Page I). is_some p.number) (grown_else items j k v w is ne) ∙ o)

  -- of each log as much has been seen
  pub grown_kept : (items : List I) (j k : ℕ) (v w : View I) → Grows items j v w → owns_at v j ≡ true → IsPrefix (seen_at v k) (seen_at w k)
  grown_kept items j k v w is own =
      dite (ℕ_discrete k j)
      (λ e. subst (λ (x : ℕ). IsPrefix (seen_at v x) (seen_at w x)) (sym e) (subst (IsPrefix (seen_at v j)) (sym (grown_here items j v w is own)) (prefix_more (seen_at v j) items)))
      (λ ne. prefix_is _ _ (sym (ap (λ (p : Page I). p.seen) (grown_else items j k v w is ne))))

  pub grows : (n slots id : ℕ) (me : Me (Unit {0}) (View I)) (items : List I) (j : ℕ) → j < n → me.0.live ≡ true → owns_at me.0 j ≡ true
      → Allows (IsTied n) slots id me j (λ k. (k + 1) % 2 ^ 64) (λ found w. Grows items j me.0 w.0 × (w.1 ≡ me.1))
  grows n slots id me items j below live own s tied len at small =
      let v = me.0 in
      let mine = tied.fits id v at live in
      let w : View I = record v { pages = grown_at items j v.pages } in
      let got = some_of (number_at v j) own in
      let owned = mine.owned j got.0 got.1 in
      let words : List ℕ = set s.words j ((get_or s.words j 0 + 1) % 2 ^ 64) in
      let logs : ℕ → List I = bump tied.logs j items in
      let here = grown_page items j got.0 v w refl got.1 in
      let elsewhere = λ (k : ℕ) (ne : k ≢ j). grown_else items j k v w refl ne in
      let word_here : get_or words j 0 ≡ (get_or s.words j 0 + 1) % 2 ^ 64 = get_or-set_same s.words j _ 0 (subst (λ x. j < x) (sym tied.wide) below) in
      let rises : (k : ℕ) → IsPrefix (tied.logs k) (logs k) = λ k. bump_cases (IsPrefix (tied.logs k)) tied.logs j items k (λ _. prefix_more _ _) (λ _. prefix_self _) in (
        w,
        keeps,
        tt,
        record {
          logs = logs;
          owner = tied.owner;
          wide = length-set s.words j _ ∙ tied.wide;
          fits = fits_set words logs tied.owner s.views id w
              (λ i u apart e l.
              let theirs = tied.fits i u e l in
              record {
                seen = λ k. prefix_trans _ _ _ (theirs.seen k) (rises k);
                owned = λ k x is.
                    let o = theirs.owned k x is in
                    let ne : k ≢ j = λ same. apart (sym o.0 ∙ (ap tied.owner same ∙ owned.0)) in
                    (o.0, bump_cases (λ l. seen_at u k ≡ l) tied.logs j items k (λ same. absurd (ne same)) (λ _. o.1), get_or-set_other s.words j k _ 0 ne ∙ o.2);
                earlier = theirs.earlier;
              })
              (λ l. record {
                seen = λ k. bump_cases (IsPrefix (seen_at w k)) tied.logs j items k
                    (λ same. prefix_is _ _ (subst (λ (x : ℕ). seen_at w x ≡ tied.logs x ++ items) (sym same) (ap (λ (p : Page I). p.seen) here ∙ ap (λ l. l ++ items) owned.1)))
                    (λ ne. subst (λ (p : Page I). IsPrefix p.seen (tied.logs k)) (sym (elsewhere k ne)) (mine.seen k));
                owned = λ k x is. dite (ℕ_discrete k j)
                    (λ same. subst (λ (z : ℕ). number_at w z ≡ Some x → (tied.owner z ≡ id) × (seen_at w z ≡ logs z) × (get_or words z 0 ≡ x)) (sym same)
                    (λ is'. (
                      owned.0,
                      bump_cases (λ l. seen_at w j ≡ l) tied.logs j items j (λ _. ap (λ (p : Page I). p.seen) here ∙ ap (λ l. l ++ items) owned.1) (λ ne. absurd (ne refl)),
                      word_here ∙ (ap (λ m. (m + 1) % 2 ^ 64) owned.2 ∙ some_is (sym (ap (λ (p : Page I). p.number) here) ∙ is')),
                    )) is)
                    (λ ne.
                    let o = mine.owned k x (sym (ap (λ (p : Page I). p.number) (elsewhere k ne)) ∙ is) in
                    (o.0, bump_cases (λ l. seen_at w k ≡ l) tied.logs j items k (λ same. absurd (ne same)) (λ _. ap (λ (p : Page I). p.seen) (elsewhere k ne) ∙ o.1), get_or-set_other s.words j k _ 0 ne ∙ o.2));
                earlier = λ m ps k e. prefix_trans _ _ _ (mine.earlier m ps k e) (grown_kept items j k v w refl own);
              });
          held = λ k lt. owner_set s.views id v w (tied.owner k) k at live (λ o. grown_owned items j k v w refl own o) (tied.held k lt);
        },
        (refl, refl),
      )
    where
      some_is : {a b : ℕ} → Some a ≡ Some b → a ≡ b
      some_is e = cc e
