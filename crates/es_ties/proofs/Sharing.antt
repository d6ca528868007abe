-- Copying, joining and the load after a join keep the rule.
use Rattle.std.proofs.Common.{◌≡◌, ◌≢◌, ◌⊎◌, ℕ, zero, suc, Option, Some, None, Bool, true, false, cond, List, [], ◌∷◌, length, set, get_or, refl, sym, ap, ◌∙◌, subst, ⊎_elim, inl, inr}
use Rattle.std.proofs.lemmas.List.{set-get_or}
use Rattle.std.proofs.Math.ListN as L
use mathlib.Core.Option.{some, some-ne-none, some-injective}
use mathlib.Core.List.{IsPrefix}
use lib.ListN.{get_elem?}
use Rattle.atomic_table.specs.Table.{Me, Allows, Splits, Joins, keeps}
use Rattle.atomic_table.proofs.Lists.{at_set, at_snoc, set_again, set_else}
use Rattle.es_ties.specs.declared.view.Page.{Page}
use Rattle.es_ties.specs.declared.view.View.{View}
use Rattle.es_ties.specs.Views.{page, blank, page_of, seen_at, number_at, is_some, owns_at, copied, copy_of, both_pages, both_lists, both_of, spent}
use Rattle.es_ties.specs.Ties.{Fits, IsOwner, IsTied}
use Rattle.es_ties.specs.Steps.{Tells, Joined}
use Rattle.es_ties.proofs.Prefixes.{IsBoth, both_is}
use Rattle.es_ties.proofs.Owners.{some_of, off, set_there, fits_set, owner_set, owner_else, owner_more}

module _ {I : Type 0} where
  pub page-both_lists : (ps qs : List (Page I)) (j : ℕ) → page_of (both_lists ps qs) j ≡ both_pages (page_of ps j).number (page_of ps j).seen (page_of qs j).number (page_of qs j).seen
  page-both_lists [] qs j = none_left (page_of qs j).number (page_of qs j).seen
    where
      none_left : (n : Option ℕ) (xs : List I) → page n xs ≡ both_pages None [] n xs
      none_left None xs = refl
      none_left (Some k) xs = refl
  page-both_lists (p ∷ ps) [] j = none_right (page_of (p ∷ ps) j).number (page_of (p ∷ ps) j).seen
    where
      none_right : (n : Option ℕ) (xs : List I) → page n xs ≡ both_pages n xs None []
      none_right None [] = refl
      none_right None (x ∷ xs) = refl
      none_right (Some k) xs = refl
  page-both_lists (p ∷ ps) (q ∷ qs) zero = refl
  page-both_lists (p ∷ ps) (q ∷ qs) (suc j) = page-both_lists ps qs j

  pub settles : (n slots id : ℕ) (me : Me (Unit {0}) (View I)) → me.0.live ≡ true → Allows (IsTied n) slots id me 0 (λ k. k) (λ found w. Tells me.0 w.0 × (w.1 ≡ me.1))
  settles n slots id me live s tied len at small =
      let v = me.0 in
      let mine = tied.fits id v at live in
      let w : View I = record v { earlier = [] } in
      let same : set s.words 0 (get_or s.words 0 0) ≡ s.words = set-get_or s.words 0 0 in (
        w,
        keeps,
        tt,
        record {
          logs = tied.logs;
          owner = tied.owner;
          wide = ap length same ∙ tied.wide;
          fits = fits_set (set s.words 0 (get_or s.words 0 0)) tied.logs tied.owner s.views id w
              (λ j u apart e l. subst (λ ws. Fits ws tied.logs tied.owner j u) (sym same) (tied.fits j u e l))
              (λ l. subst (λ ws. Fits ws tied.logs tied.owner id w) (sym same) record { seen = mine.seen; owned = mine.owned; earlier = λ m ps j e. absurd (some-ne-none ps (sym e)) });
          held = λ j lt. owner_set s.views id v w (tied.owner j) j at live (λ o. o) (tied.held j lt);
        },
        ((refl, mine.earlier), refl),
      )

  pub copies : (n id : ℕ) (v : View I) → v.live ≡ true → Splits (IsTied n) id v v (copy_of v)
  copies n id v live s tied at =
      let mine = tied.fits id v at live in
      record {
        logs = tied.logs;
        owner = tied.owner;
        wide = tied.wide;
        fits = λ j u e l. ⊎_elim
            (λ was. tied.fits j u (subst (λ vs. get_elem? vs j ≡ some u) (set_again s.views id v at) was) l)
            (λ (same : copy_of v ≡ u). subst (Fits s.words tied.logs tied.owner j) same (new_fits s.words tied.logs tied.owner j mine.seen))
            (at_snoc (set s.views id v) (copy_of v) u j e);
        held = λ j lt. owner_more (set s.views id v) _ (tied.owner j) j (owner_set s.views id v v (tied.owner j) j at live (λ o. o) (tied.held j lt));
      }
    where
      page-copied : (j : ℕ) → page_of (copy_of v).pages j ≡ copied (page_of v.pages j)
      page-copied j = L.get_or-map copied v.pages j blank

      new_fits : (words : List ℕ) (logs : ℕ → List I) (owner : ℕ → ℕ) (seat : ℕ) → ((j : ℕ) → IsPrefix (seen_at v j) (logs j)) → Fits words logs owner seat (copy_of v)
      new_fits words logs owner seat seen = record {
        seen = λ j. subst (λ (p : Page I). IsPrefix p.seen (logs j)) (sym (page-copied j)) (seen j);
        owned = λ j k e. absurd (off (ap is_some (sym (ap (λ (p : Page I). p.number) (page-copied j)) ∙ e)));
        earlier = λ m ps j e. absurd (some-ne-none ps (sym e));
      }

  -- both own what one of them owns
  pub both_owned : (v w : View I) (j : ℕ) → (owns_at v j ≡ true) ⊎ (owns_at w j ≡ true) → owns_at (both_of v w) j ≡ true
  both_owned v w j own = ap (λ (p : Page I). is_some p.number) (page-both_lists v.pages w.pages j) ∙ at (number_at v j) (number_at w j) (seen_at v j) (seen_at w j) own
    where
      at : (n m : Option ℕ) (xs ys : List I) → (is_some n ≡ true) ⊎ (is_some m ≡ true) → is_some (both_pages n xs m ys).number ≡ true
      at (Some k) m xs ys own = refl
      at None (Some k) xs ys own = refl
      at None None xs ys own = absurd (⊎_elim off off own)

  pub joins : (n id : ℕ) (v : View I) (other : ℕ) (w : View I) → v.live ≡ true → w.live ≡ true → Joins (IsTied n) id v other w (both_of v w) spent
  joins n id v other w vlive wlive s tied at apart there =
      let both = both_of v w in
      let there' : get_elem? s.views other ≡ some w = sym (set_else s.views id other both apart) ∙ there in
      let mine = tied.fits id v at vlive in
      let yours = tied.fits other w there' wlive in
      let owner : ℕ → ℕ = λ j. cond (owns_at w j) id (tied.owner j) in
      let is_both : (j : ℕ) → IsBoth (seen_at v j) (seen_at w j) (seen_at both j) (tied.logs j) = λ j.
      subst (λ (p : Page I). IsBoth (seen_at v j) (seen_at w j) p.seen (tied.logs j)) (sym (page-both_lists v.pages w.pages j))
      (both_is (number_at v j) (number_at w j) (seen_at v j) (seen_at w j) (tied.logs j) (mine.seen j) (yours.seen j) (λ k e. (mine.owned j k e).1) (λ k e. (yours.owned j k e).1)) in
      let here : Fits s.words tied.logs owner id both = record {
        seen = λ j. (is_both j).whole;
        owned = λ j k e. subst (λ (p : Page I). p.number ≡ Some k → (owner j ≡ id) × (p.seen ≡ tied.logs j) × (get_or s.words j 0 ≡ k)) (sym (page-both_lists v.pages w.pages j))
            (owned_both s.words tied.logs tied.owner j k (number_at v j) (number_at w j) (seen_at v j) (seen_at w j) (mine.owned j k) (yours.owned j k)) e;
        earlier = λ m ps j e. earlier_both m ps j (is_both j) e;
      } in
      record {
        logs = tied.logs;
        owner = owner;
        wide = tied.wide;
        fits = fits_set s.words tied.logs owner (set s.views id both) other spent
            (λ i u ne e l. ⊎_elim
            (λ (x : (i ≡ id) × (both ≡ u)). subst (λ (y : ℕ × View I). Fits s.words tied.logs owner y.0 y.1) (λ r. (sym x.0 r, x.1 r)) here)
            (λ (x : (i ≢ id) × (get_elem? s.views i ≡ some u)).
            let theirs = tied.fits i u x.1 l in
            record {
              seen = theirs.seen;
              owned = λ j k is.
                  let o = theirs.owned j k is in
                  (keeps_owner tied.owner j i (owns_at w j) refl (λ k' e'. (yours.owned j k' e').0) ne o.0, o.1, o.2);
              earlier = theirs.earlier;
            })
            (at_set s.views id i both u e))
            (λ dead. absurd (off dead));
        held = λ j lt. held_both s.views (tied.owner j) j (owns_at w j) refl at apart there' (tied.held j lt);
      }
    where
      held_both : (views : List (View I)) (k j : ℕ) (b : Bool) → owns_at w j ≡ b → get_elem? views id ≡ some v → ¬ (other ≡ id) → get_elem? views other ≡ some w → IsOwner views k j → IsOwner (set (set views id (both_of v w)) other spent) (cond b id k) j
      held_both views k j true is at apart there o = owner_else (set views id (both_of v w)) other spent id j (λ e. apart (sym e)) record {
        view = both_of v w;
        there = set_there views id v (both_of v w) at;
        live = vlive;
        owns = both_owned v w j (inr is);
      }
      held_both views k j false is at apart there o =
          owner_else (set views id (both_of v w)) other spent k j
          (λ e. off (sym is ∙ subst (λ (u : View I). owns_at u j ≡ true) (some-injective _ _ (sym o.there ∙ (ap (get_elem? views) e ∙ there))) o.owns))
          (owner_set views id v (both_of v w) k j at vlive (λ own. both_owned v w j (inl own)) o)

      keeps_owner : (owner : ℕ → ℕ) (j i : ℕ) (b : Bool) → owns_at w j ≡ b → ((k : ℕ) → number_at w j ≡ Some k → owner j ≡ other) → i ≢ other → owner j ≡ i → cond b id (owner j) ≡ i
      keeps_owner owner j i true is theirs ne o = let got = some_of (number_at w j) is in absurd (ne (sym o ∙ theirs got.0 got.1))
      keeps_owner owner j i false is theirs ne o = o

      owned_both : (words : List ℕ) (logs : ℕ → List I) (owner : ℕ → ℕ) (j k : ℕ) (a b : Option ℕ) (xs ys : List I)
          → (a ≡ Some k → (owner j ≡ id) × (xs ≡ logs j) × (get_or words j 0 ≡ k))
          → (b ≡ Some k → (owner j ≡ other) × (ys ≡ logs j) × (get_or words j 0 ≡ k))
          → (both_pages a xs b ys).number ≡ Some k → (cond (is_some b) id (owner j) ≡ id) × ((both_pages a xs b ys).seen ≡ logs j) × (get_or words j 0 ≡ k)
      owned_both words logs owner j k (Some x) None xs ys f g e = f e
      owned_both words logs owner j k (Some x) (Some y) xs ys f g e = let h = f e in (refl, h.1, h.2)
      owned_both words logs owner j k None (Some y) xs ys f g e = let h = g e in (refl, h.1, h.2)
      owned_both words logs owner j k None None xs ys f g e = absurd (cc e)

      earlier_both : (m : ℕ) (ps : List (Page I)) (j : ℕ) {all : List I} → IsBoth (seen_at v j) (seen_at w j) (seen_at (both_of v w) j) all → get_elem? (both_of v w).earlier m ≡ some ps → IsPrefix (page_of ps j).seen (seen_at (both_of v w) j)
      earlier_both zero ps j h e = subst (λ (qs : List (Page I)). IsPrefix (page_of qs j).seen (seen_at (both_of v w) j)) (some-injective _ _ e) h.one
      earlier_both (suc zero) ps j h e = subst (λ (qs : List (Page I)). IsPrefix (page_of qs j).seen (seen_at (both_of v w) j)) (some-injective _ _ e) h.other
      earlier_both (suc (suc m)) ps j h e = absurd (some-ne-none ps (sym e))

  pub both_owns : (v w u : View I) (j : ℕ) → u.pages ≡ both_lists v.pages w.pages → owns_at w j ≡ false → owns_at u j ≡ owns_at v j
  both_owns v w u j is none = ap (λ (ps : List (Page I)). is_some (page_of ps j).number) is ∙ (ap (λ (p : Page I). is_some p.number) (page-both_lists v.pages w.pages j) ∙ at (number_at v j) (number_at w j) (seen_at v j) (seen_at w j) none)
    where
      at : (n m : Option ℕ) (xs ys : List I) → is_some m ≡ false → is_some (both_pages n xs m ys).number ≡ is_some n
      at (Some k) m xs ys e = refl
      at None None xs ys e = refl
      at None (Some k) xs ys e = absurd (off (sym e))

  pub both_own : (v w u : View I) (j : ℕ) → u.pages ≡ both_lists v.pages w.pages → owns_at v j ≡ true → seen_at u j ≡ seen_at v j
  both_own v w u j is own = ap (λ (ps : List (Page I)). (page_of ps j).seen) is ∙ (ap (λ (p : Page I). p.seen) (page-both_lists v.pages w.pages j) ∙ at (number_at v j) (number_at w j) (seen_at v j) (seen_at w j) own)
    where
      at : (n m : Option ℕ) (xs ys : List I) → is_some n ≡ true → (both_pages n xs m ys).seen ≡ xs
      at (Some k) m xs ys e = refl
      at None m xs ys e = absurd (off e)

  pub copy_none : (v : View I) (j : ℕ) → owns_at (copy_of v) j ≡ false
  copy_none v j = ap (λ (p : Page I). is_some p.number) (L.get_or-map copied v.pages j blank)

  pub copy_seen : (v : View I) (j : ℕ) → seen_at (copy_of v) j ≡ seen_at v j
  copy_seen v j = ap (λ (p : Page I). p.seen) (L.get_or-map copied v.pages j blank)

  pub joined : (v w t u : View I) → t ≡ both_of v w → Tells t u → Joined v w u
  joined v w t u is tells =
      let pages : u.pages ≡ both_lists v.pages w.pages = ap (λ (x : View I). x.pages) tells.0 ∙ ap (λ (x : View I). x.pages) is in
      let earlier : t.earlier ≡ v.pages ∷ w.pages ∷ [] = ap (λ (x : View I). x.earlier) is in
      let same : (j : ℕ) → seen_at t j ≡ seen_at u j = λ j. sym (ap (λ (x : View I). seen_at x j) tells.0) in
      record {
        pages = pages;
        one = λ j. subst (IsPrefix (seen_at v j)) (same j) (tells.1 0 v.pages j (ap (λ (e : List (List (Page I))). get_elem? e 0) earlier));
        other = λ j. subst (IsPrefix (seen_at w j)) (same j) (tells.1 1 w.pages j (ap (λ (e : List (List (Page I))). get_elem? e 1) earlier));
      }
