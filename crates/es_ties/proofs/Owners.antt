-- Who owns a log, and what a seat's new view keeps.
use Rattle.std.proofs.Common.{◌≡◌, ◌≢◌, ℕ, zero, suc, ◌<◌, Option, Some, None, true, false, List, [], ◌∷◌, ◌++◌, length, set, true≢false, refl, sym, ap, ◌∙◌, subst, ⊎_elim, arith}
use mathlib.Core.Option.{some, some-ne-none, some-injective}
use mathlib.Core.Logic.{dite}
use native.Mathlib.Decide.{ℕ_discrete}
use lib.ListN.{get_elem?}
use Rattle.atomic_table.proofs.Lists.{at_set, at_longer, set_else}
use Rattle.es_ties.specs.declared.view.Page.{Page}
use Rattle.es_ties.specs.declared.view.View.{View}
use Rattle.es_ties.specs.Views.{page_of, is_some, owns_at}
use Rattle.es_ties.specs.Ties.{Fits, IsOwner}

pub some_of : (o : Option ℕ) → is_some o ≡ true → (k : ℕ) × (o ≡ Some k)
some_of None e = absurd (true≢false (sym e))
some_of (Some k) e = (k, refl)

pub off : false ≡ true → ⊥
off e = true≢false (sym e)

pub set_there : {A : Type 0} (l : List A) (i : ℕ) (a b : A) → get_elem? l i ≡ some a → get_elem? (set l i b) i ≡ some b
set_there [] i a b e = absurd (some-ne-none a (sym e))
set_there (x ∷ xs) zero a b e = refl
set_there (x ∷ xs) (suc i) a b e = set_there xs i a b e

module _ {I : Type 0} where
  -- a page that is owned stands in the list
  pub in_range : (ps : List (Page I)) (j : ℕ) → is_some (page_of ps j).number ≡ true → j < length ps
  in_range [] j e = absurd (off e)
  in_range (p ∷ ps) zero e = omega arith
  in_range (p ∷ ps) (suc j) e = let h = in_range ps j e in omega arith

  -- a seat's new view, beside the others
  pub fits_set : (words : List ℕ) (logs : ℕ → List I) (owner : ℕ → ℕ) (views : List (View I)) (id : ℕ) (w : View I)
      → ((j : ℕ) (u : View I) → j ≢ id → get_elem? views j ≡ some u → u.live ≡ true → Fits words logs owner j u)
      → (w.live ≡ true → Fits words logs owner id w)
      → (j : ℕ) (u : View I) → get_elem? (set views id w) j ≡ some u → u.live ≡ true → Fits words logs owner j u
  fits_set words logs owner views id w others mine j u e =
      ⊎_elim
      (λ (x : (j ≡ id) × (w ≡ u)). subst (λ (y : ℕ × View I). y.1.live ≡ true → Fits words logs owner y.0 y.1) (λ i. (sym x.0 i, x.1 i)) mine)
      (λ (x : (j ≢ id) × (get_elem? views j ≡ some u)). others j u x.0 x.1)
      (at_set views id j w u e)

  pub owner_else : (views : List (View I)) (id : ℕ) (w : View I) (k j : ℕ) → k ≢ id → IsOwner views k j → IsOwner (set views id w) k j
  owner_else views id w k j ne o = record { view = o.view; there = set_else views id k w ne ∙ o.there; live = o.live; owns = o.owns }

  -- a log keeps its owner where a seat's new view owns what it owned
  pub owner_set : (views : List (View I)) (id : ℕ) (v w : View I) (k j : ℕ) → get_elem? views id ≡ some v → w.live ≡ true → (owns_at v j ≡ true → owns_at w j ≡ true) → IsOwner views k j → IsOwner (set views id w) k j
  owner_set views id v w k j at live keeps o =
      dite (ℕ_discrete k id)
      (λ e.
      let same : o.view ≡ v = some-injective _ _ (sym o.there ∙ (ap (get_elem? views) e ∙ at)) in
      record {
        view = w;
        there = subst (λ (x : ℕ). get_elem? (set views id w) x ≡ some w) (sym e) (set_there views id v w at);
        live = live;
        owns = keeps (subst (λ (u : View I). owns_at u j ≡ true) same o.owns);
      })
      (λ ne. owner_else views id w k j ne o)

  pub owner_more : (views more : List (View I)) (k j : ℕ) → IsOwner views k j → IsOwner (views ++ more) k j
  owner_more views more k j o = record { view = o.view; there = at_longer views more k o.view o.there; live = o.live; owns = o.owns }
