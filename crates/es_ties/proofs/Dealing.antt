-- Handing out a pen keeps the rule.
use Rattle.std.proofs.Common.{◌≡◌, ◌≢◌, ◌⊎◌, ℕ, zero, suc, ◌<◌, Some, None, true, false, cond, eqb, List, [], ◌∷◌, ◌++◌, map, length, set, get_or, refl, sym, ap, ◌∙◌, subst, ⊎_elim, inl, inr, arith, eq-eqb, ne_eqb, get_or-set_other, get_or-set_same, length-set}
use Rattle.std.proofs.lemmas.List.{length-map}
use Rattle.std.proofs.Math.ListN as L
use mathlib.Core.Option.{some, some-ne-none, some-injective}
use mathlib.Core.List.{IsPrefix}
use mathlib.Core.Logic.{dite}
use native.Mathlib.Decide.{ℕ_discrete}
use lib.ListN.{get_elem?}
use Rattle.atomic_table.specs.Table.{Splits}
use Rattle.atomic_table.specs.Seated.{TableId}
use Rattle.atomic_table.specs.declared.shared.Seat.{Seat}
use Rattle.atomic_table.proofs.Lists.{at_last}
use Rattle.es_ties.specs.declared.view.Page.{Page}
use Rattle.es_ties.specs.declared.view.View.{View}
use Rattle.es_ties.specs.Views.{blank, page_of, seen_at, number_at, is_some, owns_at, copied, kept_of, dealt_of}
use Rattle.es_ties.specs.Ties.{Fits, IsOwner, IsTied}
use Rattle.es_ties.specs.Seats.{IsDealer}
use Rattle.es_ties.proofs.Owners.{off, some_of, in_range, fits_set, owner_set, owner_more}
use Rattle.es_ties.proofs.SeenLemmas.{same_seen, kept_seen, dealt_seen}

at_end : {A : Type 0} (l : List A) (a b : A) (j : ℕ) → get_elem? (l ++ a ∷ []) j ≡ some b → (get_elem? l j ≡ some b) ⊎ ((j ≡ length l) × (a ≡ b))
at_end [] a b zero e = inr (refl, some-injective a b e)
at_end [] a b (suc j) e = absurd (some-ne-none b (sym e))
at_end (x ∷ xs) a b zero e = inl e
at_end (x ∷ xs) a b (suc j) e = ⊎_elim inl (λ t. inr (ap suc t.0, t.1)) (at_end xs a b j e)

module _ {I : Type 0} where
  -- what a dealing leaves
  kept_page : (v : View I) → owns_at v v.dealt ≡ true → page_of (kept_of v).pages v.dealt ≡ copied (page_of v.pages v.dealt)
  kept_page v own = get_or-set_same v.pages v.dealt (copied (page_of v.pages v.dealt)) blank (in_range v.pages v.dealt own)

  kept_other : (v : View I) (k : ℕ) → k ≢ v.dealt → page_of (kept_of v).pages k ≡ page_of v.pages k
  kept_other v k ne = get_or-set_other v.pages v.dealt k (copied (page_of v.pages v.dealt)) blank ne

  pub kept_owns : (v : View I) (k : ℕ) → k ≢ v.dealt → owns_at (kept_of v) k ≡ owns_at v k
  kept_owns v k ne = ap (λ (p : Page I). is_some p.number) (kept_other v k ne)

  dealt_page : (v : View I) → owns_at v v.dealt ≡ true → page_of (dealt_of v).pages v.dealt ≡ page_of v.pages v.dealt
  dealt_page v own = get_or-set_same (map copied v.pages) v.dealt (page_of v.pages v.dealt) blank (subst (λ (m : ℕ). v.dealt < m) (sym (length-map v.pages copied)) (in_range v.pages v.dealt own))

  dealt_other : (v : View I) (k : ℕ) → k ≢ v.dealt → page_of (dealt_of v).pages k ≡ copied (page_of v.pages k)
  dealt_other v k ne = get_or-set_other (map copied v.pages) v.dealt k (page_of v.pages v.dealt) blank ne ∙ L.get_or-map copied v.pages k blank

  pub dealt_owns : (v : View I) → owns_at v v.dealt ≡ true → owns_at (dealt_of v) v.dealt ≡ true
  dealt_owns v own = ap (λ (p : Page I). is_some p.number) (dealt_page v own) ∙ own

  pub dealt_only : (v : View I) (k : ℕ) → k ≢ v.dealt → owns_at (dealt_of v) k ≡ false
  dealt_only v k ne = ap (λ (p : Page I). is_some p.number) (dealt_other v k ne)

  pub deals : (n id : ℕ) (v : View I) → v.live ≡ true → v.earlier ≡ [] → owns_at v v.dealt ≡ true → Splits (IsTied n) id v (kept_of v) (dealt_of v)
  deals n id v live fresh own s tied at =
      let mine = tied.fits id v at live in
      let d = v.dealt in
      let new = length s.views in
      let got = some_of (number_at v d) own in
      let owned = mine.owned d got.0 got.1 in
      let owner : ℕ → ℕ = λ k. cond (eqb k d) new (tied.owner k) in
      record {
        logs = tied.logs;
        owner = owner;
        wide = tied.wide;
        fits = λ j u e l. ⊎_elim
            (λ was. fits_set s.words tied.logs owner s.views id (kept_of v)
            (λ i x apart at' l'.
            let theirs = tied.fits i x at' l' in
            record {
              seen = theirs.seen;
              owned = λ k y is.
                  let o = theirs.owned k y is in
                  let ne : k ≢ d = λ same. apart (sym o.0 ∙ (ap tied.owner same ∙ owned.0)) in
                  (ap (λ b. cond b new (tied.owner k)) (ne_eqb k d ne) ∙ o.0, o.1, o.2);
              earlier = theirs.earlier;
            })
            (λ _. kept_fits s.words tied.logs tied.owner owner mine (λ k ne. ap (λ b. cond b new (tied.owner k)) (ne_eqb k d ne)))
            j u was l)
            (λ (t : (j ≡ length (set s.views id (kept_of v))) × (dealt_of v ≡ u)).
            subst (λ (y : ℕ × View I). Fits s.words tied.logs owner y.0 y.1) (λ r. (sym (t.0 ∙ length-set s.views id (kept_of v)) r, t.1 r))
            (dealt_fits s.words tied.logs owner new mine.seen (ap (λ b. cond b new (tied.owner d)) (eq-eqb d d refl)) (λ k e. (mine.owned d k e).1) (λ k e. (mine.owned d k e).2)))
            (at_end (set s.views id (kept_of v)) (dealt_of v) u j e);
        held = λ k lt. dite (ℕ_discrete k d)
            (λ e. subst (λ (x : ℕ × ℕ). IsOwner (set s.views id (kept_of v) ++ dealt_of v ∷ []) x.0 x.1) (λ r. (sym (ap (λ b. cond b new (tied.owner k)) (eq-eqb k d e)) r, sym e r)) record {
              view = dealt_of v;
              there = at_last (set s.views id (kept_of v)) (dealt_of v) new (length-set s.views id (kept_of v));
              live = refl;
              owns = dealt_owns v own;
            })
            (λ ne. subst (λ (x : ℕ). IsOwner (set s.views id (kept_of v) ++ dealt_of v ∷ []) x k) (sym (ap (λ b. cond b new (tied.owner k)) (ne_eqb k d ne)))
            (owner_more (set s.views id (kept_of v)) _ (tied.owner k) k (owner_set s.views id v (kept_of v) (tied.owner k) k at live (λ o. kept_owns v k ne ∙ o) (tied.held k lt))));
      }
    where
      kept_fits : (words : List ℕ) (logs : ℕ → List I) (before owner : ℕ → ℕ) → Fits words logs before id v → ((k : ℕ) → k ≢ v.dealt → owner k ≡ before k) → Fits words logs owner id (kept_of v)
      kept_fits words logs before owner mine same = record {
        seen = λ k. subst (λ l. IsPrefix l (logs k)) (sym (same_seen v (kept_of v) (kept_seen v) k)) (mine.seen k);
        owned = λ k x is. dite (ℕ_discrete k v.dealt)
            (λ e. absurd (off (ap is_some (sym (subst (λ (y : ℕ). number_at (kept_of v) y ≡ None) (sym e) (ap (λ (p : Page I). p.number) (kept_page v own))) ∙ is))))
            (λ ne.
            let o = mine.owned k x (sym (ap (λ (p : Page I). p.number) (kept_other v k ne)) ∙ is) in
            (same k ne ∙ o.0, same_seen v (kept_of v) (kept_seen v) k ∙ o.1, o.2));
        earlier = λ m ps k e. absurd (some-ne-none ps (sym (sym (ap (λ es. get_elem? es m) fresh) ∙ e)));
      }

      dealt_fits : (words : List ℕ) (logs : ℕ → List I) (owner : ℕ → ℕ) (seat : ℕ) → ((k : ℕ) → IsPrefix (seen_at v k) (logs k)) → owner v.dealt ≡ seat
          → ((x : ℕ) → number_at v v.dealt ≡ Some x → seen_at v v.dealt ≡ logs v.dealt) → ((x : ℕ) → number_at v v.dealt ≡ Some x → get_or words v.dealt 0 ≡ x)
          → Fits words logs owner seat (dealt_of v)
      dealt_fits words logs owner seat seen mine whole word = record {
        seen = λ k. subst (λ l. IsPrefix l (logs k)) (sym (same_seen v (dealt_of v) (dealt_seen v) k)) (seen k);
        owned = λ k x is. dite (ℕ_discrete k v.dealt)
            (λ e. subst (λ (y : ℕ). number_at (dealt_of v) y ≡ Some x → (owner y ≡ seat) × (seen_at (dealt_of v) y ≡ logs y) × (get_or words y 0 ≡ x)) (sym e)
            (λ is'. let n = sym (ap (λ (p : Page I). p.number) (dealt_page v own)) ∙ is' in (mine, same_seen v (dealt_of v) (dealt_seen v) v.dealt ∙ whole x n, word x n)) is)
            (λ ne. absurd (off (ap is_some (sym (ap (λ (p : Page I). p.number) (dealt_other v k ne)) ∙ is))));
        earlier = λ m ps k e. absurd (some-ne-none ps (sym e));
      }

  pub next_owned : (ties : TableId) (starts : List (List I)) (k : ℕ) (s : Seat (Unit {0}) (View I)) → IsDealer ties starts k s → k < length starts → owns_at s.me.0 s.me.0.dealt ≡ true
  next_owned ties starts k s d lt = subst (λ (j : ℕ). owns_at s.me.0 j ≡ true) (sym d.dealt) (d.owns k (omega arith) lt)
