-- Prefixes of one list.
use Rattle.std.proofs.Common.{◌≡◌, ℕ, Option, Some, None, List, [], ◌∷◌, ◌++◌, refl, ap, sym, ◌∙◌, subst, append_assoc}
use Rattle.std.proofs.lemmas.List.{append-nil}
use mathlib.Core.List.{IsPrefix}
use Rattle.es_ties.specs.Views.{longer, both_pages}

module _ {I : Type 0} where
  pub prefix_self : (xs : List I) → IsPrefix xs xs
  prefix_self xs = ([], append-nil xs)

  pub prefix_more : (xs ys : List I) → IsPrefix xs (xs ++ ys)
  prefix_more xs ys = (ys, refl)

  pub prefix_trans : (xs ys zs : List I) → IsPrefix xs ys → IsPrefix ys zs → IsPrefix xs zs
  prefix_trans xs ys zs p q = (p.0 ++ q.0, sym (append_assoc xs p.0 q.0) ∙ (ap (λ w. w ++ q.0) p.1 ∙ q.1))

  pub prefix_is : (xs ys : List I) → xs ≡ ys → IsPrefix xs ys
  prefix_is xs ys e = ([], append-nil xs ∙ e)

  -- what the longer of two prefixes of one list is
  pub record IsBoth (xs ys both all : List I) : Type 0 where
    pub one : IsPrefix xs both
    pub other : IsPrefix ys both
    pub whole : IsPrefix both all

  pub longer_both : (xs ys all : List I) → IsPrefix xs all → IsPrefix ys all → IsBoth xs ys (longer xs ys) all
  longer_both [] ys all p q = record { one = (ys, refl); other = prefix_self ys; whole = q }
  longer_both (x ∷ xs) [] all p q = record { one = prefix_self (x ∷ xs); other = (x ∷ xs, refl); whole = p }
  longer_both (x ∷ xs) (y ∷ ys) [] p q = absurd (cc (p.1))
  longer_both (x ∷ xs) (y ∷ ys) (z ∷ zs) p q =
      let heads : x ≡ y = cc (p.1, q.1) in
      let xz : x ≡ z = cc (p.1) in
      let h = longer_both xs ys zs (p.0, cc (p.1)) (q.0, cc (q.1)) in
      record {
        one = (h.one.0, ap (λ l. x ∷ l) h.one.1);
        other = (h.other.0, cc (heads, h.other.1));
        whole = (h.whole.0, cc (xz, h.whole.1));
      }

  pub both_is : (n m : Option ℕ) (xs ys all : List I) → IsPrefix xs all → IsPrefix ys all → ((k : ℕ) → n ≡ Some k → xs ≡ all) → ((k : ℕ) → m ≡ Some k → ys ≡ all)
      → IsBoth xs ys (both_pages n xs m ys).seen all
  both_is (Some k) m xs ys all p q mine yours = record { one = prefix_self xs; other = subst (IsPrefix ys) (sym (mine k refl)) q; whole = p }
  both_is None (Some k) xs ys all p q mine yours = record { one = subst (IsPrefix xs) (sym (yours k refl)) p; other = prefix_self ys; whole = q }
  both_is None None xs ys all p q mine yours = longer_both xs ys all p q
