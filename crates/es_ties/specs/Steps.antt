-- What the steps tell of the view before and the view after.
use Rattle.std.specs.Prelude.{◌≡◌, ℕ, ◌+◌, ◌%◌, ◌^◌, Option, Some, None, List, [], ◌++◌, slice_set}
use mathlib.Core.Option.{some}
use mathlib.Core.List.{IsPrefix}
use lib.ListN.{get_elem?}
use Rattle.es_ties.specs.declared.view.Page.{Page}
use Rattle.es_ties.specs.declared.view.View.{View}
use Rattle.es_ties.specs.Views.{page, page_of, seen_at, both_lists}

module _ {I : Type 0} where
  -- a page that is owned has these items and one append more
  abbrev pub grown : List I → Option ℕ → List I → Page I
  grown items None xs = page None xs
  grown items (Some k) xs = page (Some ((k + 1) % 2 ^ 64)) (xs ++ items)

  abbrev pub grown_at : List I → ℕ → List (Page I) → List (Page I)
  grown_at items j ps = slice_set ps j (grown items (page_of ps j).number (page_of ps j).seen)

  -- an append to the log j
  abbrev pub Grows : List I → ℕ → View I → View I → Type 0
  Grows items j v w = w ≡ record v { pages = grown_at items j v.pages }

  -- a load after a join: what was seen before is a prefix of what is seen now, and is forgotten
  abbrev pub Tells : View I → View I → Type 0
  Tells v w = (w ≡ record v { earlier = [] }) × ((m : ℕ) (ps : List (Page I)) (j : ℕ) → get_elem? v.earlier m ≡ some ps → IsPrefix (page_of ps j).seen (seen_at v j))

  -- a join of w into v, with the load after it
  pub record Joined (v w u : View I) : Type 0 where
    pub pages : u.pages ≡ both_lists v.pages w.pages
    pub one : (j : ℕ) → IsPrefix (seen_at v j) (seen_at u j)
    pub other : (j : ℕ) → IsPrefix (seen_at w j) (seen_at u j)
