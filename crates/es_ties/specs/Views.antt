-- What one seat of the table knows: of each log, what it has seen, and a number where it owns the log.
use Rattle.std.specs.Prelude.{ℕ, ◌+◌, Option, Some, None, Bool, true, false, List, [], ◌∷◌, map, replicate, slice_index_or, slice_set}
use Rattle.es_ties.specs.declared.view.Page.{Page}
use Rattle.es_ties.specs.declared.view.View.{View}

abbrev pub is_some : Option ℕ → Bool
is_some None = false
is_some (Some k) = true

module _ {I : Type 0} where
  abbrev pub page : Option ℕ → List I → Page I
  page n xs = record { number = n; seen = xs }

  abbrev pub blank : Page I
  blank = page None []

  abbrev pub page_of : List (Page I) → ℕ → Page I
  page_of ps j = slice_index_or ps j blank

  -- what was seen of the log j
  abbrev pub seen_at : View I → ℕ → List I
  seen_at v j = (page_of v.pages j).seen

  -- what was seen of each log
  abbrev pub seen_of : View I → List (List I)
  seen_of v = map (λ (p : Page I). p.seen) v.pages

  abbrev pub number_at : View I → ℕ → Option ℕ
  number_at v j = (page_of v.pages j).number

  abbrev pub owns_at : View I → ℕ → Bool
  owns_at v j = is_some (number_at v j)

  -- a live view that knows these pages
  abbrev pub knower : List (Page I) → View I
  knower ps = record { live = true; dealt = 0; pages = ps; earlier = [] }

  -- it owns n empty logs
  abbrev pub first_view : ℕ → View I
  first_view n = knower (replicate n (page (Some 0) []))

  -- it owns all logs, and has seen their starts
  abbrev pub opened : List (List I) → View I
  opened starts = knower (map (page (Some 0)) starts)

  abbrev pub spent : View I
  spent = record { live = false; dealt = 0; pages = []; earlier = [] }

  -- what was seen, without the ownership
  abbrev pub copied : Page I → Page I
  copied p = page None p.seen

  abbrev pub copy_of : View I → View I
  copy_of v = knower (map copied v.pages)

  -- all has been seen as before, and the log that was to be dealt is owned no more
  abbrev pub kept_of : View I → View I
  kept_of v = record { live = v.live; dealt = v.dealt + 1; pages = slice_set v.pages v.dealt (copied (page_of v.pages v.dealt)); earlier = v.earlier }

  -- all has been seen, and the log that was to be dealt is owned
  abbrev pub dealt_of : View I → View I
  dealt_of v = knower (slice_set (map copied v.pages) v.dealt (page_of v.pages v.dealt))

  abbrev pub longer : List I → List I → List I
  longer [] ys = ys
  longer (x ∷ xs) [] = x ∷ xs
  longer (x ∷ xs) (y ∷ ys) = x ∷ longer xs ys

  -- the owner's list where one of the two owns the log, else the longer one
  abbrev pub both_pages : Option ℕ → List I → Option ℕ → List I → Page I
  both_pages (Some k) xs m ys = page (Some k) xs
  both_pages None xs (Some k) ys = page (Some k) ys
  both_pages None xs None ys = page None (longer xs ys)

  abbrev pub both_lists : List (Page I) → List (Page I) → List (Page I)
  both_lists [] qs = qs
  both_lists (p ∷ ps) [] = p ∷ ps
  both_lists (p ∷ ps) (q ∷ qs) = both_pages p.number p.seen q.number q.seen ∷ both_lists ps qs

  -- all that two views have seen and own, and what each had seen before
  abbrev pub both_of : View I → View I → View I
  both_of v w = record { live = v.live; dealt = v.dealt; pages = both_lists v.pages w.pages; earlier = v.pages ∷ w.pages ∷ [] }
