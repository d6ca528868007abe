-- Laws of the items that names are given and lose.
use Rattle.std.proofs.Common.{◌≡◌, ◌∙◌, ℕ, IsTrue, Bool, true, false, List, [], ◌∷◌, ◌++◌, filter, count_by, Option, Some, None, option_map, slice_get, take-append-drop, refl, sym, ap}
use Rattle.std.proofs.lemmas.Slice.Eq.{bytes_eq-Decides}
use Rattle.std.specs.Str.{bytes_eq}
use Rattle.es_model.specs.Values.{Name}
use Rattle.es_model.specs.Rising.{is_before, IsRising, item_of, with_item, without}
use Rattle.es_model.specs.inner.Entries.{has_name}
use Rattle.es_model.proofs.RisingLemmas.{before-trans, unlike, unlike-back, other, IsPlace, place}

pub itself : (name : Name) → bytes_eq name name ≡ true
itself name = (bytes_eq-Decides name name).1 refl

same-name : (a b : Name) → bytes_eq a b ≡ true → a ≡ b
same-name a b is = (bytes_eq-Decides a b).0 is

module _ {A : Type 0} (name : Name) where
  -- what stands in front of a name

  front-step : (b : Bool) (x : Name × A) (xs ys : List (Name × A)) → is_before x.0 name ≡ b → item_of (filter (λ x. is_before x.0 name) xs ++ ys) name ≡ item_of ys name → item_of (filter (λ x. is_before x.0 name) (x ∷ xs) ++ ys) name ≡ item_of ys name
  front-step true x xs ys is rest = rw is (rw (unlike x.0 name is) rest)
  front-step false x xs ys is rest = rw is rest

  item-front : (xs ys : List (Name × A)) → item_of (filter (λ x. is_before x.0 name) xs ++ ys) name ≡ item_of ys name
  item-front [] ys = refl
  item-front (x ∷ xs) ys = front-step (is_before x.0 name) x xs ys refl (item-front xs ys)

  item-here : (item : A) (ys : List (Name × A)) → item_of ((name, item) ∷ ys) name ≡ Some item
  item-here item ys = rw (itself name) refl

  -- the item that a name was given
  pub item-with : (xs : List (Name × A)) (item : A) → item_of (with_item xs name item) name ≡ Some item
  item-with xs item = item-front xs ((name, item) ∷ filter (λ x. is_before name x.0) xs) ∙ item-here item (filter (λ x. is_before name x.0) xs)

  -- what is left without the name

  kept-step : (b : Bool) (x : Name × A) (xs ys : List (Name × A)) → is_before x.0 name ≡ b → without (filter (λ x. is_before x.0 name) xs ++ ys) name ≡ filter (λ x. is_before x.0 name) xs ++ without ys name
      → without (filter (λ x. is_before x.0 name) (x ∷ xs) ++ ys) name ≡ filter (λ x. is_before x.0 name) (x ∷ xs) ++ without ys name
  kept-step true x xs ys is rest = rw is (rw (unlike x.0 name is) (ap (λ (zs : List (Name × A)). x ∷ zs) rest))
  kept-step false x xs ys is rest = rw is rest

  kept-front : (xs ys : List (Name × A)) → without (filter (λ x. is_before x.0 name) xs ++ ys) name ≡ filter (λ x. is_before x.0 name) xs ++ without ys name
  kept-front [] ys = refl
  kept-front (x ∷ xs) ys = kept-step (is_before x.0 name) x xs ys refl (kept-front xs ys)

  behind-step : (b : Bool) (x : Name × A) (xs : List (Name × A)) → is_before name x.0 ≡ b → without (filter (λ x. is_before name x.0) xs) name ≡ filter (λ x. is_before name x.0) xs → without (filter (λ x. is_before name x.0) (x ∷ xs)) name ≡ filter (λ x. is_before name x.0) (x ∷ xs)
  behind-step true x xs is rest = rw is (rw (unlike-back x.0 name is) (ap (λ (zs : List (Name × A)). x ∷ zs) rest))
  behind-step false x xs is rest = rw is rest

  kept-behind : (xs : List (Name × A)) → without (filter (λ x. is_before name x.0) xs) name ≡ filter (λ x. is_before name x.0) xs
  kept-behind [] = refl
  kept-behind (x ∷ xs) = behind-step (is_before name x.0) x xs refl (kept-behind xs)

  gone-here : (item : A) (ys : List (Name × A)) → without ((name, item) ∷ ys) name ≡ without ys name
  gone-here item ys = rw (itself name) refl

  some-item : (o : Option (Name × A)) → has_name o name ≡ true → option_map (λ x. x.1) o ≡ None → ⊥
  some-item None there none = cc
  some-item (Some x) there none = cc

  parts : (n : ℕ) (xs : List (Name × A)) → IsPlace n xs name → item_of xs name ≡ None → (b : Bool) → has_name (slice_get xs n) name ≡ b → filter (λ x. is_before x.0 name) xs ++ filter (λ x. is_before name x.0) xs ≡ xs
  parts n xs p none true there = absurd (some-item (slice_get xs n) there (sym (p.some there) ∙ none))
  parts n xs p none false absent = (λ i. sym p.front i ++ sym (p.behind absent) i) ∙ take-append-drop n xs

  -- a name that wasn't there is given an item, and loses it
  pub without-with : (xs : List (Name × A)) (item : A) → IsRising xs → item_of xs name ≡ None → without (with_item xs name item) name ≡ xs
  without-with xs item rising none =
      let n : ℕ = count_by (λ x. is_before x.0 name) xs in
      kept-front xs ((name, item) ∷ filter (λ x. is_before name x.0) xs)
      ∙ ap (λ (zs : List (Name × A)). filter (λ x. is_before x.0 name) xs ++ zs) (gone-here item (filter (λ x. is_before name x.0) xs) ∙ kept-behind xs)
      ∙ parts n xs (place xs name rising) none (has_name (slice_get xs n) name) refl

  -- the items of other names

  module _ (m : Name) where
    past-step : (b : Bool) (x : Name × A) (xs ys : List (Name × A)) → IsTrue (is_before name m) → is_before x.0 name ≡ b → item_of (filter (λ x. is_before x.0 name) xs ++ ys) m ≡ item_of ys m
        → item_of (filter (λ x. is_before x.0 name) (x ∷ xs) ++ ys) m ≡ item_of ys m
    past-step true x xs ys late is rest = rw is (rw (unlike x.0 m (before-trans x.0 name m is late)) rest)
    past-step false x xs ys late is rest = rw is rest

    -- a later name isn't in front
    past : (xs ys : List (Name × A)) → IsTrue (is_before name m) → item_of (filter (λ x. is_before x.0 name) xs ++ ys) m ≡ item_of ys m
    past [] ys late = refl
    past (x ∷ xs) ys late = past-step (is_before x.0 name) x xs ys late refl (past xs ys late)

    after-step : (b c : Bool) (x : Name × A) (xs : List (Name × A)) → IsTrue (is_before name m) → bytes_eq x.0 m ≡ b → is_before name x.0 ≡ c → item_of (filter (λ x. is_before name x.0) xs) m ≡ item_of xs m
        → item_of (filter (λ x. is_before name x.0) (x ∷ xs)) m ≡ item_of (x ∷ xs) m
    after-step true c x xs late same is rest = let kept : is_before name x.0 ≡ true = ap (λ n. is_before name n) (same-name x.0 m same) ∙ late in rw kept (rw same refl)
    after-step false true x xs late same is rest = rw is (rw same rest)
    after-step false false x xs late same is rest = rw is (rw same rest)

    after-it : (xs : List (Name × A)) → IsTrue (is_before name m) → item_of (filter (λ x. is_before name x.0) xs) m ≡ item_of xs m
    after-it [] late = refl
    after-it (x ∷ xs) late = after-step (bytes_eq x.0 m) (is_before name x.0) x xs late refl refl (after-it xs late)

    none-step : (b : Bool) (x : Name × A) (xs : List (Name × A)) → IsTrue (is_before m name) → is_before name x.0 ≡ b → item_of (filter (λ x. is_before name x.0) xs) m ≡ None → item_of (filter (λ x. is_before name x.0) (x ∷ xs)) m ≡ None
    none-step true x xs early is rest = rw is (rw (unlike-back x.0 m (before-trans m name x.0 early is)) rest)
    none-step false x xs early is rest = rw is rest

    -- an earlier name isn't behind
    none-behind : (xs : List (Name × A)) → IsTrue (is_before m name) → item_of (filter (λ x. is_before name x.0) xs) m ≡ None
    none-behind [] early = refl
    none-behind (x ∷ xs) early = none-step (is_before name x.0) x xs early refl (none-behind xs early)

    before-step : (b c : Bool) (x : Name × A) (xs ys : List (Name × A)) → IsTrue (is_before m name) → bytes_eq x.0 m ≡ b → is_before x.0 name ≡ c → item_of (filter (λ x. is_before x.0 name) xs ++ ys) m ≡ item_of xs m
        → item_of (filter (λ x. is_before x.0 name) (x ∷ xs) ++ ys) m ≡ item_of (x ∷ xs) m
    before-step true c x xs ys early same is rest = let kept : is_before x.0 name ≡ true = ap (λ n. is_before n name) (same-name x.0 m same) ∙ early in rw kept (rw same refl)
    before-step false true x xs ys early same is rest = rw is (rw same rest)
    before-step false false x xs ys early same is rest = rw is (rw same rest)

    before-it : (xs ys : List (Name × A)) → IsTrue (is_before m name) → item_of ys m ≡ None → item_of (filter (λ x. is_before x.0 name) xs ++ ys) m ≡ item_of xs m
    before-it [] ys early none = none
    before-it (x ∷ xs) ys early none = before-step (bytes_eq x.0 m) (is_before x.0 name) x xs ys early refl refl (before-it xs ys early none)

    item-past : (item : A) (ys : List (Name × A)) → bytes_eq name m ≡ false → item_of ((name, item) ∷ ys) m ≡ item_of ys m
    item-past item ys unlike_it = rw unlike_it refl

    other-step : (b : Bool) (xs : List (Name × A)) (item : A) → is_before m name ≡ b → bytes_eq m name ≡ false → item_of (with_item xs name item) m ≡ item_of xs m
    other-step true xs item early not_it =
        before-it xs ((name, item) ∷ filter (λ x. is_before name x.0) xs) early (item-past item (filter (λ x. is_before name x.0) xs) (unlike-back name m early) ∙ none-behind xs early)
    other-step false xs item early not_it =
        let late : IsTrue (is_before name m) = other m name early not_it in
        past xs ((name, item) ∷ filter (λ x. is_before name x.0) xs) late ∙ item-past item (filter (λ x. is_before name x.0) xs) (unlike name m late) ∙ after-it xs late

    -- another name's item is as before
    pub item-with_other : (xs : List (Name × A)) (item : A) → bytes_eq m name ≡ false → item_of (with_item xs name item) m ≡ item_of xs m
    item-with_other xs item = other-step (is_before m name) xs item refl
