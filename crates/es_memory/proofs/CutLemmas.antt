-- Parts of lists, and the events of an originator with versions between bounds as a part of all.
use Rattle.std.proofs.Common.{◌≡◌, ◌<◌, ◌≤◌, ◌+◌, ◌-◌, ◌&&◌, ℕ, zero, suc, nat_le, nat_lt, Bool, true, false, List, [], ◌∷◌, length, take, drop, map, reverse, inl, inr, if◌then◌else◌, Option, Some, None, refl, sym, ap, ◌∙◌, arith}
use Rattle.std.specs.Prelude.{All, filter}
use Rattle.std.specs.Option.{unwrap_or}
use Rattle.std.proofs.lemmas.Bool.Decides.{nat_tests}
use Rattle.std.proofs.lemmas.Bool.{cases_lt}
use Rattle.std.proofs.lemmas.List.{take-map, drop-map, length-map, length-drop, take-append-drop, reverse-append, length-reverse, take_at, take_all, drop_all}
use Rattle.std.proofs.lemmas.List.Elements.{All-take, All-drop}
use Rattle.es_model.specs.declared.event.StoredEvent.{StoredEvent}
use Rattle.es_recorder.specs.Selections.{is_above, is_upto, first_of}
use Rattle.es_memory.specs.inner.Cuts.{last_of, ends_of}
use Rattle.es_memory.proofs.EventLemmas.{AreCounted}

-- parts of a mapped list
module _ {A B : Type 0} (f : A → B) where
  map-first_of : (limit : Option ℕ) (xs : List A) → map f (first_of limit xs) ≡ first_of limit (map f xs)
  map-first_of None xs = refl
  map-first_of (Some n) xs = sym (take-map f n xs)

  map-last_of : (limit : Option ℕ) (xs : List A) → map f (last_of limit xs) ≡ last_of limit (map f xs)
  map-last_of None xs = refl
  map-last_of (Some n) xs = sym (drop-map f (length xs - n) xs) ∙ (λ i. drop (sym (length-map xs f) i - n) (map f xs))

  map-ends_of : (desc : Bool) (limit : Option ℕ) (xs : List A) → map f (ends_of desc limit xs) ≡ ends_of desc limit (map f xs)
  map-ends_of true limit xs = map-last_of limit xs
  map-ends_of false limit xs = map-first_of limit xs

  pub map-part : (gt lte : Option ℕ) (desc : Bool) (limit : Option ℕ) (xs : List A)
      → map f (ends_of desc limit (drop (unwrap_or gt 0) (first_of lte xs))) ≡ ends_of desc limit (drop (unwrap_or gt 0) (first_of lte (map f xs)))
  map-part gt lte desc limit xs =
      map-ends_of desc limit (drop (unwrap_or gt 0) (first_of lte xs)) ∙ ap (ends_of desc limit) (sym (drop-map f (unwrap_or gt 0) (first_of lte xs)) ∙ ap (drop (unwrap_or gt 0)) (map-first_of lte xs))

-- what holds of a list holds of its parts
module _ {A : Type 0} (P : A → Type 0) where
  all-first_of : (limit : Option ℕ) (xs : List A) → All P xs → All P (first_of limit xs)
  all-first_of None xs all = all
  all-first_of (Some n) xs all = All-take P n xs all

  all-last_of : (limit : Option ℕ) (xs : List A) → All P xs → All P (last_of limit xs)
  all-last_of None xs all = all
  all-last_of (Some n) xs all = All-drop P (length xs - n) xs all

  all-ends_of : (desc : Bool) (limit : Option ℕ) (xs : List A) → All P xs → All P (ends_of desc limit xs)
  all-ends_of true limit xs all = all-last_of limit xs all
  all-ends_of false limit xs all = all-first_of limit xs all

  pub all-part : (gt lte : Option ℕ) (desc : Bool) (limit : Option ℕ) (xs : List A) → All P xs → All P (ends_of desc limit (drop (unwrap_or gt 0) (first_of lte xs)))
  all-part gt lte desc limit xs all =
      all-ends_of desc limit (drop (unwrap_or gt 0) (first_of lte xs)) (All-drop P (unwrap_or gt 0) (first_of lte xs) (all-first_of lte xs all))

-- the last so many in falling order are the first so many of the reversed list
reverse-last : {A : Type 0} (n : ℕ) (xs : List A) → reverse (drop (length xs - n) xs) ≡ take n (reverse xs)
reverse-last n xs = elim (cases_lt n (length xs)) [
  | inl fewer ↦
      let front = take (length xs - n) xs in
      let back = drop (length xs - n) xs in
      let size : length (reverse back) ≡ n = omega (arith, length-reverse back, length-drop (length xs - n) xs, fewer) in
      sym (ap (take n) (ap reverse (sym (take-append-drop (length xs - n) xs)) ∙ reverse-append front back) ∙ take_at (reverse back) (reverse front) n size)
  | inr all ↦
      let none : length xs - n ≡ zero = omega (arith, all) in
      (λ i. reverse (drop (none i) xs)) ∙ sym (take_all n (reverse xs) (omega (arith, length-reverse xs, all)))
]

pub ends-ordered : {A : Type 0} (desc : Bool) (limit : Option ℕ) (xs : List A) → (if desc then reverse (ends_of desc limit xs) else ends_of desc limit xs) ≡ first_of limit (if desc then reverse xs else xs)
ends-ordered true None xs = refl
ends-ordered true (Some n) xs = reverse-last n xs
ends-ordered false limit xs = refl

-- the versions up to a bound, and above one
upto-counted : (first bound : ℕ) (es : List StoredEvent) → AreCounted (first + 1) es → filter (λ e. nat_le e.originator_version bound) es ≡ take (bound - first) es
upto-counted first bound [] counted = sym (take_all (bound - first) [] (omega arith))
upto-counted first bound (e ∷ es) counted = elim (cases_lt first bound) [
  | inl within ↦
      let t : nat_le e.originator_version bound ≡ true = grind (arith, nat_tests, counted.0, within) in
      let more : bound - first ≡ suc (bound - (first + 1)) = omega (arith, within) in
      (λ i. if t i then e ∷ rest else rest) ∙ ap (λ t. e ∷ t) (upto-counted (first + 1) bound es counted.1) ∙ (λ i. take (sym more i) (e ∷ es))
  | inr past ↦
      let t : nat_le e.originator_version bound ≡ false = grind (arith, nat_tests, counted.0, past) in
      let none : bound - first ≡ zero = omega (arith, past) in
      let later : bound - (first + 1) ≡ zero = omega (arith, past) in
      (λ i. if t i then e ∷ rest else rest) ∙ upto-counted (first + 1) bound es counted.1 ∙ (λ i. take (later i) es) ∙ (λ i. take (sym none i) (e ∷ es))
]
  where
    rest : List StoredEvent
    rest = filter (λ x. nat_le x.originator_version bound) es

above-counted : (first bound : ℕ) (es : List StoredEvent) → AreCounted (first + 1) es → filter (λ e. nat_lt bound e.originator_version) es ≡ drop (bound - first) es
above-counted first bound [] counted = sym (drop_all (bound - first) [] (omega arith))
above-counted first bound (e ∷ es) counted = elim (cases_lt first bound) [
  | inl within ↦
      let t : nat_lt bound e.originator_version ≡ false = grind (arith, nat_tests, counted.0, within) in
      let more : bound - first ≡ suc (bound - (first + 1)) = omega (arith, within) in
      (λ i. if t i then e ∷ rest else rest) ∙ above-counted (first + 1) bound es counted.1 ∙ (λ i. drop (sym more i) (e ∷ es))
  | inr past ↦
      let t : nat_lt bound e.originator_version ≡ true = grind (arith, nat_tests, counted.0, past) in
      let none : bound - first ≡ zero = omega (arith, past) in
      let later : bound - (first + 1) ≡ zero = omega (arith, past) in
      (λ i. if t i then e ∷ rest else rest) ∙ ap (λ t. e ∷ t) (above-counted (first + 1) bound es counted.1 ∙ (λ i. drop (later i) es)) ∙ (λ i. drop (sym none i) (e ∷ es))
]
  where
    rest : List StoredEvent
    rest = filter (λ x. nat_lt bound x.originator_version) es

AreCounted-take : (n first : ℕ) (es : List StoredEvent) → AreCounted first es → AreCounted first (take n es)
AreCounted-take zero first es counted = tt
AreCounted-take (suc n) first [] counted = tt
AreCounted-take (suc n) first (e ∷ es) counted = (counted.0, AreCounted-take n (first + 1) es counted.1)

-- a filter by two tests
filter-both : {A : Type 0} (p q : A → Bool) (xs : List A) → filter (λ x. p x && q x) xs ≡ filter p (filter q xs)
filter-both p q [] = refl
filter-both p q (x ∷ xs) = chosen (p x) refl (q x) (filter-both p q xs)
  where
    chosen : (a : Bool) → p x ≡ a → (b : Bool) → filter (λ y. p y && q y) xs ≡ filter p (filter q xs) → (if a && b then x ∷ filter (λ y. p y && q y) xs else filter (λ y. p y && q y) xs) ≡ filter p (if b then x ∷ filter q xs else filter q xs)
    chosen true is true rest = ap (λ t. x ∷ t) rest ∙ (λ i. if sym is i then x ∷ filter p (filter q xs) else filter p (filter q xs))
    chosen false is true rest = rest ∙ (λ i. if sym is i then x ∷ filter p (filter q xs) else filter p (filter q xs))
    chosen true is false rest = rest
    chosen false is false rest = rest

filter-all : {A : Type 0} (xs : List A) → filter (λ x. true) xs ≡ xs
filter-all [] = refl
filter-all (x ∷ xs) = ap (λ t. x ∷ t) (filter-all xs)

upto-is : (lte : Option ℕ) (es : List StoredEvent) → AreCounted 1 es → filter (λ e. is_upto lte e.originator_version) es ≡ first_of lte es
upto-is None es counted = filter-all es
upto-is (Some lte) es counted = let whole : lte - 0 ≡ lte = omega arith in upto-counted 0 lte es counted ∙ (λ i. take (whole i) es)

above-is : (gt : Option ℕ) (es : List StoredEvent) → AreCounted 1 es → filter (λ e. is_above gt e.originator_version) es ≡ drop (unwrap_or gt 0) es
above-is None es counted = filter-all es
above-is (Some gt) es counted = let whole : gt - 0 ≡ gt = omega arith in above-counted 0 gt es counted ∙ (λ i. drop (whole i) es)

counted-first : (lte : Option ℕ) (es : List StoredEvent) → AreCounted 1 es → AreCounted 1 (first_of lte es)
counted-first None es counted = counted
counted-first (Some lte) es counted = AreCounted-take lte 1 es counted

-- the events with versions between bounds, where the versions are 1, 2 and so on
pub between-counted : (gt lte : Option ℕ) (es : List StoredEvent) → AreCounted 1 es → filter (λ e. is_above gt e.originator_version && is_upto lte e.originator_version) es ≡ drop (unwrap_or gt 0) (first_of lte es)
between-counted gt lte es counted =
    filter-both (λ e. is_above gt e.originator_version) (λ e. is_upto lte e.originator_version) es
    ∙ ap (filter (λ e. is_above gt e.originator_version)) (upto-is lte es counted)
    ∙ above-is gt (first_of lte es) (counted-first lte es counted)
