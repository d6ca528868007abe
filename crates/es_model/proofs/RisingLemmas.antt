-- Laws of names in rising order.
use Rattle.std.proofs.Common.{◌≡◌, ℕ, suc, IsTrue, Bool, true, false, List, [], ◌∷◌, ◌++◌, filter, take, drop, count_by, Some, None, option_map, slice_get, slice_set, get_or, insert, remove, zero, cond, arith, refl, sym, ap, subst, ◌∙◌}
use Rattle.std.proofs.lemmas.List.Sums.{sum_by-cons}
use Rattle.std.proofs.lemmas.Cmp.{nat_list_cmp_total}
use Rattle.std.proofs.lemmas.Map.Text.{is_eq-slice_cmp}
use Rattle.std.specs.Ordering.{nat_cmp, is_lt, is_eq, ordering_reverse}
use Rattle.std.specs.declared.cmp.Ordering.{Ordering}
use Rattle.std.specs.declared.cmp.Ordering.TheVariants.{Less, Equal, Greater}
use Rattle.std.specs.Cmp.Lexicographic.{slice_cmp}
use Rattle.std.specs.Str.{bytes_eq}
use Rattle.es_model.specs.Values.{Name}
use Rattle.es_model.specs.Rising.{is_before, IsRising, comes_last, comes_first, item_of, with_item, without}
use Rattle.es_model.specs.inner.Entries.{has_name}

-- the order of names

abbrev order : Name → Name → Ordering
order = slice_cmp nat_cmp

less : (o : Ordering) → IsTrue (is_lt o) → o ≡ Less
less Less h = refl
less Equal h = cc
less Greater h = cc

pub before-trans : (a b c : Name) → IsTrue (is_before a b) → IsTrue (is_before b c) → IsTrue (is_before a c)
before-trans a b c h k = ap is_lt (nat_list_cmp_total.trans a b c (less (order a b) h) (less (order b c) k))

reversed : (a b : Name) (o : Ordering) → order a b ≡ o → order b a ≡ ordering_reverse o
reversed a b o is = nat_list_cmp_total.antisymm b a ∙ ap ordering_reverse is

-- of two names the second is before the first where the first is the later one
pub not-before-back : (a b : Name) → IsTrue (is_before a b) → is_before b a ≡ false
not-before-back a b h = ap is_lt (reversed a b Less (less (order a b) h))

after_step : (o : Ordering) (x name y : Name) → order x name ≡ o → is_lt o ≡ false → IsTrue (is_before x y) → IsTrue (is_before name y)
after_step Less x name y is late h = cc
after_step Equal x name y is late h = subst (λ p. IsTrue (is_lt p)) (nat_list_cmp_total.congr x name y is) h
after_step Greater x name y is late h = before-trans name x y (ap is_lt (reversed x name Greater is)) h

-- a name that isn't after x is before what x is before
after : (x name y : Name) → is_before x name ≡ false → IsTrue (is_before x y) → IsTrue (is_before name y)
after x name y = after_step (order x name) x name y refl

other_step : (o : Ordering) (x name : Name) → order x name ≡ o → is_lt o ≡ false → is_eq o ≡ false → IsTrue (is_before name x)
other_step Less x name is late unlike = cc
other_step Equal x name is late unlike = cc
other_step Greater x name is late unlike = ap is_lt (reversed x name Greater is)

-- of two different names one is before the other
pub other : (x name : Name) → is_before x name ≡ false → bytes_eq x name ≡ false → IsTrue (is_before name x)
other x name late unlike = other_step (order x name) x name refl late (is_eq-slice_cmp x name ∙ unlike)

unlike_step : (o : Ordering) → IsTrue (is_lt o) → is_eq o ≡ false
unlike_step Less h = refl
unlike_step Equal h = cc
unlike_step Greater h = cc

-- a name that is before another is another
pub unlike : (a b : Name) → IsTrue (is_before a b) → bytes_eq a b ≡ false
unlike a b h = sym (is_eq-slice_cmp a b) ∙ unlike_step (order a b) h

pub unlike-back : (b a : Name) → IsTrue (is_before a b) → bytes_eq b a ≡ false
unlike-back b a h = sym (is_eq-slice_cmp b a) ∙ ap is_eq (reversed a b Less (less (order a b) h))

same_step : (o : Ordering) (a b : Name) → order a b ≡ o → is_eq o ≡ true → is_before b a ≡ false
same_step Less a b is same = cc
same_step Equal a b is same = ap is_lt (reversed a b Equal is)
same_step Greater a b is same = cc

-- no name is before itself
same : (a b : Name) → bytes_eq a b ≡ true → is_before b a ≡ false
same a b h = same_step (order a b) a b refl (is_eq-slice_cmp a b ∙ h)

-- one more at the end

still_first : {A : Type 0} (name : Name) (x : Name × A) (xs : List (Name × A)) (y : Name × A) → IsTrue (comes_first name (x ∷ xs)) → IsTrue (comes_first name ((x ∷ xs) ++ y ∷ []))
still_first name x xs y before = before

pub IsRising-push : {A : Type 0} (xs : List (Name × A)) (y : Name × A) → IsRising xs → IsTrue (comes_last xs y.0) → IsRising (xs ++ y ∷ [])
IsRising-push [] y rising last = (refl, tt)
IsRising-push (x ∷ []) y rising last = (last, (refl, tt))
IsRising-push (x ∷ z ∷ xs) y rising last = (still_first x.0 z xs y rising.0, IsRising-push (z ∷ xs) y rising.1 last)

-- the place of a name

-- what stands at a place and round it: the names before a name are in front of it, and those after it behind
pub record IsPlace {A : Type 0} (n : ℕ) (xs : List (Name × A)) (name : Name) : Type 0 where
  pub front : take n xs ≡ filter (λ x. is_before x.0 name) xs
  pub behind : has_name (slice_get xs n) name ≡ false → drop n xs ≡ filter (λ x. is_before name x.0) xs
  pub behind_it : has_name (slice_get xs n) name ≡ true → drop (suc n) xs ≡ filter (λ x. is_before name x.0) xs
  pub kept : has_name (slice_get xs n) name ≡ false → without xs name ≡ xs
  pub gone : has_name (slice_get xs n) name ≡ true → without xs name ≡ take n xs ++ drop (suc n) xs
  pub none : has_name (slice_get xs n) name ≡ false → item_of xs name ≡ None
  pub some : has_name (slice_get xs n) name ≡ true → item_of xs name ≡ option_map (λ x. x.1) (slice_get xs n)

-- what is behind an entry that isn't before a name
record AllAfter {A : Type 0} (xs : List (Name × A)) (name : Name) : Type 0 where
  pub count : count_by (λ x. is_before x.0 name) xs ≡ 0
  pub before : filter (λ x. is_before x.0 name) xs ≡ []
  pub after : filter (λ x. is_before name x.0) xs ≡ xs
  pub rest : without xs name ≡ xs
  pub item : item_of xs name ≡ None

count-cons : {A : Type 0} (y : Name × A) (ys : List (Name × A)) (name : Name) → is_before y.0 name ≡ false → count_by (λ x. is_before x.0 name) ys ≡ 0 → count_by (λ x. is_before x.0 name) (y ∷ ys) ≡ 0
count-cons y ys name h none = sum_by-cons (λ x. cond (is_before x.0 name) 1 0) y ys ∙ rw h (omega (arith, none))

later : {A : Type 0} (y : Name × A) (ys : List (Name × A)) (name : Name) → IsTrue (is_before name y.0) → AllAfter ys name → AllAfter (y ∷ ys) name
later y ys name h a =
    let late : is_before y.0 name ≡ false = not-before-back name y.0 h in
    let not_it : bytes_eq y.0 name ≡ false = unlike-back y.0 name h in
    record {
      count = count-cons y ys name late a.count;
      before = rw late a.before;
      after = rw h (ap (λ (zs : List _). y ∷ zs) a.after);
      rest = rw not_it (ap (λ (zs : List _). y ∷ zs) a.rest);
      item = rw not_it a.item;
    }

all-after : {A : Type 0} (x : Name × A) (xs : List (Name × A)) (name : Name) → IsRising (x ∷ xs) → is_before x.0 name ≡ false → AllAfter xs name
all-after x [] name rising late = record { count = refl; before = refl; after = refl; rest = refl; item = refl }
all-after x (y ∷ ys) name rising late =
    let h : IsTrue (is_before name y.0) = after x.0 name y.0 late rising.0 in
    later y ys name h (all-after y ys name rising.1 (not-before-back name y.0 h))

count-before : {A : Type 0} (x : Name × A) (xs : List (Name × A)) (name : Name) → is_before x.0 name ≡ true → count_by (λ x. is_before x.0 name) (x ∷ xs) ≡ suc (count_by (λ x. is_before x.0 name) xs)
count-before x xs name h = sum_by-cons (λ x. cond (is_before x.0 name) 1 0) x xs ∙ rw h (omega arith)

place-before : {A : Type 0} (n : ℕ) (x : Name × A) (xs : List (Name × A)) (name : Name) → is_before x.0 name ≡ true → IsPlace n xs name → IsPlace (suc n) (x ∷ xs) name
place-before n x xs name h p =
    let late : is_before name x.0 ≡ false = not-before-back x.0 name h in
    let not_it : bytes_eq x.0 name ≡ false = unlike x.0 name h in
    record {
      front = rw h (ap (λ (zs : List _). x ∷ zs) p.front);
      behind = λ b. rw late (p.behind b);
      behind_it = λ b. rw late (p.behind_it b);
      kept = λ b. rw not_it (ap (λ (zs : List _). x ∷ zs) (p.kept b));
      gone = λ b. rw not_it (ap (λ (zs : List _). x ∷ zs) (p.gone b));
      none = λ b. rw not_it (p.none b);
      some = λ b. rw not_it (p.some b);
    }

place-here : {A : Type 0} (x : Name × A) (xs : List (Name × A)) (name : Name) → is_before x.0 name ≡ false → AllAfter xs name → IsPlace 0 (x ∷ xs) name
place-here x xs name late a =
    record {
      front = rw late (sym a.before);
      behind = λ b. rw (other x.0 name late b) (ap (λ (zs : List _). x ∷ zs) (sym a.after));
      behind_it = λ b. rw (same x.0 name b) (sym a.after);
      kept = λ b. rw b (ap (λ (zs : List _). x ∷ zs) a.rest);
      gone = λ b. rw b a.rest;
      none = λ b. rw b a.item;
      some = λ b. rw b refl;
    }

place-step : {A : Type 0} (b : Bool) (x : Name × A) (xs : List (Name × A)) (name : Name) → is_before x.0 name ≡ b → IsRising (x ∷ xs) → IsPlace (count_by (λ x. is_before x.0 name) xs) xs name → IsPlace (count_by (λ x. is_before x.0 name) (x ∷ xs)) (x ∷ xs) name
place-step true x xs name h rising p = subst (λ n. IsPlace n (x ∷ xs) name) (sym (count-before x xs name h)) (place-before (count_by (λ x. is_before x.0 name) xs) x xs name h p)
place-step false x xs name h rising p =
    let a : AllAfter xs name = all-after x xs name rising h in
    subst (λ n. IsPlace n (x ∷ xs) name) (sym (count-cons x xs name h a.count)) (place-here x xs name h a)

pub place : {A : Type 0} (xs : List (Name × A)) (name : Name) → IsRising xs → IsPlace (count_by (λ x. is_before x.0 name) xs) xs name
place [] name rising = record {
  front = refl;
  behind = λ b. refl;
  behind_it = λ b. cc;
  kept = λ b. refl;
  gone = λ b. cc;
  none = λ b. refl;
  some = λ b. cc;
}
place (x ∷ xs) name rising = place-step (is_before x.0 name) x xs name refl rising (place xs name rising.1)

-- what stays in order

still-first : {A : Type 0} (p : Name × A → Bool) (b : Bool) (name : Name) (x : Name × A) (xs : List (Name × A)) → p x ≡ b → IsTrue (is_before name x.0) → IsTrue (comes_first name (filter p xs)) → IsTrue (comes_first name (filter p (x ∷ xs)))
still-first p true name x xs is h rest = rw is h
still-first p false name x xs is h rest = rw is rest

first-kept : {A : Type 0} (p : Name × A → Bool) (name : Name) (xs : List (Name × A)) → IsTrue (comes_first name xs) → IsRising xs → IsTrue (comes_first name (filter p xs))
first-kept p name [] h rising = refl
first-kept p name (x ∷ []) h rising = still-first p (p x) name x [] refl h refl
first-kept p name (x ∷ y ∷ ys) h rising = still-first p (p x) name x (y ∷ ys) refl h (first-kept p name (y ∷ ys) (before-trans name x.0 y.0 h rising.0) rising.1)

rising_step : {A : Type 0} (p : Name × A → Bool) (b : Bool) (x : Name × A) (xs : List (Name × A)) → p x ≡ b → IsTrue (comes_first x.0 (filter p xs)) → IsRising (filter p xs) → IsRising (filter p (x ∷ xs))
rising_step p true x xs is h rest = rw is (h, rest)
rising_step p false x xs is h rest = rw is rest

pub IsRising-filter : {A : Type 0} (p : Name × A → Bool) (xs : List (Name × A)) → IsRising xs → IsRising (filter p xs)
IsRising-filter p [] rising = tt
IsRising-filter p (x ∷ xs) rising = rising_step p (p x) x xs refl (first-kept p x.0 xs rising.0 rising.1) (IsRising-filter p xs rising.1)

-- a rising list in front of a name, and one behind it
first-with : {A : Type 0} (first : Name) (xs : List (Name × A)) (name : Name) (item : A) (ys : List (Name × A)) → IsTrue (is_before first name) → IsTrue (comes_first first xs) → IsTrue (comes_first first (xs ++ (name, item) ∷ ys))
first-with first [] name item ys h k = h
first-with first (x ∷ xs) name item ys h k = k

first-behind : {A : Type 0} (name : Name) (zs : List (Name × A)) → IsTrue (comes_first name (filter (λ y. is_before name y.0) zs))
first-behind name [] = refl
first-behind name (z ∷ zs) = elim (is_before name z.0) as (λ b. is_before name z.0 ≡ b → IsTrue (comes_first name (filter (λ y. is_before name y.0) (z ∷ zs)))) [
  | true ↦ λ h. rw h h
  | false ↦ λ h. rw h (first-behind name zs)
] refl

with-step : {A : Type 0} (b : Bool) (x : Name × A) (xs : List (Name × A)) (name : Name) (item : A) → is_before x.0 name ≡ b → IsRising (x ∷ xs) → IsRising (with_item xs name item) → IsRising (with_item (x ∷ xs) name item)
with-step true x xs name item h rising rest =
    let late : is_before name x.0 ≡ false = not-before-back x.0 name h in
    rw h (rw late (first-with x.0 (filter (λ x. is_before x.0 name) xs) name item (filter (λ x. is_before name x.0) xs) h (first-kept (λ x. is_before x.0 name) x.0 xs rising.0 rising.1), rest))
with-step false x xs name item h rising rest =
    let a : AllAfter xs name = all-after x xs name rising h in
    rw h (rw a.before (first-behind name (x ∷ xs), IsRising-filter (λ y. is_before name y.0) (x ∷ xs) rising))

pub IsRising-with_item : {A : Type 0} (xs : List (Name × A)) (name : Name) (item : A) → IsRising xs → IsRising (with_item xs name item)
IsRising-with_item [] name item rising = (refl, tt)
IsRising-with_item (x ∷ xs) name item rising = with-step (is_before x.0 name) x xs name item refl rising (IsRising-with_item xs name item rising.1)

-- the list with a place written, made free, or taken out

set-at : {A : Type 0} (xs : List (Name × A)) (n : ℕ) (name : Name) (e : Name × A) → has_name (slice_get xs n) name ≡ true → slice_set xs n e ≡ take n xs ++ e ∷ drop (suc n) xs
set-at [] n name e there = cc
set-at (x ∷ xs) zero name e there = refl
set-at (x ∷ xs) (suc n) name e there = ap (λ (zs : List _). x ∷ zs) (set-at xs n name e there)

get-at : {A : Type 0} (xs : List (Name × A)) (n : ℕ) (name : Name) (e : Name × A) → has_name (slice_get xs n) name ≡ true → slice_get xs n ≡ Some (get_or xs n e)
get-at [] n name e there = cc
get-at (x ∷ xs) zero name e there = refl
get-at (x ∷ xs) (suc n) name e there = get-at xs n name e there

module _ {A : Type 0} (xs : List (Name × A)) (n : ℕ) (name : Name) (rising : IsRising xs) (is : n ≡ count_by (λ x. is_before x.0 name) xs) where
  here : IsPlace n xs name
  here = subst (λ k. IsPlace k xs name) (sym is) (place xs name rising)

  pub replaced : (item : A) → has_name (slice_get xs n) name ≡ true → slice_set xs n (name, item) ≡ with_item xs name item
  replaced item there = set-at xs n name (name, item) there ∙ (λ i. here.front i ++ (name, item) ∷ here.behind_it there i)

  pub inserted : (item : A) → has_name (slice_get xs n) name ≡ false → insert xs n (name, item) ≡ with_item xs name item
  inserted item absent = λ i. here.front i ++ (name, item) ∷ here.behind absent i

  pub removed : has_name (slice_get xs n) name ≡ true → remove xs n ≡ without xs name
  removed there = sym (here.gone there)

  pub removed_item : (e : Name × A) → e ≡ get_or xs n e → has_name (slice_get xs n) name ≡ true → Some e.1 ≡ item_of xs name
  removed_item e value there = sym (here.some there ∙ ap (option_map (λ x. x.1)) (get-at xs n name e there ∙ ap Some (sym value)))

  pub kept : has_name (slice_get xs n) name ≡ false → xs ≡ without xs name
  kept absent = sym (here.kept absent)

  pub absent_item : has_name (slice_get xs n) name ≡ false → None ≡ item_of xs name
  absent_item absent = sym (here.none absent)
