-- Elements of lists, names, and maps with something put at a name.
use Rattle.std.proofs.Common.{◌≡◌, ◌<◌, ◌⊎◌, inl, inr, ℕ, zero, suc, Bool, true, false, ◌||◌, List, [], ◌∷◌, ◌++◌, length, map, filter, Contains, slice_index_or, if◌then◌else◌, refl, sym, ap, ◌∙◌, subst, arith}
use Rattle.std.specs.List.{list_any}
use Rattle.std.specs.Str.{bytes_eq}
use Rattle.std.proofs.lemmas.Slice.Eq.{bytes_eq-Decides}
use Rattle.es_model.specs.Values.{Name}
use Rattle.es_decl.specs.Pairs.{leaders_in, gathered, with_new}
use Rattle.es_recorder.specs.Held.{put}
use Rattle.es_process.specs.SingleThread.{led_by, is_among}

pub contains-here : {A : Type 0} (x : A) (xs : List A) → Contains (x ∷ xs) x
contains-here x xs = (0, omega arith, refl)

pub contains-later : {A : Type 0} (x : A) (xs : List A) (y : A) → Contains xs y → Contains (x ∷ xs) y
contains-later x xs y so = let within : so.0 < length xs = so.1 in (suc so.0, omega arith, so.2)

cases_at : {A : Type 0} (x : A) (xs : List A) (y : A) (k : ℕ) → k < length (x ∷ xs) → slice_index_or (x ∷ xs) k y ≡ y → (x ≡ y) ⊎ Contains xs y
cases_at x xs y zero within is = inl is
cases_at x xs y (suc k) within is = inr (k, omega arith, is)

-- an element is the first, or one of the rest
pub contains-cases : {A : Type 0} (x : A) (xs : List A) (y : A) → Contains (x ∷ xs) y → (x ≡ y) ⊎ Contains xs y
contains-cases x xs y so = cases_at x xs y so.0 so.1 so.2

pub contains-none : {A P : Type 0} (y : A) → Contains [] y → P
contains-none y so = let within : so.0 < 0 = so.1 in absurd (omega arith)

-- some of the elements, which pass a test
pub contains-filter : {A : Type 0} (test : A → Bool) (xs : List A) (y : A) → Contains (filter test xs) y → Contains xs y
contains-filter test [] y = λ so. so
contains-filter test (x ∷ xs) y = elim (test x) as (λ b. Contains (if b then x ∷ filter test xs else filter test xs) y → Contains (x ∷ xs) y) [
  | true ↦ λ so. elim (contains-cases x (filter test xs) y so) [ inl is ↦ subst (Contains (x ∷ xs)) is (contains-here x xs) | inr behind ↦ contains-later x xs y (contains-filter test xs y behind) ]
  | false ↦ λ so. contains-later x xs y (contains-filter test xs y so)
]

here_filtered : {A : Type 0} (b : Bool) (x : A) (xs ys : List A) → b ≡ true → Contains (if b then x ∷ xs else ys) x
here_filtered true x xs ys passes = contains-here x xs
here_filtered false x xs ys passes = absurd (cc passes)

later_filtered : {A : Type 0} (b : Bool) (x : A) (xs : List A) (y : A) → Contains xs y → Contains (if b then x ∷ xs else xs) y
later_filtered true x xs y so = contains-later x xs y so
later_filtered false x xs y so = so

pub filter-contains : {A : Type 0} (test : A → Bool) (xs : List A) (y : A) → test y ≡ true → Contains xs y → Contains (filter test xs) y
filter-contains test [] y passes so = so
filter-contains test (x ∷ xs) y passes so = elim (contains-cases x xs y so) [
  | inl is ↦ subst (λ z. Contains (if test x then x ∷ filter test xs else filter test xs) z) is (here_filtered (test x) x (filter test xs) (filter test xs) (ap test is ∙ passes))
  | inr behind ↦ later_filtered (test x) x (filter test xs) y (filter-contains test xs y passes behind)
]

pub contains-left : {A : Type 0} (xs ys : List A) (y : A) → Contains xs y → Contains (xs ++ ys) y
contains-left [] ys y so = contains-none y so
contains-left (x ∷ xs) ys y so = elim (contains-cases x xs y so) [
  | inl is ↦ subst (Contains (x ∷ (xs ++ ys))) is (contains-here x (xs ++ ys))
  | inr behind ↦ contains-later x (xs ++ ys) y (contains-left xs ys y behind)
]

pub contains-last : {A : Type 0} (xs : List A) (y : A) → Contains (xs ++ y ∷ []) y
contains-last [] y = contains-here y []
contains-last (x ∷ xs) y = contains-later x (xs ++ y ∷ []) y (contains-last xs y)

pub same-name : (a b : List ℕ) → bytes_eq a b ≡ true → a ≡ b
same-name a b = (bytes_eq-Decides a b).0

pub is-same : (a b : List ℕ) → a ≡ b → bytes_eq a b ≡ true
is-same a b = (bytes_eq-Decides a b).1

-- a pair is among those that its leader leads
pub led-contains : (pairs : List (Name × Name)) (p : Name × Name) → Contains pairs p → Contains (led_by pairs p.0) p
led-contains pairs p so = filter-contains (λ q. bytes_eq q.0 p.0) pairs p (is-same p.0 p.0 refl) so

-- an item that is gathered stays, and each of the items is among those that are gathered
new_keeps : {A : Type 0} (b : Bool) (xs : List A) (x y : A) → Contains xs y → Contains (if b then xs else xs ++ x ∷ []) y
new_keeps true xs x y so = so
new_keeps false xs x y so = contains-left xs (x ∷ []) y so

gathered_keeps : {A : Type 0} (same : A → A → Bool) (xs ys : List A) (y : A) → Contains xs y → Contains (gathered same xs ys) y
gathered_keeps same xs [] y so = so
gathered_keeps same xs (x ∷ ys) y so = gathered_keeps same (with_new same xs x) ys y (new_keeps (list_any (same x) xs) xs x y so)

any_same : (b : Bool) (x name : Name) (xs : List Name) → (b ≡ true → name ≡ x) → (list_any (bytes_eq name) xs ≡ true → Contains xs name) → (b || list_any (bytes_eq name) xs) ≡ true → Contains (x ∷ xs) name
any_same true x name xs same later is = subst (Contains (x ∷ xs)) (sym (same refl)) (contains-here x xs)
any_same false x name xs same later is = contains-later x xs name (later is)

any_contains : (name : Name) (xs : List Name) → list_any (bytes_eq name) xs ≡ true → Contains xs name
any_contains name [] is = absurd (cc is)
any_contains name (x ∷ xs) is = any_same (bytes_eq name x) x name xs (same-name name x) (any_contains name xs) is

new_there : (b : Bool) (xs : List Name) (name : Name) → (b ≡ true → Contains xs name) → Contains (if b then xs else xs ++ name ∷ []) name
new_there true xs name there = there refl
new_there false xs name there = contains-last xs name

gathered_there : (xs names : List Name) (name : Name) → Contains names name → Contains (gathered bytes_eq xs names) name
gathered_there xs [] name so = contains-none name so
gathered_there xs (n ∷ names) name so = elim (contains-cases n names name so) [
  | inl is ↦ gathered_keeps bytes_eq (with_new bytes_eq xs n) names name (subst (Contains (with_new bytes_eq xs n)) is (new_there (list_any (bytes_eq n) xs) xs n (any_contains n xs)))
  | inr behind ↦ gathered_there (with_new bytes_eq xs n) names name behind
]

pub contains-map : {A B : Type 0} (f : A → B) (xs : List A) (x : A) → Contains xs x → Contains (map f xs) (f x)
contains-map f [] x so = contains-none x so
contains-map f (y ∷ ys) x so = elim (contains-cases y ys x so) [
  | inl is ↦ subst (λ z. Contains (f y ∷ map f ys) (f z)) is (contains-here (f y) (map f ys))
  | inr behind ↦ contains-later (f y) (map f ys) (f x) (contains-map f ys x behind)
]

-- and its leader is among the leaders
pub leaders-contains : (pairs : List (Name × Name)) (p : Name × Name) → Contains pairs p → Contains (leaders_in pairs) p.0
leaders-contains pairs p so = gathered_there [] (map (λ q. q.0) pairs) p.0 (contains-map (λ (q : Name × Name). q.0) pairs p so)

among_step : (b : Bool) (n name : Name) (ns : List Name) → (b ≡ true → n ≡ name) → (is_among name ns ≡ true → Contains ns name) → (b || is_among name ns) ≡ true → Contains (n ∷ ns) name
among_step true n name ns same later is = subst (Contains (n ∷ ns)) (same refl) (contains-here n ns)
among_step false n name ns same later is = contains-later n ns name (later is)

pub among-contains : (name : Name) (names : List Name) → is_among name names ≡ true → Contains names name
among-contains name [] is = absurd (cc is)
among-contains name (n ∷ ns) is = among_step (bytes_eq n name) n name ns (same-name n name) (among-contains name ns) is

among_here : (b : Bool) (name : Name) (ns : List Name) → b ≡ true → (b || is_among name ns) ≡ true
among_here true name ns is = refl
among_here false name ns is = absurd (cc is)

among_later : (b : Bool) (name : Name) (ns : List Name) → is_among name ns ≡ true → (b || is_among name ns) ≡ true
among_later true name ns is = refl
among_later false name ns is = is

pub contains-among : (name : Name) (names : List Name) → Contains names name → is_among name names ≡ true
contains-among name [] so = contains-none name so
contains-among name (n ∷ ns) so = elim (contains-cases n ns name so) [
  | inl is ↦ among_here (bytes_eq n name) name ns (is-same n name is)
  | inr behind ↦ among_later (bytes_eq n name) name ns (contains-among name ns behind)
]

put_at : {A : Type 0} (P : Name → A → Type 0) (n name : Name) (b : Bool) (x y : A) → (b ≡ true → n ≡ name) → (n ≡ name → b ≡ true) → P name x → ((n ≡ name → ⊥) → P n y) → P n (if b then x else y)
put_at P n name true x y same back here other = subst (λ m. P m x) (sym (same refl)) here
put_at P n name false x y same back here other = other (λ is. let clash : false ≡ true = back is in cc clash)

-- what holds of what is put at its name, and of all else at the other names, holds everywhere
pub put-cases : {A : Type 0} (P : Name → A → Type 0) (h : Name → A) (name : Name) (x : A) (n : Name) → P name x → ((n ≡ name → ⊥) → P n (h n)) → P n (put h name x n)
put-cases P h name x n here other = put_at P n name (bytes_eq n name) x (h n) (same-name n name) (is-same n name) here other

pub put-each : {A : Type 0} (P : Name → A → Type 0) (h : Name → A) (name : Name) (x : A) (n : Name) → P name x → P n (h n) → P n (put h name x n)
put-each P h name x n here other = put-cases P h name x n here (λ differ. other)

pub put-here : {A : Type 0} (h : Name → A) (name : Name) (x : A) → put h name x name ≡ x
put-here h name x = λ i. if is-same name name refl i then x else h name

pub put-other : {A : Type 0} (h : Name → A) (name : Name) (x : A) (n : Name) → (n ≡ name → ⊥) → put h name x n ≡ h n
put-other h name x n differ = put-cases (λ m y. (m ≡ name → ⊥) → y ≡ h m) h name x n (λ other. absurd (other refl)) (λ other again. refl) differ

-- a name is another, or isn't
pub same-or-not : (a b : Name) → (a ≡ b) ⊎ (a ≡ b → ⊥)
same-or-not a b = here (bytes_eq a b) refl
  where
    here : (t : Bool) → bytes_eq a b ≡ t → (a ≡ b) ⊎ (a ≡ b → ⊥)
    here true is = inl (same-name a b is)
    here false is = inr (λ same. let clash : false ≡ true = sym is ∙ is-same a b same in cc clash)
