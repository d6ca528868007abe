-- The numbers of recordings by name.
use Rattle.std.proofs.Common.{◌≡◌, ◌≤◌, ◌<◌, ◌+◌, ◌++◌, ℕ, zero, suc, Bool, true, false, List, [], ◌∷◌, length, map, filter, take, drop, get_or, slice_get, slice_set, if◌then◌else◌, Some, refl, sym, ap, ◌∙◌, arith}
use Rattle.std.proofs.lemmas.List.{map-append}
use Rattle.es_model.specs.declared.declaration.System.{System}
use Rattle.es_model.specs.History.{Histories}
use Rattle.es_model.specs.Rising.{is_before, with_item}
use Rattle.es_model.specs.Values.{Name}
use Rattle.es_process.specs.SingleThread.{added_counts}
use Rattle.es_process.specs.SystemRules.{app_names, in_order, names_of}
use Rattle.es_top.specs.inner.Counts.{lengths, more_than}

-- a name gets its number
abbrev numbered : (Name → ℕ) → Name × Unit {0} → Name × ℕ
numbered g x = (x.0, g x.0)

kept-numbers : (g : Name → ℕ) (p : Name → Bool) (xs : List (Name × Unit {0})) → map (numbered g) (filter (λ x. p x.0) xs) ≡ filter (λ x. p x.0) (map (numbered g) xs)
kept-numbers g p [] = refl
kept-numbers g p (x ∷ xs) =
    elim (p x.0) as (λ b. map (numbered g) (if b then x ∷ filter (λ y. p y.0) xs else filter (λ y. p y.0) xs)
    ≡ (if b then numbered g x ∷ filter (λ y. p y.0) (map (numbered g) xs) else filter (λ y. p y.0) (map (numbered g) xs))) [
      | true ↦ ap (λ (ys : List (Name × ℕ)). numbered g x ∷ ys) (kept-numbers g p xs)
      | false ↦ kept-numbers g p xs
    ]

with-number : (g : Name → ℕ) (xs : List (Name × Unit {0})) (n : Name) → map (numbered g) (with_item xs n tt) ≡ with_item (map (numbered g) xs) n (g n)
with-number g xs n =
    map-append (numbered g) (filter (λ x. is_before x.0 n) xs) ((n, tt) ∷ filter (λ x. is_before n x.0) xs)
    ∙ (λ i. kept-numbers g (λ m. is_before m n) xs i ++ (n, g n) ∷ kept-numbers g (λ m. is_before n m) xs i)

-- numbers given at once, or one by one
numbers-in-order : (g : Name → ℕ) (ns : List Name) → map (numbered g) (in_order (λ n. tt {0}) ns) ≡ in_order g ns
numbers-in-order g [] = refl
numbers-in-order g (n ∷ ns) = with-number g (in_order (λ m. tt {0}) ns) n ∙ ap (λ (xs : List (Name × ℕ)). with_item xs n (g n)) (numbers-in-order g ns)

by-names : (g : Name → ℕ) (xs : List (Name × Unit {0})) → map (λ n. (n, g n)) (map (λ x. x.0) xs) ≡ map (numbered g) xs
by-names g [] = refl
by-names g (x ∷ xs) = ap (λ (ys : List (Name × ℕ)). numbered g x ∷ ys) (by-names g xs)

-- the recordings that were added, by name
pub counts-added : (sys : System) (openings h : Histories) → added_counts (names_of sys) openings h ≡ in_order (more_than openings h) (app_names sys)
counts-added sys openings h = by-names (more_than openings h) (in_order (λ n. tt {0}) (app_names sys)) ∙ numbers-in-order (more_than openings h) (app_names sys)

-- the item at a place of a list
pub get-below : {A : Type 0} (xs : List A) (i : ℕ) (x : A) → slice_get xs i ≡ Some x → i < length xs
get-below [] i x there = absurd (cc there)
get-below (y ∷ ys) zero x there = omega arith
get-below (y ∷ ys) (suc i) x there = omega (arith, get-below ys i x there)

pub get-there : {A : Type 0} (xs : List A) (i : ℕ) (d : A) → i < length xs → slice_get xs i ≡ Some (get_or xs i d)
get-there [] i d below = absurd (omega (arith, below))
get-there (y ∷ ys) zero d below = refl
get-there (y ∷ ys) (suc i) d below = get-there ys i d (omega (arith, below))

pub same-length : {A : Type 0} (xs : List A) (i : ℕ) (x : A) → length (slice_set xs i x) ≡ length xs
same-length [] i x = refl
same-length (y ∷ ys) zero x = refl
same-length (y ∷ ys) (suc i) x = ap suc (same-length ys i x)

-- the number of an application at its place
pub length-at : (h : Histories) (names : List Name) (i : ℕ) (n : Name) (d : ℕ) → slice_get names i ≡ Some n → get_or (lengths h names) i d ≡ length (h n)
length-at h [] i n d there = absurd (cc there)
length-at h (m ∷ names) zero n d there = let is : m ≡ n = cc there in ap (λ x. length (h x)) is
length-at h (m ∷ names) (suc i) n d there = length-at h names i n d there

-- one number more
take-at : {A : Type 0} (xs : List A) (i : ℕ) (x : A) → slice_get xs i ≡ Some x → take (suc i) xs ≡ take i xs ++ x ∷ []
take-at [] i x there = absurd (cc there)
take-at (y ∷ ys) zero x there = let is : y ≡ x = cc there in ap (λ z. z ∷ []) is
take-at (y ∷ ys) (suc i) x there = ap (λ zs. y ∷ zs) (take-at ys i x there)

pub lengths-more : (h : Histories) (names : List Name) (i : ℕ) (n : Name) (old new : List ℕ) → slice_get names i ≡ Some n → old ≡ lengths h (take i names) → new ≡ old ++ length (h n) ∷ [] → new ≡ lengths h (take (i + 1) names)
lengths-more h names i n old new there was is =
    let next : suc i ≡ i + 1 = omega arith in
    is ∙ ap (λ (xs : List ℕ). xs ++ length (h n) ∷ []) was ∙ sym (map-append (λ m. length (h m)) (take i names) (n ∷ [])) ∙ ap (lengths h) (sym (take-at names i n there)) ∙ ap (λ k. lengths h (take k names)) next

take-whole : {A : Type 0} (xs : List A) (k : ℕ) → length xs ≤ k → take k xs ≡ xs
take-whole [] zero within = refl
take-whole [] (suc k) within = refl
take-whole (x ∷ xs) zero within = absurd (omega (arith, within))
take-whole (x ∷ xs) (suc k) within = ap (λ ys. x ∷ ys) (take-whole xs k (omega (arith, within)))

-- and all of them
pub lengths-whole : (h : Histories) (names : List Name) (k : ℕ) (counts : List ℕ) → length names ≤ k → counts ≡ lengths h (take k names) → counts ≡ lengths h names
lengths-whole h names k counts within is = is ∙ ap (lengths h) (take-whole names k within)

-- what is left of a list from a place on
drop-at : {A : Type 0} (xs : List A) (i : ℕ) (x : A) → slice_get xs i ≡ Some x → drop i xs ≡ x ∷ drop (suc i) xs
drop-at [] i x there = absurd (cc there)
drop-at (y ∷ ys) zero x there = let is : y ≡ x = cc in ap (λ z. z ∷ ys) is
drop-at (y ∷ ys) (suc i) x there = drop-at ys i x there

-- one name more has its number
pub counted-more : (f : Name → ℕ) (names : List Name) (place i : ℕ) (name : Name) (old new : List (Name × ℕ)) → place ≡ suc i → slice_get names i ≡ Some name → old ≡ in_order f (drop place names) → new ≡ with_item old name (f name)
    → new ≡ in_order f (drop i names)
counted-more f names place i name old new next there was is =
    is ∙ ap (λ (xs : List (Name × ℕ)). with_item xs name (f name)) (was ∙ ap (λ k. in_order f (drop k names)) next) ∙ sym (ap (in_order f) (drop-at names i name there))
