-- Names in rising byte order, each with an item.
use Rattle.std.specs.Prelude.{Bool, true, not, IsTrue, List, [], ◌∷◌, ◌++◌, filter, find, Option, option_map}
use Rattle.std.specs.Ordering.{is_lt, nat_cmp}
use Rattle.std.specs.Cmp.Lexicographic.{slice_cmp}
use Rattle.std.specs.Str.{bytes_eq}
use Rattle.es_model.specs.Values.{Name}

-- one name is before another in byte order
abbrev pub is_before : Name → Name → Bool
is_before a b = is_lt (slice_cmp nat_cmp a b)

-- a name comes after the last of these
abbrev pub comes_last : {A : Type 0} → List (Name × A) → Name → Bool
comes_last [] name = true
comes_last (x ∷ []) name = is_before x.0 name
comes_last (x ∷ y ∷ xs) name = comes_last (y ∷ xs) name

-- a name comes before the first of these
abbrev pub comes_first : {A : Type 0} → Name → List (Name × A) → Bool
comes_first name [] = true
comes_first name (x ∷ xs) = is_before name x.0

-- each name comes before the next
abbrev pub IsRising : {A : Type 0} → List (Name × A) → Type 0
IsRising [] = Unit {0}
IsRising (x ∷ xs) = IsTrue (comes_first x.0 xs) × IsRising xs

-- the item of a name
abbrev pub item_of : {A : Type 0} → List (Name × A) → Name → Option A
item_of xs name = option_map (λ x. x.1) (find (λ x. bytes_eq x.0 name) xs)

-- all but a name
abbrev pub without : {A : Type 0} → List (Name × A) → Name → List (Name × A)
without xs name = filter (λ x. not (bytes_eq x.0 name)) xs

-- a name with an item, between the names before it and those after it
abbrev pub with_item : {A : Type 0} → List (Name × A) → Name → A → List (Name × A)
with_item xs name item = filter (λ x. is_before x.0 name) xs ++ (name, item) ∷ filter (λ x. is_before name x.0) xs
