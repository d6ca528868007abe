-- The leaders and followers of a system, in the order of its pipes.
use Rattle.std.specs.Prelude.{Bool, not, ◌&&◌, List, [], ◌∷◌, ◌++◌, filter, map, if◌then◌else◌}
use Rattle.std.specs.List.{list_any}
use Rattle.std.specs.Str.{bytes_eq}
use Rattle.es_model.specs.Values.{Name}

-- a leader and its follower
abbrev pub Pair : Type 0
Pair = Name × Name

abbrev pub is_pair : Pair → Pair → Bool
is_pair p q = bytes_eq p.0 q.0 && bytes_eq p.1 q.1

-- an item behind some, unless it is there
abbrev pub with_new : {A : Type 0} → (A → A → Bool) → List A → A → List A
with_new same xs x = if list_any (same x) xs then xs else xs ++ x ∷ []

-- more items behind some, each unless it is there
abbrev pub gathered : {A : Type 0} → (A → A → Bool) → List A → List A → List A
gathered same xs [] = xs
gathered same xs (y ∷ ys) = gathered same (with_new same xs y) ys

-- the neighbours in a pipe
abbrev pub neighbours : List Name → List Pair
neighbours [] = []
neighbours (a ∷ []) = []
neighbours (a ∷ b ∷ rest) = (a, b) ∷ neighbours (b ∷ rest)

abbrev pub all_neighbours : List (List Name) → List Pair
all_neighbours [] = []
all_neighbours (pipe ∷ pipes) = neighbours pipe ++ all_neighbours pipes

-- the neighbours pipe by pipe, each pair at its first place only
abbrev pub pairs_of : List (List Name) → List Pair
pairs_of pipes = gathered is_pair [] (all_neighbours pipes)

abbrev pub leaders_in : List Pair → List Name
leaders_in ps = gathered bytes_eq [] (map (λ p. p.0) ps)

abbrev pub followers_in : List Pair → List Name
followers_in ps = gathered bytes_eq [] (map (λ p. p.1) ps)

abbrev pub follows : List Pair → Name → Bool
follows ps name = list_any (λ p. bytes_eq p.1 name) ps

abbrev pub leaders_only_in : List Pair → List Name
leaders_only_in ps = filter (λ n. not (follows ps n)) (leaders_in ps)

-- both leader and follower, by their first place as leader
abbrev pub processors_in : List Pair → List Name
processors_in ps = filter (λ n. follows ps n) (leaders_in ps)

abbrev pub followers_of_in : List Pair → Name → List Name
followers_of_in ps leader = map (λ p. p.1) (filter (λ p. bytes_eq p.0 leader) ps)
