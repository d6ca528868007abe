-- What holds of the applications and the pairs of a checked system.
use Rattle.std.proofs.Common.{◌≡◌, ◌∙◌, ℕ, zero, suc, ◌+◌, ◌<◌, IsTrue, Bool, true, false, ◌&&◌, not, List, [], ◌∷◌, ◌++◌, take, length, get_or, map, codes, refl, sym, ap, subst, arith, append_assoc, length-append}
use Rattle.std.specs.Prelude.{is_some}
use Rattle.std.specs.List.{Contains, list_all, list_any}
use Rattle.std.specs.Str.{bytes_eq}
use Rattle.std.proofs.lemmas.List.{get_or-take, length-map, length-take, take_at}
use Rattle.std.proofs.lemmas.List.Elements.{All-contains}
use Rattle.std.proofs.lemmas.List.Folds.{list_all-append, list_any_at}
use Rattle.std.proofs.lemmas.List.Sums.{AllPass-from_list_all}
use Rattle.std.proofs.lemmas.Slice.Eq.{bytes_eq-Decides}
use Rattle.std.proofs.Math.ListN.{get_or-map}
use Rattle.es_model.proofs.HistoryLemmas.{both_true}
use Rattle.es_model.specs.Declaration.{app_named}
use Rattle.es_model.specs.Values.{Name}
use Rattle.es_model.specs.declared.declaration.App.{App}
use Rattle.es_model.specs.declared.declaration.Code.TheVariants as code
use Rattle.es_model.specs.declared.declaration.System.{System}
use Rattle.es_expr.specs.Checked.{IsCheckedSystem}
use Rattle.es_expr.specs.Misfits.{unless, each, item, is_new, is_other, class_misfits, app_misfits, app_part_misfits, joined_misfits, pipe_misfits, misfits}
use Rattle.es_expr.specs.declared.misfit.Misfit.{Misfit}
use Rattle.es_expr.proofs.CheckedLemmas.{nil-left, nil-right, unless-true}
use Rattle.es_decl.specs.Distinct.{AreDistinct}
use Rattle.es_decl.specs.Pairs.{Pair, is_pair, with_new, gathered, neighbours, all_neighbours, pairs_of}
use Rattle.es_decl.proofs.KeptLemmas.{both}

opposed : (b : Bool) → b ≡ true → IsTrue (not b) → ⊥
opposed true holds fails = cc
opposed false holds fails = cc

-- ---- names

-- an item at a place has no fault
at-place : {A : Type 0} (faults : ℕ → A → List Misfit) (from : ℕ) (xs : List A) (place : ℕ) (d : A) → each faults from xs ≡ [] → place < length xs → faults (from + place) (get_or xs place d) ≡ []
at-place faults from [] place d none within = absurd (omega arith)
at-place faults from (x ∷ xs) zero d none within =
    let e : from + 0 ≡ from = omega arith in
    subst (λ n. faults n x ≡ []) (sym e) (nil-left (faults from x) (each faults (suc from) xs) none)
at-place faults from (x ∷ xs) (suc place) d none within =
    let e : suc from + place ≡ from + suc place = omega arith in
    subst (λ n. faults n (get_or xs place d) ≡ []) e (at-place faults (suc from) xs place d (nil-right (faults from x) (each faults (suc from) xs) none) (omega arith))

-- a name that is new at its place isn't that of an item before
new-at : {A : Type 0} (name_of : A → Name) (xs : List A) (i j : ℕ) (d : A) → i < j → j < length xs → IsTrue (is_new name_of (take j xs) (name_of (get_or xs j d)))
    → name_of (get_or xs i d) ≡ name_of (get_or xs j d) → ⊥
new-at name_of xs i j d less within new same =
    let n : Name = name_of (get_or xs j d) in
    let seen : get_or (take j xs) i d ≡ get_or xs i d = get_or-take j xs i d less in
    let equal : bytes_eq (name_of (get_or xs i d)) n ≡ true = (bytes_eq-Decides (name_of (get_or xs i d)) n).1 same in
    opposed (list_any (λ x. bytes_eq (name_of x) n) (take j xs))
    (list_any_at (λ x. bytes_eq (name_of x) n) (take j xs) i d (omega (arith, length-take j xs)) (subst (λ z. bytes_eq (name_of z) n ≡ true) (sym seen) equal)) new

differ-distinct : {A : Type 0} (name_of : A → Name) (xs : List A) → ((i j : ℕ) (d : A) → i < j → j < length xs → name_of (get_or xs i d) ≡ name_of (get_or xs j d) → ⊥) → AreDistinct (map name_of xs)
differ-distinct name_of [] differ = tt
differ-distinct name_of (x ∷ xs) differ = (
  λ (c : Contains (map name_of xs) (name_of x)). differ 0 (suc c.0) x (omega arith) (omega (arith, length-map xs name_of, c.1)) (sym (sym (get_or-map name_of xs c.0 x) ∙ c.2)),
  differ-distinct name_of xs (λ i j d less within same. differ (suc i) (suc j) d (omega arith) (omega arith) same),
)

new-name : (s : System) (place : ℕ) (a : App) → app_misfits s (codes "/apps") place a ≡ [] → IsTrue (is_new (λ (b : App). b.name) (take place s.apps) a.name)
new-name s place a none =
    unless-true (is_new (λ (b : App). b.name) (take place s.apps) a.name) code.Repeat (item (codes "/apps") place ++ codes "/name")
    (nil-left _ (app_part_misfits s (item (codes "/apps") place) a) none)

names-differ : (s : System) → misfits s ≡ [] → (i j : ℕ) (d : App) → i < j → j < length s.apps → (get_or s.apps i d).name ≡ (get_or s.apps j d).name → ⊥
names-differ s fits i j d less within =
    let classes : List Misfit = each (class_misfits s (codes "/classes")) 0 s.classes in
    let apps : List Misfit = each (app_misfits s (codes "/apps")) 0 s.apps in
    let pipes : List Misfit = each (pipe_misfits s (codes "/pipes")) 0 s.pipes in
    let e : 0 + j ≡ j = omega arith in
    let here = at-place (app_misfits s (codes "/apps")) 0 s.apps j d (nil-right classes apps (nil-left (classes ++ apps) pipes fits)) within in
    new-at (λ (a : App). a.name) s.apps i j d less within (new-name s j (get_or s.apps j d) (subst (λ n. app_misfits s (codes "/apps") n (get_or s.apps j d) ≡ []) e here))

-- no two applications of a checked system have the same name
pub names-distinct : (s : System) → IsCheckedSystem s → AreDistinct (map (λ (a : App). a.name) s.apps)
names-distinct s checked = differ-distinct (λ (a : App). a.name) s.apps (names-differ s checked.fits_together)

-- ---- pairs

-- both names of a pair are those of applications, and they aren't the same
abbrev fits : System → Pair → Bool
fits s p = is_some (app_named s.apps p.0) && is_some (app_named s.apps p.1) && not (bytes_eq p.0 p.1)

other-than-last : (before : List Name) (a b : Name) → is_other (before ++ a ∷ []) b ≡ not (bytes_eq a b)
other-than-last [] a b = refl
other-than-last (x ∷ []) a b = refl
other-than-last (x ∷ y ∷ before) a b = other-than-last (y ∷ before) a b

-- what a member of a pipe without a fault is
member-nil : (s : System) (pipe before rest : List Name) (path : List ℕ) (place : ℕ) (name : Name) → pipe ≡ before ++ rest → place ≡ length before → joined_misfits s pipe path place name ≡ []
    → IsTrue (is_some (app_named s.apps name)) × IsTrue (is_other before name)
member-nil s pipe before rest path place name split at none =
    let declared : List Misfit = unless (is_some (app_named s.apps name)) code.Unknown (item path place) in
    let other : List Misfit = unless (is_other (take place pipe) name) code.Pipe (item path place) in
    let front : take place pipe ≡ before = ap (take place) split ∙ take_at before rest place (sym at) in (
      unless-true (is_some (app_named s.apps name)) code.Unknown (item path place) (nil-left declared other none),
      subst (λ z. IsTrue (is_other z name)) front (unless-true (is_other (take place pipe) name) code.Pipe (item path place) (nil-right declared other none)),
    )

neighbours-fit : (s : System) (pipe before rest : List Name) (path : List ℕ) (place : ℕ) → pipe ≡ before ++ rest → place ≡ length before → each (joined_misfits s pipe path) place rest ≡ []
    → list_all (fits s) (neighbours rest) ≡ true
neighbours-fit s pipe before [] path place split at none = refl
neighbours-fit s pipe before (a ∷ []) path place split at none = refl
neighbours-fit s pipe before (a ∷ b ∷ rest) path place split at none =
    let next : List Misfit = each (joined_misfits s pipe path) (suc place) (b ∷ rest) in
    let later = nil-right (joined_misfits s pipe path place a) next none in
    let further : pipe ≡ (before ++ a ∷ []) ++ b ∷ rest = split ∙ sym (append_assoc before (a ∷ []) (b ∷ rest)) in
    let after : suc place ≡ length (before ++ a ∷ []) = omega (arith, length-append before (a ∷ []), at) in
    let first = member-nil s pipe before (a ∷ b ∷ rest) path place a split at (nil-left (joined_misfits s pipe path place a) next none) in
    let second = member-nil s pipe (before ++ a ∷ []) (b ∷ rest) path (suc place) b further after (nil-left (joined_misfits s pipe path (suc place) b) (each (joined_misfits s pipe path) (suc (suc place)) rest) later) in
    let unlike : not (bytes_eq a b) ≡ true = sym (other-than-last before a b) ∙ second.1 in
    both (fits s (a, b)) (list_all (fits s) (neighbours (b ∷ rest)))
    (both (is_some (app_named s.apps a) && is_some (app_named s.apps b)) (not (bytes_eq a b)) (both (is_some (app_named s.apps a)) (is_some (app_named s.apps b)) first.0 second.0) unlike)
    (neighbours-fit s pipe (before ++ a ∷ []) (b ∷ rest) path (suc place) further after later)

all-neighbours-fit : (s : System) (path : List ℕ) (place : ℕ) (pipes : List (List Name)) → each (pipe_misfits s path) place pipes ≡ [] → list_all (fits s) (all_neighbours pipes) ≡ true
all-neighbours-fit s path place [] none = refl
all-neighbours-fit s path place (pipe ∷ pipes) none =
    let here : List Misfit = pipe_misfits s path place pipe in
    let later : List Misfit = each (pipe_misfits s path) (suc place) pipes in
    list_all-append (fits s) (neighbours pipe) (all_neighbours pipes)
    ∙ both (list_all (fits s) (neighbours pipe)) (list_all (fits s) (all_neighbours pipes)) (neighbours-fit s pipe [] pipe (item path place) 0 refl refl (nil-left here later none)) (all-neighbours-fit s path (suc place) pipes (nil-right here later none))

new-passes : {A : Type 0} (q : A → Bool) (same : A → A → Bool) (b : Bool) (xs : List A) (x : A) → list_any (same x) xs ≡ b → list_all q xs ≡ true → q x ≡ true → list_all q (with_new same xs x) ≡ true
new-passes q same true xs x seen all one = rw seen all
new-passes q same false xs x seen all one = rw seen (list_all-append q xs (x ∷ []) ∙ both (list_all q xs) (list_all q (x ∷ [])) all (both (q x) true one refl))

gathered-pass : {A : Type 0} (q : A → Bool) (same : A → A → Bool) (xs ys : List A) → list_all q xs ≡ true → list_all q ys ≡ true → list_all q (gathered same xs ys) ≡ true
gathered-pass q same xs [] all more = all
gathered-pass q same xs (y ∷ ys) all more =
    let parts = both_true (q y) (list_all q ys) more in
    gathered-pass q same (with_new same xs y) ys (new-passes q same (list_any (same y) xs) xs y refl all parts.0) parts.1

pair-fits : (s : System) (p : Pair) → IsCheckedSystem s → Contains (pairs_of s.pipes) p → fits s p ≡ true
pair-fits s p checked there =
    let classes : List Misfit = each (class_misfits s (codes "/classes")) 0 s.classes in
    let apps : List Misfit = each (app_misfits s (codes "/apps")) 0 s.apps in
    let pipes : List Misfit = each (pipe_misfits s (codes "/pipes")) 0 s.pipes in
    let all : list_all (fits s) (pairs_of s.pipes) ≡ true =
    gathered-pass (fits s) is_pair [] (all_neighbours s.pipes) refl (all-neighbours-fit s (codes "/pipes") 0 s.pipes (nil-right (classes ++ apps) pipes checked.fits_together)) in
    All-contains (λ z. fits s z ≡ true) (pairs_of s.pipes) p (AllPass-from_list_all (fits s) (pairs_of s.pipes) all) there

declared-step : (b : Bool) (a : App) (apps : List App) (name : Name) → bytes_eq a.name name ≡ b → (is_some (app_named apps name) ≡ true → Contains (map (λ (c : App). c.name) apps) name)
    → is_some (app_named (a ∷ apps) name) ≡ true → Contains (map (λ (c : App). c.name) (a ∷ apps)) name
declared-step true a apps name here rest is = (0, omega arith, (bytes_eq-Decides a.name name).0 here)
declared-step false a apps name here rest is = let found = rest (rw here at is) in (suc found.0, omega (arith, found.1), found.2)

-- the name of a declared application is among the applications' names
pub declared-name : (apps : List App) (name : Name) → is_some (app_named apps name) ≡ true → Contains (map (λ (a : App). a.name) apps) name
declared-name [] name is = cc
declared-name (a ∷ apps) name is = declared-step (bytes_eq a.name name) a apps name refl (declared-name apps name) is

-- leader and follower of a checked system are declared applications
pub pair-declared : (s : System) (p : Pair) → IsCheckedSystem s → Contains (pairs_of s.pipes) p → Contains (map (λ (a : App). a.name) s.apps) p.0 × Contains (map (λ (a : App). a.name) s.apps) p.1
pair-declared s p checked there =
    let leader : Bool = is_some (app_named s.apps p.0) in
    let follower : Bool = is_some (app_named s.apps p.1) in
    let declared = both_true leader follower (both_true (leader && follower) (not (bytes_eq p.0 p.1)) (pair-fits s p checked there)).0 in
    (declared-name s.apps p.0 declared.0, declared-name s.apps p.1 declared.1)

-- no application of a checked system follows itself
pub pair-differs : (s : System) (p : Pair) → IsCheckedSystem s → Contains (pairs_of s.pipes) p → p.0 ≡ p.1 → ⊥
pair-differs s p checked there same =
    let both_declared : Bool = is_some (app_named s.apps p.0) && is_some (app_named s.apps p.1) in
    opposed (bytes_eq p.0 p.1) ((bytes_eq-Decides p.0 p.1).1 same) (both_true both_declared (not (bytes_eq p.0 p.1)) (pair-fits s p checked there)).1
