-- The environments of expressions are in rising order.
use Rattle.std.proofs.Common.{◌≡◌, ℕ, ◌≤◌, length, get_or, IsTrue, List, [], ◌∷◌, ◌++◌, refl, sym, subst, ◌∙◌, codes, arith}
use Rattle.std.proofs.lemmas.Bool.Decides.{nat_tests}
use Rattle.std.proofs.lemmas.List.{append-nil}
use Rattle.std.specs.Ordering.{nat_cmp}
use Rattle.std.specs.declared.cmp.Ordering.TheVariants.{Equal}
use Rattle.es_model.specs.Values.{Name}
use Rattle.es_model.specs.Rising.{is_before, IsRising, comes_first, comes_last}
use Rattle.es_expr.specs.Environments.{prefixed, creating_env, command_env, created_env, assign_env}

-- one list behind another

pub IsRising-append : {A : Type 0} (xs : List (Name × A)) (y : Name × A) (ys : List (Name × A)) → IsRising xs → IsTrue (comes_last xs y.0) → IsRising (y ∷ ys) → IsRising (xs ++ y ∷ ys)
IsRising-append [] y ys rising last behind = behind
IsRising-append (x ∷ []) y ys rising last behind = (last, behind)
IsRising-append (x ∷ z ∷ xs) y ys rising last behind = (rising.0, IsRising-append (z ∷ xs) y ys rising.1 last behind)

-- an entry of a rising list comes after all that is in front of it
pub comes_last-front : {A : Type 0} (xs : List (Name × A)) (y : Name × A) (ys : List (Name × A)) → IsRising (xs ++ y ∷ ys) → IsTrue (comes_last xs y.0)
comes_last-front [] y ys rising = refl
comes_last-front (x ∷ []) y ys rising = rising.0
comes_last-front (x ∷ z ∷ xs) y ys rising = comes_last-front (z ∷ xs) y ys rising.1

-- the next name that is added, of items with a word before their names
pub comes_last-next : {A : Type 0} (front items : List (Name × A)) (w name : Name) (x : Name × A) → IsRising (front ++ prefixed w items) → 1 ≤ length items → name ≡ w ++ (get_or items 0 x).0 → IsTrue (comes_last front name)
comes_last-next front [] w name x rising some is = absurd (omega arith)
comes_last-next front (y ∷ ys) w name x rising some is =
    subst (λ n. IsTrue (comes_last front n)) (sym is) (comes_last-front front (w ++ y.0, y.1) (prefixed w ys) rising)

-- what comes after the last of two lists comes after both
comes_last-append : {A : Type 0} (xs : List (Name × A)) (y : Name × A) (ys : List (Name × A)) (name : Name) → comes_last (xs ++ y ∷ ys) name ≡ comes_last (y ∷ ys) name
comes_last-append [] y ys name = refl
comes_last-append (x ∷ []) y ys name = refl
comes_last-append (x ∷ z ∷ xs) y ys name = comes_last-append (z ∷ xs) y ys name

-- names with one word before them

nat_cmp-same : (c : ℕ) → nat_cmp c c ≡ Equal
nat_cmp-same c = grind (arith, nat_tests)

is_before-step : (c : ℕ) (a b : Name) → is_before (c ∷ a) (c ∷ b) ≡ is_before a b
is_before-step c a b = rw (nat_cmp-same c)

is_before-prefixed : (w a b : Name) → is_before (w ++ a) (w ++ b) ≡ is_before a b
is_before-prefixed [] a b = refl
is_before-prefixed (c ∷ w) a b = is_before-step c (w ++ a) (w ++ b) ∙ is_before-prefixed w a b

comes_first-prefixed : {A : Type 0} (w name : Name) (xs : List (Name × A)) → comes_first (w ++ name) (prefixed w xs) ≡ comes_first name xs
comes_first-prefixed w name [] = refl
comes_first-prefixed w name (x ∷ xs) = is_before-prefixed w name x.0

IsRising-prefixed : {A : Type 0} (w : Name) (xs : List (Name × A)) → IsRising xs → IsRising (prefixed w xs)
IsRising-prefixed w [] rising = tt
IsRising-prefixed w (x ∷ xs) rising = (subst IsTrue (sym (comes_first-prefixed w x.0 xs)) rising.0, IsRising-prefixed w xs rising.1)

-- a list with one word before its names, behind a list whose last name comes before all of these
IsRising-behind : {A : Type 0} (front xs : List (Name × A)) (w : Name) → IsRising front → IsRising xs → ((n : Name) → IsTrue (comes_last front (w ++ n))) → IsRising (front ++ prefixed w xs)
IsRising-behind front [] w rising names last = subst IsRising (sym (append-nil front)) rising
IsRising-behind front (x ∷ xs) w rising names last =
    IsRising-append front (w ++ x.0, x.1) (prefixed w xs) rising (last x.0) (IsRising-prefixed w (x ∷ xs) names)

comes_last-prefixed : {A : Type 0} (w name : Name) (xs : List (Name × A)) → ((n : Name) → IsTrue (is_before (w ++ n) name)) → IsTrue (comes_last (prefixed w xs) name)
comes_last-prefixed w name [] after = refl
comes_last-prefixed w name (x ∷ []) after = after x.0
comes_last-prefixed w name (x ∷ y ∷ xs) after = comes_last-prefixed w name (y ∷ xs) after

-- a name that comes after both
comes_last-behind : {A : Type 0} (front xs : List (Name × A)) (w name : Name) → IsTrue (comes_last front name) → ((n : Name) → IsTrue (is_before (w ++ n) name)) → IsTrue (comes_last (front ++ prefixed w xs) name)
comes_last-behind front [] w name last after = subst (λ e. IsTrue (comes_last e name)) (sym (append-nil front)) last
comes_last-behind front (x ∷ xs) w name last after =
    subst IsTrue (sym (comes_last-append front (w ++ x.0, x.1) (prefixed w xs) name)) (comes_last-prefixed w name (x ∷ xs) after)

-- the environments

pub IsRising-creating : {A : Type 0} (args : List (Name × A)) (id at : A) → IsRising args → IsRising (creating_env args id at)
IsRising-creating args id at rising =
    IsRising-append (prefixed (codes "arg.") args) (codes "at", at) ((codes "id", id) ∷ []) (IsRising-prefixed (codes "arg.") args rising)
    (comes_last-prefixed (codes "arg.") (codes "at") args (λ n. refl)) (refl, (refl, tt))

pub IsRising-created : {A : Type 0} (event : List (Name × A)) (id at : A) → IsRising event → IsRising (created_env event id at)
IsRising-created event id at rising =
    IsRising-append ((codes "at", at) ∷ prefixed (codes "event.") event) (codes "id", id) []
    (IsRising-behind ((codes "at", at) ∷ []) event (codes "event.") (refl, tt) rising (λ n. refl))
    (comes_last-behind ((codes "at", at) ∷ []) event (codes "event.") (codes "id") refl (λ n. refl)) (refl, tt)

-- what ends at `id`, and then the aggregate's fields and version
IsRising-self : {A : Type 0} (front : List (Name × A)) (self : List (Name × A)) (version : A) → IsRising front → IsRising self → ((name : Name) → comes_last front name ≡ is_before (codes "id") name) → IsRising (front ++ prefixed (codes "self.") self ++ (codes "version", version) ∷ [])
IsRising-self front self version rising names last =
    IsRising-append (front ++ prefixed (codes "self.") self) (codes "version", version) []
    (IsRising-behind front self (codes "self.") rising names (λ n. last (codes "self." ++ n)))
    (comes_last-behind front self (codes "self.") (codes "version") (last (codes "version")) (λ n. refl)) (refl, tt)

pub IsRising-command : {A : Type 0} (args : List (Name × A)) (id at : A) (self : List (Name × A)) (version : A) → IsRising args → IsRising self → IsRising (command_env args id at self version)
IsRising-command args id at self version rising names =
    IsRising-self (creating_env args id at) self version (IsRising-creating args id at rising) names
    (comes_last-append (prefixed (codes "arg.") args) (codes "at", at) ((codes "id", id) ∷ []))

pub IsRising-assign : {A : Type 0} (event : List (Name × A)) (id at : A) (self : List (Name × A)) (version : A) → IsRising event → IsRising self → IsRising (assign_env event id at self version)
IsRising-assign event id at self version rising names =
    IsRising-self (created_env event id at) self version (IsRising-created event id at rising) names
    (comes_last-append ((codes "at", at) ∷ prefixed (codes "event.") event) (codes "id", id) [])

-- the same, step by step as an environment is made

pub IsRising-front : {A : Type 0} (xs : List (Name × A)) (y : Name × A) (ys : List (Name × A)) → IsRising (xs ++ y ∷ ys) → IsRising xs
IsRising-front [] y ys rising = tt
IsRising-front (x ∷ []) y ys rising = (refl, tt)
IsRising-front (x ∷ z ∷ xs) y ys rising = (rising.0, IsRising-front (z ∷ xs) y ys rising.1)

-- after a name was added
pub comes_last-pushed : {A : Type 0} (env old : List (Name × A)) (y : Name × A) (name : Name) → env ≡ old ++ y ∷ [] → IsTrue (is_before y.0 name) → IsTrue (comes_last env name)
comes_last-pushed env old y name is before =
    subst (λ e. IsTrue (comes_last e name)) (sym is) (subst IsTrue (sym (comes_last-append old y [] name)) before)

-- after items were added whose word comes before a name
pub comes_last-extended : {A : Type 0} (env old items : List (Name × A)) (w name : Name) → env ≡ old ++ prefixed w items → IsTrue (comes_last old name) → ((n : Name) → IsTrue (is_before (w ++ n) name)) → IsTrue (comes_last env name)
comes_last-extended env old items w name is last after =
    subst (λ e. IsTrue (comes_last e name)) (sym is) (comes_last-behind old items w name last after)

-- where items are to be added
pub IsRising-extended : {A : Type 0} (env front items : List (Name × A)) (w : Name) → env ≡ front → IsRising front → IsRising items → ((n : Name) → IsTrue (comes_last front (w ++ n))) → IsRising (env ++ prefixed w items)
IsRising-extended env front items w is rising names last =
    subst (λ e. IsRising (e ++ prefixed w items)) (sym is) (IsRising-behind front items w rising names last)
