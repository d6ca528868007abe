-- Walks over faults, one after another.
use Rattle.std.proofs.Common.{◌≡◌, ℕ, suc, zero, ◌<◌, ◌≤◌, List, [], ◌∷◌, ◌++◌, length, drop, get_or, Some, Result, Err, refl, sym, ap, subst, ◌∙◌, arith}
use Rattle.es_expr.specs.Finds.{first}
use Rattle.es_expr.specs.inner.Walks.{Finds}
use Rattle.es_expr.specs.Misfits.{each}
use Rattle.es_expr.specs.declared.misfit.Halt.{Halt}
use Rattle.es_expr.specs.declared.misfit.Halt.TheVariants.{Found, NoMemory}
use Rattle.es_expr.specs.declared.misfit.Misfit.{Misfit}

first-append : (xs ys : List Misfit) (m : Misfit) → first xs ≡ Some m → first (xs ++ ys) ≡ Some m
first-append [] ys m is = cc
first-append (x ∷ xs) ys m is = is

-- a walk that halts, with more behind it
pub stops : (xs ys : List Misfit) (h : Halt) → Finds xs (Err h) → Finds (xs ++ ys) (Err h)
stops xs ys (Found m) found = first-append xs ys m found
stops xs ys NoMemory found = tt

-- a walk that goes through, with more behind it
pub goes : (xs ys : List Misfit) (r : Result (Unit {0}) Halt) → xs ≡ [] → Finds ys r → Finds (xs ++ ys) r
goes xs ys r none found = subst (λ ms. Finds (ms ++ ys) r) (sym none) found

-- the faults of the items from a place on
pub each-step : {A : Type 0} (faults : ℕ → A → List Misfit) (xs : List A) (from place : ℕ) (x : A) → place < length xs → x ≡ get_or xs place x → each faults from (drop place xs) ≡ faults from x ++ each faults (suc from) (drop (suc place) xs)
each-step faults [] from place x within is = absurd (omega arith)
each-step faults (y ∷ xs) from zero x within is = ap (λ z. faults from z ++ each faults (suc from) xs) (sym is)
each-step faults (y ∷ xs) from (suc place) x within is = each-step faults xs from place x (omega arith) is

each-end : {A : Type 0} (faults : ℕ → A → List Misfit) (xs : List A) (from place : ℕ) → length xs ≤ place → each faults from (drop place xs) ≡ []
each-end faults [] from zero past = refl
each-end faults [] from (suc place) past = refl
each-end faults (y ∷ xs) from zero past = absurd (omega arith)
each-end faults (y ∷ xs) from (suc place) past = each-end faults xs from place (omega arith)

-- a walk over items, at a place: it goes on, halts there, or ends
module _ {A : Type 0} (faults : ℕ → A → List Misfit) (xs : List A) (place : ℕ) (at : each faults 0 xs ≡ each faults place (drop place xs)) where
  pub loop-on : (next : ℕ) (x : A) → next ≡ suc place → place < length xs → x ≡ get_or xs place x → faults place x ≡ [] → each faults 0 xs ≡ each faults next (drop next xs)
  loop-on next x is-next within is none =
      at ∙ each-step faults xs place place x within is ∙ ap (λ ms. ms ++ each faults (suc place) (drop (suc place) xs)) none
      ∙ ap (λ n. each faults n (drop n xs)) (sym is-next)

  pub loop-halts : (x : A) (h : Halt) (r : Result (Unit {0}) Halt) → r ≡ Err h → place < length xs → x ≡ get_or xs place x → Finds (faults place x) (Err h) → Finds (each faults 0 xs) r
  loop-halts x h r is-halt within is found =
      subst (Finds (each faults 0 xs)) (sym is-halt) (subst (λ ms. Finds ms (Err h)) (sym (at ∙ each-step faults xs place place x within is))
      (stops (faults place x) (each faults (suc place) (drop (suc place) xs)) h found))

  pub loop-ends : length xs ≤ place → each faults 0 xs ≡ []
  loop-ends past = at ∙ each-end faults xs place place past
