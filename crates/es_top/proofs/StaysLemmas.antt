-- What calls leave of a reader of lines, and of a runner.
use Rattle.std.proofs.Common.{◌≡◌, ◌∙◌, ℕ, List, Option, refl, sym, subst, arith}
use Rattle.es_io.specs.declared.lines.Lines.{Lines}
use Rattle.es_io.specs.LinesLeft.{source_of, may_take, EndsRightly}
use Rattle.es_io.proofs.LinesLemmas.{TakesAtMost-none, TakesAtMost-then}
use Rattle.es_process.specs.declared.application.Application.{Application}
use Rattle.es_process.specs.Standing.{AllStay, Later, SomeRose}
use Rattle.es_process.proofs.HoldsLemmas.{all-none, all-then}
use Rattle.es_single.specs.declared.runner.SingleRunner.{SingleRunner}
use Rattle.es_single.specs.Runner.{GoesOn, apps_of}
use Rattle.es_top.specs.inner.Stays.{LinesStay}

-- none was called
pub lines-none : {S : Type 0} (left : S → Option (List ℕ)) (faults : S → ℕ) (l : Lines S) → EndsRightly left l → LinesStay left faults l l
lines-none left faults l ends = record { source = refl; bound = TakesAtMost-none (left (source_of l).now) (may_take l); later = omega arith; ends = ends }

-- one after another
pub lines-then : {S : Type 0} {left : S → Option (List ℕ)} {faults : S → ℕ} {a b c : Lines S} → LinesStay left faults a b → LinesStay left faults b c → LinesStay left faults a c
lines-then {left = left} {a = a} {b = b} {c = c} x y = record {
  source = y.source ∙ x.source;
  bound = TakesAtMost-then (left (source_of a).now) (left (source_of b).now) (left (source_of c).now) (may_take a) (may_take b) (may_take c) x.bound y.bound;
  later = omega (arith, x.later, y.later);
  ends = y.ends;
}

-- a runner, likewise
pub runner-none : {R : Type 0} (faults : R → ℕ) (r : SingleRunner R) → GoesOn faults r r
runner-none faults r = record { system = refl; applications = all-none faults (apps_of r) }

pub runner-then : {R : Type 0} {faults : R → ℕ} {a b c : SingleRunner R} → GoesOn faults a b → GoesOn faults b c → GoesOn faults a c
runner-then x y = record { system = y.system ∙ x.system; applications = all-then x.applications y.applications }

-- a count that rose is risen after other calls
pub rose-before : {R : Type 0} (faults : R → ℕ) (a b c : List (Application R)) → SomeRose faults a b → Later faults b c → SomeRose faults a c
rose-before faults a b c (i, rose) later = (i, omega (arith, rose, later i))

-- the applications that a runner gives back, lent again
pub lent-stay : {R : Type 0} (faults : R → ℕ) (items lent : List (Application R)) (old new : SingleRunner R) → apps_of old ≡ items → lent ≡ apps_of new → GoesOn faults old new → AllStay faults items lent
lent-stay faults items lent old new begun is x = subst (λ xs. AllStay faults xs lent) begun (subst (λ xs. AllStay faults (apps_of old) xs) (sym is) x.applications)

-- a recorder of theirs that failed
pub lent-rose : {R : Type 0} (faults : R → ℕ) (items lent : List (Application R)) (old new : SingleRunner R) → apps_of old ≡ items → lent ≡ apps_of new → SomeRose faults (apps_of old) (apps_of new) → SomeRose faults items lent
lent-rose faults items lent old new begun is rose = subst (λ xs. SomeRose faults xs lent) begun (subst (λ xs. SomeRose faults (apps_of old) xs) (sym is) rose)
