-- An input and readings that may be untold.
use Rattle.std.proofs.Common.{◌≡◌, ℕ, pos, List, [], Option, Some, None, refl}
use Rattle.es_io.specs.Readings.{Readings}
use Rattle.es_io.specs.Remains.{MayHold}
use Rattle.es_top.specs.declared.serve.Stop.{Stop}
use Rattle.es_top.specs.declared.serve.Stop.TheVariants as stop

-- a clock may have some readings to give
pub some_readings : (w : Option Readings) → (r : Readings) × MayHold w r
some_readings None = (record { next = []; after = pos 0 }, tt)
some_readings (Some told) = (told, refl)

-- what is left of the lines, and what their reader may have left: the same where reading failed
pub choose_rest : (why : Stop) (left told : List ℕ → Type 0) → ((b : List ℕ) × left b) → ((r : List ℕ) × told r) → (why ≡ stop.Read → (b : List ℕ) → told b → left b) → (b : List ℕ) × (rest : List ℕ) × left b × told rest × (why ≡ stop.Read → b ≡ rest)
choose_rest stop.Read left told b r reads = (r.0, r.0, reads refl r.0 r.1, r.1, λ is. refl)
choose_rest k left told b r reads = (b.0, r.0, b.1, r.1, λ is. absurd (cc is))
