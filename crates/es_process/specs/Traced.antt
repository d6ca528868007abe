-- What an object may have held before a call, by what it may hold after it.
use Rattle.std.specs.Prelude.{Option, Some}
use Rattle.es_io.specs.Remains.{MayHold}

-- whatever the object may hold afterwards, there is something that it may have held before, and of these two this holds
abbrev pub Traced : {A : Type 0} → Option A → Option A → (Option A → Option A → Type 0) → Type 0
Traced {A} old new P = (after : A) → MayHold new after → (before : A) × MayHold old before × P (Some before) (Some after)
