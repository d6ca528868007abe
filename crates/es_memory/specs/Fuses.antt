-- What a fuse lets through.
use Rattle.std.specs.Prelude.{◌≡◌, ◌+◌, ◌-◌, ◌^◌, ℕ, nat_lt, min, Bool, ◌&&◌, if◌then◌else◌, Result, Ok, Err, IsErrOf}
use Rattle.es_model.specs.declared.memory.CallFault.{CallFault}
use Rattle.es_model.specs.declared.memory.CallFault.TheVariants.{Failed}
use Rattle.es_memory.specs.declared.fuse.FuseRecorder.{FuseRecorder}

-- how many calls still pass
abbrev pub calls_left : FuseRecorder → ℕ
calls_left f = f.left

-- whether the next call that fails takes effect
abbrev pub takes_effect : FuseRecorder → Bool
takes_effect f = f.after

-- the fuse after a call that changes nothing else: one less passes, or one more has failed
abbrev pub burnt : FuseRecorder → FuseRecorder
burnt f = record f { left = f.left - 1; after = f.after && nat_lt 0 f.left; faults = if nat_lt 0 f.left then f.faults else min (f.faults + 1) (2 ^ 64 - 1) }

-- the answer of a call that fails only by the fuse
abbrev pub answer : {T : Type 0} → FuseRecorder → T → Result T CallFault
answer f x = if nat_lt 0 f.left then Ok x else Err Failed

-- a call fails exactly where none is left
pub record FailsAt {T E : Type 0} (f : FuseRecorder) (failed : E) (result : Result T E) : Type 0 where
  pub spent : IsErrOf result failed → f.left ≡ 0
  pub always : f.left ≡ 0 → result ≡ Err failed
