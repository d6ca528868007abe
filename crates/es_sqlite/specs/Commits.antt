-- What a stop may find after a call that writes.
use Rattle.std.specs.Prelude.{◌≡◌, Result, OnOk, IsErrOf}
use Rattle.sqlite.specs.State.{State, HasCleanDisk, Survives}
use Rattle.sqlite.specs.Tree.{Trees}
use Rattle.es_sqlite.specs.declared.stop.Stop.{Stop}
use Rattle.es_sqlite.specs.declared.stop.Stop.TheVariants.{NoMemory}

-- what was there before the call, or one more database: the call commits once
abbrev pub CommitsOnce : State → State → Type 0
CommitsOnce old new = (made : Trees) × Survives old new (λ db. db ≡ made)

-- after want of memory no more than what was there before
abbrev pub CommitsNothing : State → State → Result (Unit {0}) Stop → Type 0
CommitsNothing old new result = IsErrOf result NoMemory → Survives old new (λ _. ⊥)

-- what is acknowledged is all that a stop can find
abbrev pub IsCommitted : State → Result (Unit {0}) Stop → Type 0
IsCommitted new result = HasCleanDisk new → OnOk result ((db : Trees) → new.may_leave db → db ≡ new.now.trees)
