-- What a stop surely leaves of a history.
use Rattle.std.specs.Prelude.{◌≡◌, List, [], ◌++◌, Option, Some, None, Result, Ok, Err}
use Rattle.std.proofs.Common.{sym, append-nil}
use Rattle.es_model.specs.declared.event.Recording.{Recording}
use Rattle.es_model.specs.History.{Histories}
use Rattle.es_model.specs.Values.{Name}
use Rattle.es_model.specs.declared.memory.CallFault.{CallFault}
use Rattle.es_model.specs.declared.memory.CallFault.TheVariants.{Failed, NoMemory}

-- one list is a front of another
abbrev pub IsPrefix : List Recording → List Recording → Type 0
IsPrefix front whole = (rest : List Recording) × (whole ≡ front ++ rest)

-- the same where both are told
abbrev pub IsPrefixTold : Option (List Recording) → Option (List Recording) → Type 0
IsPrefixTold None whole = Unit {0}
IsPrefixTold (Some front) None = Unit {0}
IsPrefixTold (Some front) (Some whole) = IsPrefix front whole

-- the same of something for each name
abbrev pub ArePrefixesTold : Option Histories → Option Histories → Type 0
ArePrefixesTold None whole = Unit {0}
ArePrefixesTold (Some front) None = Unit {0}
ArePrefixesTold (Some front) (Some whole) = (name : Name) → IsPrefix (front name) (whole name)

-- where it is told, it can only grow, and is told still
abbrev pub GrowsTold : Option (List Recording) → Option (List Recording) → Type 0
GrowsTold None new = Unit {0}
GrowsTold (Some front) None = ⊥
GrowsTold (Some front) (Some whole) = IsPrefix front whole

-- a call that adds nothing leaves it, but after a failure it may have grown
abbrev pub KeepsStable : {T : Type 0} → Option (List Recording) → Option (List Recording) → Result T CallFault → Type 0
KeepsStable old new (Ok x) = new ≡ old
KeepsStable old new (Err Failed) = GrowsTold old new
KeepsStable old new (Err NoMemory) = new ≡ old

-- a list is a front of itself
pub IsPrefix-same : (h : List Recording) → IsPrefix h h
IsPrefix-same h = ([], sym (append-nil h))

-- a history is a front of itself
pub IsPrefixTold-same : (h : Option (List Recording)) → IsPrefixTold h h
IsPrefixTold-same None = tt
IsPrefixTold-same (Some h) = IsPrefix-same h
