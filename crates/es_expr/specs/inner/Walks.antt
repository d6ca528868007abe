-- How a walk over the faults of a system ends.
use Rattle.std.specs.Prelude.{◌≡◌, List, [], Some, Result, Ok, Err}
use Rattle.es_expr.specs.Finds.{first}
use Rattle.es_expr.specs.declared.misfit.Halt.{Halt}
use Rattle.es_expr.specs.declared.misfit.Halt.TheVariants.{Found, NoMemory}
use Rattle.es_expr.specs.declared.misfit.Misfit.{Misfit}

-- a walk goes through where there is no fault, and halts with the first one
abbrev pub Finds : List Misfit → Result (Unit {0}) Halt → Type 0
Finds ms (Ok done) = ms ≡ []
Finds ms (Err (Found m)) = first ms ≡ Some m
Finds ms (Err NoMemory) = Unit {0}
