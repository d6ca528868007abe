-- The first of some faults.
use Rattle.std.specs.Prelude.{List, [], ◌∷◌, Option, None, Some}
use Rattle.es_expr.specs.declared.misfit.Misfit.{Misfit}

-- the first of some faults
abbrev pub first : List Misfit → Option Misfit
first [] = None
first (m ∷ ms) = Some m
