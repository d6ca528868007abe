-- When a system is checked.
use Rattle.std.specs.Prelude.{◌≡◌, IsTrue, []}
use Rattle.es_model.specs.declared.declaration.System.{System}
use Rattle.es_expr.specs.Limits.{is_within}
use Rattle.es_expr.specs.Misfits.{misfits}

-- all its names are well formed, all is within the limits, and all fits together
pub record IsCheckedSystem (s : System) : Type 0 where
  pub within : IsTrue (is_within s)
  pub fits_together : misfits s ≡ []
