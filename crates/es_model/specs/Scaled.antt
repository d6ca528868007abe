-- Decimals as numbers.
use Rattle.std.specs.Prelude.{ℕ, ℤ}

-- so many units of which ten to the power `scale` make one
pub record Scaled : Type 0 where
  pub digits : ℤ
  pub scale : ℕ
