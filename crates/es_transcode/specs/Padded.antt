-- Numbers with so many digits.
use Rattle.std.specs.Prelude.{ℕ, zero, suc, ◌+◌, ◌/◌, ◌%◌, List, [], ◌∷◌, ◌++◌}

-- the last digits of a number, so many of them, with zeros in front
abbrev pub padded : ℕ → ℕ → List ℕ
padded zero n = []
padded (suc places) n = padded places (n / 10) ++ (48 + n % 10) ∷ []
