-- A text without its sign.
use Rattle.std.specs.Prelude.{ℕ, ◌≡◌, ◌==◌, Bool, false, List, [], ◌∷◌, if◌then◌else◌}

-- a text begins with a minus, or doesn't, and what is left without it
abbrev pub IsUnsigned : List ℕ → Bool → List ℕ → Type 0
IsUnsigned [] negative rest = (negative ≡ false) × (rest ≡ [])
IsUnsigned (b ∷ bs) negative rest = (negative ≡ b == 45) × (rest ≡ (if b == 45 then bs else b ∷ bs))
