-- What a body has found when it looks into a tree.
use Rattle.std.specs.Prelude.{ℕ, ◌≡◌, ◌≤◌, ◌<◌, ◌+◌, ◌⊎◌, List, [], ◌∷◌, length, Option, None, Some, String, string_bytes}
use Rattle.std.specs.declared.alloc.Global.{Global}
use Rattle.serde_json.specs.declared.value.Value.{Value}
use denote.Ref.{Bor}

-- the one member of an object
abbrev pub IsOnly : Option (Bor (List ℕ) × Bor Value) → List (String Global × Value) → Type 0
IsOnly (Some p) es = (k : String Global) × (es ≡ (k, p.1.now) ∷ []) × (p.0.now ≡ string_bytes k)
IsOnly None es = length es ≡ 1 → ⊥

-- exactly so many items
abbrev pub IsSingle : Option (Bor Value) → List Value → Type 0
IsSingle (Some a) vs = vs ≡ a.now ∷ []
IsSingle None vs = length vs ≡ 1 → ⊥

abbrev pub IsPair : Option (Bor Value × Bor Value) → List Value → Type 0
IsPair (Some p) vs = vs ≡ p.0.now ∷ p.1.now ∷ []
IsPair None vs = length vs ≡ 2 → ⊥

abbrev pub IsTriple : Option (Bor Value × Bor Value × Bor Value) → List Value → Type 0
IsTriple (Some p) vs = vs ≡ p.0.now ∷ p.1.now ∷ p.2.now ∷ []
IsTriple None vs = length vs ≡ 3 → ⊥

-- of a budget of levels and nodes what is left, or that it doesn't suffice
abbrev pub Spent : ℕ → ℕ → ℕ → ℕ → Option ℕ → Type 0
Spent depth nodes levels budget (Some left) = (depth ≤ levels) × (left + nodes ≡ budget)
Spent depth nodes levels budget None = (levels < depth) ⊎ (budget < nodes)
