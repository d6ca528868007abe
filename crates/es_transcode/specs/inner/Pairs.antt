-- What is found of two members.
use Rattle.std.specs.Prelude.{ℕ, ◌≡◌, List, Option, None, Some}
use Rattle.serde_json.specs.Data.{Data, Members, no_members, member}
use Rattle.es_transcode.specs.Decoding.{pair}

-- the two members that a body has found, if there are exactly two
abbrev pub AreTwo : Option ((List ℕ × Data) × (List ℕ × Data)) → Members → Type 0
AreTwo (Some p) ms = ms ≡ member p.0.0 p.0.1 (member p.1.0 p.1.1 no_members)
AreTwo None ms = (k l : List ℕ) (d e : Data) → ms ≡ member k d (member l e no_members) → ⊥

-- the data and the word that a body has found, if there is exactly this pair
abbrev pub IsPairOrNone : Option (Data × List ℕ) → Members → Type 0
IsPairOrNone (Some p) ms = ms ≡ pair p.0 p.1
IsPairOrNone None ms = (d : Data) (word : List ℕ) → ms ≡ pair d word → ⊥
