-- Parts of a list.
use Rattle.std.specs.Prelude.{ℕ, ◌-◌, Bool, List, length, drop, if◌then◌else◌, Option, Some, None}
use Rattle.es_recorder.specs.Selections.{first_of}

-- the last so many, where a limit is given
abbrev pub last_of : {A : Type 0} → Option ℕ → List A → List A
last_of None xs = xs
last_of (Some limit) xs = drop (length xs - limit) xs

-- the first so many, or the last so many
abbrev pub ends_of : {A : Type 0} → Bool → Option ℕ → List A → List A
ends_of from_last limit xs = if from_last then last_of limit xs else first_of limit xs
