-- The histories that are told for each application.
use Rattle.std.specs.Prelude.{ℕ, suc, List, [], ◌∷◌, if◌then◌else◌, All}
use Rattle.std.specs.Str.{bytes_eq}
use Rattle.es_model.specs.History.{Histories, IsFormed}
use Rattle.es_model.specs.Values.{Name}
use Rattle.es_world.specs.declared.steps.AppHistory.{AppHistory}

-- the recordings of a name, none where it has no entry
abbrev pub histories_in : List AppHistory → Histories
histories_in [] name = []
histories_in (a ∷ apps) name = if bytes_eq name a.app then a.recordings else histories_in apps name

-- the place of a name's first entry, or the number of entries
abbrev pub place_in : List AppHistory → Name → ℕ
place_in [] name = 0
place_in (a ∷ apps) name = if bytes_eq name a.app then 0 else suc (place_in apps name)

-- every history is formed
abbrev pub AreFormed : List AppHistory → Type 0
AreFormed apps = All (λ a. IsFormed a.recordings) apps
