-- The map that a list of contents stands for: of a name the first counts.
use Rattle.std.specs.Prelude.{ℕ, suc, Bool, true, false, List, [], ◌∷◌, if◌then◌else◌, All, slice_index_or}
use Rattle.std.proofs.Common.{refl, lit<, arith}
use Rattle.std.specs.Str.{bytes_eq}
use Rattle.es_model.specs.declared.event.Recording.{Recording}
use Rattle.es_model.specs.declared.snapshot.Snapshot.{Snapshot}
use Rattle.es_model.specs.History.{IsFormed}
use Rattle.es_model.specs.Snapshots.{AreSnapshots}
use Rattle.es_model.specs.Values.{Name}
use Rattle.es_memory.specs.declared.content.Content.{Content}

-- the history of a name, empty where it has no entry
abbrev pub histories_of : List Content → Name → List Recording
histories_of [] name = []
histories_of (c ∷ cs) name = if bytes_eq name c.app then c.recordings else histories_of cs name

-- the snapshots of a name, none where it has no entry
abbrev pub snapshots_of : List Content → Name → List Snapshot
snapshots_of [] name = []
snapshots_of (c ∷ cs) name = if bytes_eq name c.app then c.snapshots.items else snapshots_of cs name

-- the place of a name's first entry, or the number of entries
abbrev pub place_of : List Content → Name → ℕ
place_of [] name = 0
place_of (c ∷ cs) name = if bytes_eq name c.app then 0 else suc (place_of cs name)

-- every history is formed
abbrev pub AreFormed : List Content → Type 0
AreFormed cs = All (λ c. IsFormed c.recordings) cs

-- the flag at the place of a name's first entry; one that isn't there is false
abbrev pub flag_of : List Content → List Bool → Name → Bool
flag_of cs flags name = slice_index_or flags (place_of cs name) false

-- no history at all is formed
pub IsFormed-none : IsFormed []
IsFormed-none = record { versions = refl; causes = refl; few = lit< tt; few_events = lit< tt }

-- where every history is formed, so is that of each name
pub histories_of-formed : (cs : List Content) → AreFormed cs → (name : Name) → IsFormed (histories_of cs name)
histories_of-formed [] all name = IsFormed-none
histories_of-formed (c ∷ cs) all name =
    elim (bytes_eq name c.app) as (λ b. IsFormed (if b then c.recordings else histories_of cs name)) [
      | true ↦ all 0 c (omega arith)
      | false ↦ histories_of-formed cs (λ k d within. all (suc k) d (omega arith)) name
    ]

-- the snapshots of each name have each pair of id and version once
pub snapshots_of-once : (cs : List Content) → (name : Name) → AreSnapshots (snapshots_of cs name)
snapshots_of-once [] name = record { once = λ i j d before within. absurd (omega arith); small = λ k d within. absurd (omega arith) }
snapshots_of-once (c ∷ cs) name =
    elim (bytes_eq name c.app) as (λ b. AreSnapshots (if b then c.snapshots.items else snapshots_of cs name)) [
      | true ↦ c.snapshots.once
      | false ↦ snapshots_of-once cs name
    ]
