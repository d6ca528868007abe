-- What an index of a history holds.
use Rattle.std.specs.Prelude.{ℕ, ◌≡◌, ◌<◌, ◌+◌, List, [], ◌∷◌, ◌++◌, length, take, slice_index_or, if◌then◌else◌, String, Vec}
use Rattle.std.specs.BTreeMap.{BTreeMap, get_by_text}
use Rattle.std.specs.Map.{lookup}
use Rattle.std.specs.Option.{option_map_or}
use Rattle.std.specs.Str.{bytes_eq}
use Rattle.es_model.specs.declared.event.Cause.{Cause}
use Rattle.es_model.specs.declared.event.Cause.TheVariants.{Command, Notification}
use Rattle.es_model.specs.declared.event.Recording.{Recording}
use Rattle.es_model.specs.declared.event.StoredEvent.{StoredEvent}
use Rattle.es_model.specs.History.{log}
use Rattle.es_model.specs.Values.{Name, Id}
use Rattle.es_memory.specs.declared.index.Index.{Index}

-- the numbers that a map has at an id, and at a name
abbrev pub at_id : {A : Type 0} → BTreeMap Id (Vec ℕ A) → Id → List ℕ
at_id m id = option_map_or (λ v. v.items) (lookup (λ k. bytes_eq id k) m.entries) []

abbrev pub at_name : {A Y : Type 0} → BTreeMap (String Y) (Vec ℕ A) → Name → List ℕ
at_name m name = option_map_or (λ v. v.items) (get_by_text m name) []

-- the places of an originator's events, of which the first of all has this place
abbrev pub places_from : ℕ → List StoredEvent → Id → List ℕ
places_from first [] id = []
places_from first (e ∷ es) id = if bytes_eq e.originator_id id then first ∷ places_from (first + 1) es id else places_from (first + 1) es id

-- the notification id that a cause has of a leader, where it has one
abbrev pub id_in : Cause → Name → List ℕ
id_in (Command text) leader = []
id_in (Notification from id) leader = if bytes_eq from leader then id ∷ [] else []

-- those of a history
abbrev pub ids_in : List Recording → Name → List ℕ
ids_in [] leader = []
ids_in (r ∷ h) leader = id_in r.cause leader ++ ids_in h leader

-- how many events the first recordings have
abbrev pub size_to : List Recording → ℕ → ℕ
size_to h n = length (log (take n h))

-- an event of the log is in this recording at this place
abbrev pub IsPlace : List Recording → ℕ → ℕ × ℕ → Type 0
IsPlace h k p = (p.0 < length h) × (k ≡ size_to h p.0 + p.1) × (k < size_to h (p.0 + 1))

-- for each event of the log
abbrev pub ArePlaces : List Recording → List (ℕ × ℕ) → Type 0
ArePlaces h ps = (length ps ≡ length (log h)) × ((k : ℕ) (d : ℕ × ℕ) → k < length ps → IsPlace h k (slice_index_or ps k d))

-- the places of so many events of a recording are added
pub record AddsPlaces (recording count : ℕ) (old new : List (ℕ × ℕ)) : Type 0 where
  pub longer : length new ≡ length old + count
  pub before : (k : ℕ) (d : ℕ × ℕ) → k < length old → slice_index_or new k d ≡ slice_index_or old k d
  pub added : (k : ℕ) (d : ℕ × ℕ) → k < count → slice_index_or new (length old + k) d ≡ (recording, k)

-- an index holds what a history has
abbrev pub Stands : List Recording → Index → Type 0
Stands h i = ((id : Id) → at_id i.ids id ≡ places_from 0 (log h) id) × ((leader : Name) → at_name i.leaders leader ≡ ids_in h leader) × ArePlaces h i.places.items

-- each number is above the one before it, and the first above this one
abbrev pub Rises : ℕ → List ℕ → Type 0
Rises low [] = Unit {0}
Rises low (n ∷ ns) = (low < n) × Rises n ns
