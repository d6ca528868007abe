-- What a reader over a recorder tells, and what it keeps.
use Rattle.std.specs.Prelude.{ℕ, ◌^◌, ◌≡◌, Bool, List, [], ◌∷◌, ◌++◌, map, if◌then◌else◌, Option, None, Some, Result, Ok, Err}
use Rattle.std.specs.List.{list_any}
use Rattle.std.specs.Option.{option_map}
use Rattle.std.specs.Str.{bytes_eq}
use Rattle.es_model.specs.History.{log}
use Rattle.es_model.specs.Values.{Id}
use Rattle.es_model.specs.declared.declaration.System.{System}
use Rattle.es_model.specs.declared.event.Recording.{Recording}
use Rattle.es_model.specs.declared.event.StoredEvent.{StoredEvent}
use Rattle.es_model.specs.declared.snapshot.Snapshot.{Snapshot}
use Rattle.es_mapper.specs.Mapped.{event_of}
use Rattle.es_domain.specs.inner.Overlay.{IsBelow}
use Rattle.es_domain.specs.Readings.{Reading, folded, unreadable, Told}
use Rattle.es_domain.specs.declared.aggregate.Aggregate.{Aggregate}
use Rattle.es_domain.specs.declared.find.FindFault.{FindFault}
use Rattle.es_domain.specs.declared.find.FindFault.TheVariants.{Unreadable, Failed, NoMemory}
use Rattle.es_repo.specs.Readings.{notifications_of, advanced_by}
use Rattle.es_repo.specs.declared.folding.Folded.{Folded}
use Rattle.es_repo.specs.declared.folding.Folded.TheVariants.{Whole, Stuck}
use Rattle.es_repo.specs.declared.reader.Reader.{Reader}

-- the notifications of each id that was asked for
abbrev pub told_by : List Id → List Recording → Told
told_by asked h = map (λ id. (id, notifications_of (log h) id)) asked

-- the same where the recorder tells its history
abbrev pub told_of : List Id → Option (List Recording) → Option Told
told_of asked history = option_map (told_by asked) history

-- what no call changes: which recorder it is, and what that holds
pub record Kept : Type 0 where
  pub reference : ℕ
  pub history : Option (List Recording)
  pub settled : Bool
  pub snapshots : Option (List Snapshot)
  pub capacity : ℕ

abbrev pub kept_of : {R : Type 0} → (R → Option (List Recording)) → (R → Bool) → (R → Option (List Snapshot)) → (R → ℕ) → Reader R → Kept
kept_of history settled snapshots capacity r = record {
  reference = r.recorder.ghost_name;
  history = history r.recorder.now;
  settled = settled r.recorder.now;
  snapshots = snapshots r.recorder.now;
  capacity = capacity r.recorder.now;
}

-- what some events make of no aggregate, or of one, or the version of the first of them that has no meaning
abbrev pub after_event : ℕ → Option Aggregate → (Aggregate → Folded) → Folded
after_event version None rest = Stuck version
after_event version (Some a) rest = rest a

abbrev pub folded_from : System → Option Aggregate → List StoredEvent → Folded
folded_from sys found [] = Whole found
folded_from sys found (e ∷ es) = after_event e.originator_version (advanced_by sys found (event_of sys e)) (λ a. folded_from sys (Some a) es)

-- an aggregate that was made has its fields, a small version and nothing pending
abbrev pub IsWhole : System → Folded → Type 0
IsWhole sys (Whole None) = Unit {0}
IsWhole sys (Whole (Some a)) = IsBelow sys (2 ^ 62) a
IsWhole sys (Stuck version) = Unit {0}

-- an id among those that were asked for
abbrev pub is_among : List Id → Id → Bool
is_among asked id = list_any (λ x. bytes_eq x id) asked

-- each id stands among them once
abbrev pub noted : List Id → Id → List Id
noted asked id = if is_among asked id then asked else asked ++ id ∷ []

-- an answer that was found is noted, another one isn't
abbrev pub Notes : List Id → Id → Result (Option Aggregate) FindFault → List Id → Result (Option Aggregate) FindFault → Type 0
Notes asked id answer new (Ok found) = (answer ≡ Ok found) × (new ≡ noted asked id)
Notes asked id answer new (Err (Unreadable n)) = (answer ≡ Err (Unreadable n)) × (new ≡ noted asked id)
Notes asked id answer new (Err Failed) = (answer ≡ Err Failed) × (new ≡ asked)
Notes asked id answer new (Err NoMemory) = new ≡ asked

-- an answer is this reading, or the recorder failed, or there was no memory
abbrev pub Reads : Reading → Result (Option Aggregate) FindFault → Type 0
Reads reading (Ok found) = reading ≡ folded found
Reads reading (Err (Unreadable id)) = reading ≡ unreadable id
Reads reading (Err Failed) = Unit {0}
Reads reading (Err NoMemory) = Unit {0}
