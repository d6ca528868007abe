-- What is read of an aggregate, and what a reader of aggregates has told.
use Rattle.std.specs.Prelude.{ℕ, ◌≡◌, ◌≤◌, ◌<◌, ◌^◌, All, List, [], ◌∷◌, ◌++◌, Option, None, Some, Result, Ok, Err}
use Rattle.es_model.specs.Causes.{Rose}
use Rattle.es_model.specs.Rising.{item_of}
use Rattle.es_model.specs.Values.{Id}
use Rattle.es_model.specs.declared.declaration.System.{System}
use Rattle.es_model.specs.declared.domain_event.DomainEvent.{DomainEvent}
use Rattle.es_model.specs.declared.event.Notification.{Notification}
use Rattle.es_mapper.specs.Mapping.{IsEvent}
use Rattle.es_domain.specs.Fold.{fold}
use Rattle.es_domain.specs.Steps.{HasItsFields}
use Rattle.es_domain.specs.declared.aggregate.Aggregate.{Aggregate}
use Rattle.es_domain.specs.declared.find.FindFault.{FindFault}
use Rattle.es_domain.specs.declared.find.FindFault.TheVariants.{Unreadable, Failed, NoMemory}

-- the domain events of stored ones, one for each
abbrev pub AreEvents : System → List Notification → List DomainEvent → Type 0
AreEvents sys [] [] = Unit {0}
AreEvents sys [] (e ∷ es) = ⊥
AreEvents sys (n ∷ ns) [] = ⊥
AreEvents sys (n ∷ ns) (e ∷ es) = IsEvent sys n.event e × AreEvents sys ns es

-- the events of an aggregate's notifications fold to it, or to none where there are none
pub record FoldsTo (sys : System) (ns : List Notification) (found : Option Aggregate) : Type 0 where
  pub events : List DomainEvent
  pub are : AreEvents sys ns events
  pub folds : fold sys events ≡ Ok found

-- the first entry without a meaning, by its notification id: those before it fold, and with it they don't
pub record IsFirstUnreadable (sys : System) (ns : List Notification) (id : ℕ) : Type 0 where
  pub before : List Notification
  pub entry : Notification
  pub after : List Notification
  pub parts : ns ≡ before ++ entry ∷ after
  pub is : entry.id ≡ id
  pub found : Option Aggregate
  pub folds : FoldsTo sys before found
  pub without_meaning : (found : Option Aggregate) → ¬ FoldsTo sys (before ++ entry ∷ []) found

-- what is read of an aggregate: what its events fold to, or the first of them without a meaning
pub data Reading : Type 0 where
  folded : Option Aggregate → Reading
  unreadable : ℕ → Reading

abbrev pub IsReading : System → List Notification → Reading → Type 0
IsReading sys ns (folded found) = FoldsTo sys ns found
IsReading sys ns (unreadable id) = IsFirstUnreadable sys ns id

-- what is read of each aggregate of an application
abbrev pub Readings : Type 0
Readings = Id → Reading

-- what a reader has told: the notifications of each id that it was asked for
abbrev pub Told : Type 0
Told = List (Id × List Notification)

-- the readings of all that was told
abbrev pub AreReadings : System → Told → Readings → Type 0
AreReadings sys told readings = (id : Id) (ns : List Notification) → item_of told id ≡ Some ns → IsReading sys ns (readings id)

-- a reader tells an id's notifications once
abbrev pub TellsOnce : Option (List Notification) → Told → Id → List Notification → Told → Type 0
TellsOnce None old id ns new = new ≡ old ++ (id, ns) ∷ []
TellsOnce (Some known) old id ns new = (ns ≡ known) × (new ≡ old)

-- a notification of an id, of a version below 2^62
pub record IsOwn (id : Id) (n : Notification) : Type 0 where
  pub originator_id : n.event.originator_id ≡ id
  pub version : n.event.originator_version < 2 ^ 62

-- and answers by them: by their one reading
pub record AnswersBy (sys : System) (old : Told) (id : Id) (new : Told) (answer : Reading) : Type 0 where
  pub notifications : List Notification
  pub own : All (IsOwn id) notifications
  pub tells : TellsOnce (item_of old id) old id notifications new
  pub is : IsReading sys notifications answer
  pub only : (reading : Reading) → IsReading sys notifications reading → reading ≡ answer

-- what a reader that tells answers, and what it has told then
abbrev pub Finds : System → Told → Id → Told → Result (Option Aggregate) FindFault → Type 0
Finds sys old id new (Ok found) = AnswersBy sys old id new (folded found)
Finds sys old id new (Err (Unreadable n)) = AnswersBy sys old id new (unreadable n)
Finds sys old id new (Err Failed) = new ≡ old
Finds sys old id new (Err NoMemory) = new ≡ old

-- the same where it tells; a reader that doesn't goes on so
abbrev pub FindsTold : System → Option Told → Id → Option Told → Result (Option Aggregate) FindFault → Type 0
FindsTold sys None id new result = new ≡ None
FindsTold sys (Some old) id None result = ⊥
FindsTold sys (Some old) id (Some new) result = Finds sys old id new result

-- an aggregate that was found, told or not
pub record IsFound (sys : System) (id : Id) (a : Aggregate) : Type 0 where
  pub id_is : a.id ≡ id
  pub fields : HasItsFields sys a
  pub version : a.version < 2 ^ 62
  pub pending : a.pending ≡ []

-- all that was told before is still told
abbrev pub TellsOn : Told → Told → Type 0
TellsOn old new = (id : Id) (ns : List Notification) → item_of old id ≡ Some ns → item_of new id ≡ Some ns

abbrev pub TellsOnTold : Option Told → Option Told → Type 0
TellsOnTold None new = new ≡ None
TellsOnTold (Some old) None = ⊥
TellsOnTold (Some old) (Some new) = TellsOn old new

-- the count of faults never falls, and the answer that the outside failed comes only where it rose
pub record FindHasCause {T : Type 0} (before now : ℕ) (result : Result T FindFault) : Type 0 where
  pub later : before ≤ now
  pub failed : result ≡ Err Failed → Rose before now

-- a call leaves a reader's system `s` and what it keeps besides, `k`, as they were
pub record IsSameReader {A Kept : Type 0} (s : A → System) (k : A → Kept) (old new : A) : Type 0 where
  pub system : s new ≡ s old
  pub kept : k new ≡ k old
