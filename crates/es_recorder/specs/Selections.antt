-- What selections answer: filters of the lists, cut after so many.
use Rattle.std.specs.Prelude.{◌≡◌, ◌≤◌, ◌<◌, ◌^◌, ◌+◌, ◌==◌, ℕ, suc, zero, nat_le, nat_lt, max, Bool, true, false, ◌&&◌, List, [], ◌∷◌, length, reverse, take, filter, slice_get, if◌then◌else◌, Option, Some, None, All, Contains}
use Rattle.std.specs.List.{list_any, position_from}
use Rattle.std.specs.Str.{bytes_eq}
use Rattle.es_model.specs.declared.event.Cause.{Cause}
use Rattle.es_model.specs.declared.event.Cause.TheVariants.{Command, Notification}
use Rattle.es_model.specs.declared.event.Notification.{Notification as NotificationOf}
use Rattle.es_model.specs.declared.event.Recording.{Recording}
use Rattle.es_model.specs.declared.event.StoredEvent.{StoredEvent}
use Rattle.es_model.specs.declared.snapshot.Snapshot.{Snapshot}
use Rattle.es_model.specs.History.{own}
use Rattle.es_model.specs.Values.{Name, Id}

-- a version is above a bound that is given
abbrev pub is_above : Option ℕ → ℕ → Bool
is_above None version = true
is_above (Some gt) version = nat_lt gt version

-- a version is at most a bound that is given
abbrev pub is_upto : Option ℕ → ℕ → Bool
is_upto None version = true
is_upto (Some lte) version = nat_le version lte

-- the first so many, where a limit is given
abbrev pub first_of : {A : Type 0} → Option ℕ → List A → List A
first_of None xs = xs
first_of (Some limit) xs = take limit xs

-- the events of an originator with versions between the bounds
abbrev pub events_between : List StoredEvent → Id → Option ℕ → Option ℕ → List StoredEvent
events_between events id gt lte = filter (λ e. is_above gt e.originator_version && is_upto lte e.originator_version) (own events id)

-- the first of them, in rising or in falling order
abbrev pub select_events : List StoredEvent → Id → Option ℕ → Option ℕ → Bool → Option ℕ → List StoredEvent
select_events events id gt lte desc limit = first_of limit (if desc then reverse (events_between events id gt lte) else events_between events id gt lte)

-- at most so many, where a limit is given
abbrev pub IsWithin : Option ℕ → ℕ → Type 0
IsWithin None n = Unit {0}
IsWithin (Some limit) n = n ≤ limit

-- a selection of events, told or not: at most so many, of small versions
pub record AreVersions (limit : Option ℕ) (es : List StoredEvent) : Type 0 where
  pub few : IsWithin limit (length es)
  pub versions : All (λ e. e.originator_version < 2 ^ 62) es

-- events with their notification ids, of which the first has this one
abbrev pub numbered_from : ℕ → List StoredEvent → List NotificationOf
numbered_from first [] = []
numbered_from first (e ∷ es) = record { id = first; event = e } ∷ numbered_from (first + 1) es

-- the notifications of a log
abbrev pub notifications : List StoredEvent → List NotificationOf
notifications events = numbered_from 1 events

-- those with ids from this one on
abbrev pub ids_from : ℕ → List NotificationOf → List NotificationOf
ids_from start ns = filter (λ n. nat_le start n.id) ns

-- those of a log, at most so many
abbrev pub select_notifications : List StoredEvent → ℕ → ℕ → List NotificationOf
select_notifications events start limit = take limit (ids_from start (notifications events))

-- the ids are this one, the next and so on
abbrev pub AreNumbered : ℕ → List NotificationOf → Type 0
AreNumbered first [] = Unit {0}
AreNumbered first (n ∷ ns) = (n.id ≡ first) × AreNumbered (first + 1) ns

-- a selection of notifications, told or not: at most so many, with the ids from the start on one by one, and small numbers
pub record AreSelected (start limit : ℕ) (ns : List NotificationOf) : Type 0 where
  pub few : length ns ≤ limit
  pub numbered : AreNumbered (max start 1) ns
  pub ids : All (λ n. n.id < 2 ^ 62) ns
  pub versions : All (λ n. n.event.originator_version < 2 ^ 62) ns

-- an event is of this originator at this version
abbrev pub is_version : Id → ℕ → StoredEvent → Bool
is_version id version e = bytes_eq e.originator_id id && (e.originator_version == version)

-- the notification id of an originator's event of a version, which is its place in the log, from 1
abbrev pub notification_of : List StoredEvent → Id → ℕ → Option ℕ
notification_of events id version = position_from (is_version id version) 1 events

-- a cause is this notification of this leader
abbrev pub is_notification : Name → ℕ → Cause → Bool
is_notification leader id (Command text) = false
is_notification leader id (Notification from n) = bytes_eq from leader && (n == id)

-- a cause of the history is this notification
abbrev pub tracks : List Recording → Name → ℕ → Bool
tracks h leader id = list_any (λ r. is_notification leader id r.cause) h

-- the snapshots of an aggregate at versions up to a bound that is given
abbrev pub snapshots_upto : List Snapshot → Id → Option ℕ → List Snapshot
snapshots_upto ss id lte = filter (λ s. bytes_eq s.originator_id id && is_upto lte s.originator_version) ss

-- one of the greatest version, or none where there are none
abbrev pub IsNewest : List Snapshot → Option Snapshot → Type 0
IsNewest ss None = ss ≡ []
IsNewest ss (Some s) = Contains ss s × All (λ x. x.originator_version ≤ s.originator_version) ss

-- the snapshot at a place, from 1
abbrev pub snapshot_at : List Snapshot → ℕ → Option Snapshot
snapshot_at ss zero = None
snapshot_at ss (suc n) = slice_get ss n
