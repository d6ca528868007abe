-- Histories: the recordings of one application, in order.
use Rattle.std.specs.Prelude.{ℕ, ◌+◌, ◌<◌, ◌^◌, ◌==◌, nat_lt, Bool, true, ◌&&◌, IsTrue, List, [], ◌∷◌, ◌++◌, length, filter}
use Rattle.std.specs.Str.{bytes_eq}
use Rattle.es_model.specs.declared.event.StoredEvent.{StoredEvent}
use Rattle.es_model.specs.declared.event.Recording.{Recording}
use Rattle.es_model.specs.declared.event.Cause.{Cause}
use Rattle.es_model.specs.declared.event.Cause.TheVariants.{Command, Notification}
use Rattle.es_model.specs.Tracking.{tracked_in}
use Rattle.es_model.specs.Values.{Name, Id}

-- the history of each application
abbrev pub Histories : Type 0
Histories = Name → List Recording

-- the log of a history: all its events, joined; notification n is the n-th
abbrev pub log : List Recording → List StoredEvent
log [] = []
log (r ∷ h) = r.events ++ log h

-- the events of one originator
abbrev pub own : List StoredEvent → Id → List StoredEvent
own events id = filter (λ e. bytes_eq e.originator_id id) events

-- the latest version of an originator, 0 where it has none
abbrev pub latest : List StoredEvent → Id → ℕ
latest events id = length (own events id)

-- after the events before, each version is one more than the number of earlier events of its originator
abbrev pub versions_follow : List StoredEvent → List StoredEvent → Bool
versions_follow before [] = true
versions_follow before (e ∷ es) = (e.originator_version == latest before e.originator_id + 1) && versions_follow (before ++ e ∷ []) es

-- a notification's id is above all earlier ones of its leader, so at least 1, and below 2^62
abbrev pub cause_follows : List Recording → Cause → Bool
cause_follows before (Command text) = true
cause_follows before (Notification leader id) = nat_lt (tracked_in before leader) id && nat_lt id (2 ^ 62)

-- the same for the cause of each recording, after the recordings before
abbrev pub causes_follow : List Recording → List Recording → Bool
causes_follow before [] = true
causes_follow before (r ∷ rs) = cause_follows before r.cause && causes_follow (before ++ r ∷ []) rs

-- a history that a recorder may hold
pub record IsFormed (h : List Recording) : Type 0 where
  pub versions : IsTrue (versions_follow [] (log h))
  pub causes : IsTrue (causes_follow [] h)
  pub few : length h < 2 ^ 62
  pub few_events : length (log h) < 2 ^ 62
