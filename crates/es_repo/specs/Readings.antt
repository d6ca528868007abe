-- What is read of the aggregates of a log, as functions.
use Rattle.std.specs.Prelude.{ℕ, List, [], ◌∷◌, filter, Option, None, Some}
use Rattle.std.specs.Str.{bytes_eq}
use Rattle.es_model.specs.Values.{Id}
use Rattle.es_model.specs.declared.declaration.System.{System}
use Rattle.es_model.specs.declared.domain_event.DomainEvent.{DomainEvent}
use Rattle.es_model.specs.declared.event.Notification.{Notification}
use Rattle.es_model.specs.declared.event.StoredEvent.{StoredEvent}
use Rattle.es_mapper.specs.Mapped.{event_of}
use Rattle.es_domain.specs.Effect.{made}
use Rattle.es_domain.specs.Fold.{advanced}
use Rattle.es_domain.specs.Readings.{Reading, folded, unreadable, Readings}
use Rattle.es_domain.specs.declared.aggregate.Aggregate.{Aggregate}
use Rattle.es_recorder.specs.Selections.{notifications, is_upto}

-- the events of an originator, with their places in the log
abbrev pub notifications_of : List StoredEvent → Id → List Notification
notifications_of events id = filter (λ n. bytes_eq n.event.originator_id id) (notifications events)

-- those of them at versions up to a bound that is given
abbrev pub notifications_upto : List StoredEvent → Id → Option ℕ → List Notification
notifications_upto events id version = filter (λ n. is_upto version n.event.originator_version) (notifications_of events id)

-- what an event makes of no aggregate, or of one, where it has a meaning there
abbrev pub advanced_by : System → Option Aggregate → Option DomainEvent → Option Aggregate
advanced_by sys found None = None
advanced_by sys found (Some e) = made (advanced sys found e)

abbrev pub after_entry : ℕ → Option Aggregate → (Aggregate → Reading) → Reading
after_entry id None rest = unreadable id
after_entry id (Some a) rest = rest a

-- what some notifications make of no aggregate, or of one, one after the other; the first that has no meaning is unreadable
abbrev pub read_from : System → Option Aggregate → List Notification → Reading
read_from sys found [] = folded found
read_from sys found (n ∷ ns) = after_entry n.id (advanced_by sys found (event_of sys n.event)) (λ a. read_from sys (Some a) ns)

-- what is read of each aggregate of a log
abbrev pub readings_of : System → List StoredEvent → Readings
readings_of sys events id = read_from sys None (notifications_of events id)

-- what is read of one at a version; at its latest one where none is given
abbrev pub reading_at : System → List StoredEvent → Id → Option ℕ → Reading
reading_at sys events id version = read_from sys None (notifications_upto events id version)
