-- What the columns of a row hold of a value.
use Rattle.std.specs.Prelude.{◌≡◌, pos, List, [], ◌∷◌}
use Rattle.sqlite_value.specs.declared.value.Value.{Value}
use Rattle.sqlite_value.specs.declared.value.Value.TheVariants.{Null, Int, Text, Blob}
use Rattle.sqlite_value.specs.Order.{Row, column}
use Rattle.es_model.specs.declared.event.Cause.{Cause}
use Rattle.es_model.specs.declared.event.Cause.TheVariants.{Command, Notification}
use Rattle.es_model.specs.declared.event.StoredEvent.{StoredEvent}
use Rattle.es_model.specs.declared.snapshot.Snapshot.{Snapshot}

-- a row of a notification id and an event
pub record IsEvent (row : Row) (e : StoredEvent) : Type 0 where
  pub id : column row 1 ≡ Blob e.originator_id
  pub version : column row 2 ≡ Int (pos e.originator_version)
  pub topic : column row 3 ≡ Text e.topic
  pub state : column row 4 ≡ Blob e.state

-- a row of a snapshot
pub record IsSnapshot (row : Row) (s : Snapshot) : Type 0 where
  pub id : column row 0 ≡ Blob s.originator_id
  pub version : column row 1 ≡ Int (pos s.originator_version)
  pub topic : column row 2 ≡ Text s.topic
  pub class_version : column row 3 ≡ Int (pos s.class_version)
  pub created_on : column row 4 ≡ Int s.created_on
  pub modified_on : column row 5 ≡ Int s.modified_on
  pub state : column row 6 ≡ Blob s.state

-- a cause as a command's text, a leader and a notification's id, of which what the cause hasn't is null
abbrev pub cause_values : Cause → List Value
cause_values (Command text) = Blob text ∷ Null ∷ Null ∷ []
cause_values (Notification leader id) = Null ∷ Text leader ∷ Int (pos id) ∷ []
