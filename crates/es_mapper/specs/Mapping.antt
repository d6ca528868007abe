-- Stored events and the domain events that they stand for.
use Rattle.std.specs.Prelude.{ℕ, suc, ◌≡◌, ◌≢◌, ◌≤◌, ◌<◌, ◌-◌, ◌⊎◌, ℤ, pos, nat_lt, IsTrue, List, [], ◌∷◌, length, drop, codes, if◌then◌else◌, Option, None, Some, Result, Ok, Err}
use Rattle.es_model.specs.Declaration.{is_created, event_named}
use Rattle.es_model.specs.Rising.{IsRising, item_of, without, with_item}
use Rattle.es_model.specs.Values.{Name, Record, are_of_kinds}
use Rattle.es_model.specs.declared.value.Atom.TheVariants as atom
use Rattle.es_model.specs.declared.value.Value.{Value}
use Rattle.es_model.specs.declared.value.Value.TheVariants as value
use Rattle.es_model.specs.declared.declaration.Class.{Class}
use Rattle.es_model.specs.declared.declaration.EventClass.{EventClass}
use Rattle.es_model.specs.declared.declaration.Edit.{Edit}
use Rattle.es_model.specs.declared.declaration.System.{System}
use Rattle.es_model.specs.declared.domain_event.DomainEvent.{DomainEvent}
use Rattle.es_model.specs.declared.event.StoredEvent.{StoredEvent}
use Rattle.es_transcode.specs.CanonicalText.{record_text}
use Rattle.es_transcode.specs.Decoding.{IsDecoded}
use Rattle.es_transcode.specs.declared.fault.DecodeFault.TheVariants as decode_fault
use Rattle.es_mapper.specs.Upcasts.{edited_by}
use Rattle.es_mapper.specs.declared.fault.MapFault.{MapFault}
use Rattle.es_mapper.specs.declared.fault.MapFault.TheVariants as fault

-- the declared class version of an event: one more than there are steps to it
abbrev pub version_of : EventClass → ℕ
version_of k = suc (length k.upcasts)

-- the steps that lead on from a class version
abbrev pub steps_from : ℕ → List (List Edit) → List (List Edit)
steps_from version steps = drop (version - 1) steps

-- a record after some steps, in order
abbrev pub upcast_by : List (List Edit) → Record → Record
upcast_by [] r = r
upcast_by (edits ∷ steps) r = upcast_by steps (edited_by edits r)

-- the name of the class, in a Created event alone
abbrev pub class_value : Class → Name → Option Value
class_value c topic = if is_created c topic then Some (value.One (atom.Text c.name)) else None

-- the class version, where it is above 1
abbrev pub version_value : EventClass → Option Value
version_value k = if nat_lt 1 (version_of k) then Some (value.One (atom.Int (pos (version_of k)))) else None

-- a name with a value, if there is one
abbrev pub with_some : Option Value → Name → Record → Record
with_some None name r = r
with_some (Some v) name r = with_item r name v

-- the fields of an event, and its moment
abbrev pub stamped : DomainEvent → Record
stamped e = with_item e.fields (codes "timestamp") (value.One (atom.Moment e.timestamp))

-- the record of an event's state: its fields, and up to three members beside them
abbrev pub state_record : Class → EventClass → DomainEvent → Record
state_record c k e = with_some (version_value k) (codes "class_version") (with_some (class_value c e.topic) (codes "originator_topic") (stamped e))

-- the same of an event that may not be declared
abbrev pub state_of : Option (Class × EventClass) → DomainEvent → Record
state_of None e = stamped e
state_of (Some p) e = state_record p.0 p.1 e

-- an event as it is stored
abbrev pub stored : System → DomainEvent → StoredEvent
stored sys e = record {
  originator_id = e.originator_id;
  originator_version = e.originator_version;
  topic = e.topic;
  state = record_text (state_of (event_named sys.classes e.topic) e);
}

-- a class version as it stands in a state: 1 where none stands there, else a whole number of at least 1
abbrev pub IsVersion : ℕ → Option Value → Type 0
IsVersion version None = version ≡ 1
IsVersion version (Some v) = (1 ≤ version) × (v ≡ value.One (atom.Int (pos version)))

-- the three members that stand in a state beside the fields
pub record HasHead (c : Class) (topic : Name) (r : Record) (version : ℕ) (moment : ℤ) : Type 0 where
  pub version_is : IsVersion version (item_of r (codes "class_version"))
  pub moment_is : item_of r (codes "timestamp") ≡ Some (value.One (atom.Moment moment))
  pub class_is : item_of r (codes "originator_topic") ≡ class_value c topic

-- a record without these three
abbrev pub without_head : Record → Record
without_head r = without (without (without r (codes "class_version")) (codes "originator_topic")) (codes "timestamp")

-- the fields of a state of a class version, as those of the declared version
abbrev pub fields_of : EventClass → ℕ → Record → Record
fields_of k version r = upcast_by (steps_from version k.upcasts) (without_head r)

-- a stored event is of this declared event, and its state is read as this record
pub record IsRead (sys : System) (s : StoredEvent) (c : Class) (k : EventClass) (r : Record) : Type 0 where
  pub declared : event_named sys.classes s.topic ≡ Some (c, k)
  pub decoded : IsDecoded s.state (Ok r)

-- besides, its state has these three members, of a class version that is declared
pub record IsHeaded (sys : System) (s : StoredEvent) (c : Class) (k : EventClass) (r : Record) (version : ℕ) (moment : ℤ) : Type 0 where
  pub read : IsRead sys s c k r
  pub head : HasHead c s.topic r version moment
  pub declared : version ≤ version_of k

-- the domain event of a stored one
pub record IsEvent (sys : System) (s : StoredEvent) (e : DomainEvent) : Type 0 where
  pub class : Class
  pub event : EventClass
  pub state : Record
  pub version : ℕ
  pub headed : IsHeaded sys s class event state version e.timestamp
  pub fields : e.fields ≡ fields_of event version state
  pub fits : IsTrue (are_of_kinds e.fields event.fields)
  pub originator_id : e.originator_id ≡ s.originator_id
  pub originator_version : e.originator_version ≡ s.originator_version
  pub topic : e.topic ≡ s.topic

-- an event is declared, its fields are the declared ones, and none of these has the name of one of the three members
pub record IsDeclared (sys : System) (e : DomainEvent) : Type 0 where
  pub class : Class
  pub event : EventClass
  pub declared : event_named sys.classes e.topic ≡ Some (class, event)
  pub rising : IsRising e.fields
  pub fits : IsTrue (are_of_kinds e.fields event.fields)
  pub no_timestamp : item_of event.fields (codes "timestamp") ≡ None
  pub no_topic : item_of event.fields (codes "originator_topic") ≡ None
  pub no_version : item_of event.fields (codes "class_version") ≡ None

-- its state hasn't these three members
abbrev pub IsHeadless : System → StoredEvent → Type 0
IsHeadless sys s = (c : Class) × (k : EventClass) × (r : Record) × IsRead sys s c k r × ((version : ℕ) (moment : ℤ) → ¬ HasHead c s.topic r version moment)

-- its fields aren't the declared ones
abbrev pub IsMisfit : System → StoredEvent → Type 0
IsMisfit sys s =
    (c : Class) × (k : EventClass) × (r : Record) × (version : ℕ) × (moment : ℤ) × IsHeaded sys s c k r version moment × ¬ IsTrue (are_of_kinds (fields_of k version r) k.fields)

-- which try refuses a stored event first
abbrev pub IsMapFault : System → StoredEvent → MapFault → Type 0
IsMapFault sys s fault.Topic = event_named sys.classes s.topic ≡ None
IsMapFault sys s (fault.Decode f) = (c : Class) × (k : EventClass) × (event_named sys.classes s.topic ≡ Some (c, k)) × (f ≢ decode_fault.NoMemory) × IsDecoded s.state (Err f)
IsMapFault sys s fault.Fields = IsHeadless sys s ⊎ IsMisfit sys s
IsMapFault sys s (fault.Newer stored declared) =
    (c : Class) × (k : EventClass) × (r : Record) × (moment : ℤ) × IsRead sys s c k r × HasHead c s.topic r stored moment × (declared ≡ version_of k) × (declared < stored)
IsMapFault sys s fault.NoMemory = ⊥

-- an answer to a stored event: its domain event, the try that refuses first, or want of memory
abbrev pub IsMapped : System → StoredEvent → Result DomainEvent MapFault → Type 0
IsMapped sys s (Ok e) = IsEvent sys s e
IsMapped sys s (Err fault.NoMemory) = Unit {0}
IsMapped sys s (Err f) = IsMapFault sys s f
