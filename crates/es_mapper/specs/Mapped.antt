-- The domain event of a stored one, as a function.
use Rattle.std.specs.Prelude.{◌≡◌, ℕ, ℤ, pos, negsuc, nat_le, Bool, false, not, ◌&&◌, codes, if◌then◌else◌, Option, None, Some, Result, Ok, Err}
use Rattle.std.specs.Str.{bytes_eq}
use Rattle.es_model.specs.Declaration.{is_created, event_named}
use Rattle.es_model.specs.Rising.{item_of}
use Rattle.es_model.specs.Values.{Name, Record, are_of_kinds}
use Rattle.es_model.specs.declared.value.Atom.TheVariants as atom
use Rattle.es_model.specs.declared.value.Value.{Value}
use Rattle.es_model.specs.declared.value.Value.TheVariants as value
use Rattle.es_model.specs.declared.declaration.Class.{Class}
use Rattle.es_model.specs.declared.declaration.EventClass.{EventClass}
use Rattle.es_model.specs.declared.declaration.System.{System}
use Rattle.es_model.specs.declared.domain_event.DomainEvent.{DomainEvent}
use Rattle.es_model.specs.declared.event.StoredEvent.{StoredEvent}
use Rattle.es_transcode.specs.Decoded.{record_of}
use Rattle.es_mapper.specs.Mapping.{version_of, fields_of}
use Rattle.es_mapper.specs.declared.fault.MapFault.{MapFault}
use Rattle.es_mapper.specs.declared.fault.MapFault.TheVariants as fault

-- a whole number of at least 1
abbrev pub at_least_one : ℤ → Option ℕ
at_least_one (pos n) = if nat_le 1 n then Some n else None
at_least_one (negsuc n) = None

-- the class version that stands in a state, 1 where none does
abbrev pub version_in : Option Value → Option ℕ
version_in None = Some 1
version_in (Some (value.One (atom.Int number))) = at_least_one number
version_in (Some v) = None

-- the moment that stands in a state
abbrev pub moment_in : Option Value → Option ℤ
moment_in (Some (value.One (atom.Moment moment))) = Some moment
moment_in o = None

-- the name of the class stands in the state of a Created event, and in no other
abbrev pub is_class_in : Class → Name → Option Value → Bool
is_class_in c topic None = not (is_created c topic)
is_class_in c topic (Some (value.One (atom.Text name))) = is_created c topic && bytes_eq name c.name
is_class_in c topic (Some v) = false

-- the event with some fields, if they are the declared ones
abbrev pub event_with : EventClass → StoredEvent → ℤ → Record → Option DomainEvent
event_with k s at fields =
    if are_of_kinds fields k.fields then Some (record {
      originator_id = s.originator_id;
      originator_version = s.originator_version;
      timestamp = at;
      topic = s.topic;
      fields = fields;
    }) else None

-- the event of a state with a class version, if that is declared, and a moment
abbrev pub event_at : EventClass → StoredEvent → Record → Option ℕ → Option ℤ → Option DomainEvent
event_at k s r (Some version) (Some at) = if nat_le version (version_of k) then event_with k s at (fields_of k version r) else None
event_at k s r (Some version) None = None
event_at k s r None at = None

-- the event of a state, by the three members that stand beside the fields
abbrev pub event_in_state : Class → EventClass → StoredEvent → Record → Option DomainEvent
event_in_state c k s r =
    if is_class_in c s.topic (item_of r (codes "originator_topic"))
    then event_at k s r (version_in (item_of r (codes "class_version"))) (moment_in (item_of r (codes "timestamp")))
    else None

-- the event of a declared topic whose state is a record
abbrev pub event_by : Option (Class × EventClass) → StoredEvent → Option Record → Option DomainEvent
event_by (Some p) s (Some r) = event_in_state p.0 p.1 s r
event_by (Some p) s None = None
event_by None s r = None

-- the domain event that a stored one stands for
unfoldable pub event_of : System → StoredEvent → Option DomainEvent
event_of sys s = event_by (event_named sys.classes s.topic) s (record_of s.state)

-- an answer is this event, or that there is none, or want of memory
abbrev pub Gives : Option DomainEvent → Result DomainEvent MapFault → Type 0
Gives o (Ok e) = o ≡ Some e
Gives o (Err fault.NoMemory) = Unit {0}
Gives o (Err f) = o ≡ None
