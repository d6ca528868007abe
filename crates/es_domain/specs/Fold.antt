-- Aggregates, as the fold of their events.
use Rattle.std.specs.Prelude.{ℤ, ℕ, pos, ◌+◌, ◌==◌, List, [], ◌∷◌, if◌then◌else◌, Option, None, Some, Result, Ok, Err}
use Rattle.std.specs.Str.{bytes_eq}
use Rattle.es_model.specs.Declaration.{class_named, event_in, event_named, is_created}
use Rattle.es_model.specs.Rising.{item_of}
use Rattle.es_model.specs.Values.{Name, Id, Record}
use Rattle.es_model.specs.declared.declaration.Class.{Class}
use Rattle.es_model.specs.declared.declaration.EventClass.{EventClass}
use Rattle.es_model.specs.declared.declaration.System.{System}
use Rattle.es_model.specs.declared.domain_event.DomainEvent.{DomainEvent}
use Rattle.es_model.specs.declared.expr.Expr.{Expr}
use Rattle.es_model.specs.declared.value.Atom.TheVariants as atom
use Rattle.es_model.specs.declared.value.Value.{Value}
use Rattle.es_model.specs.declared.value.Value.TheVariants.{One}
use Rattle.es_expr.specs.Environments.{created_env, assign_env}
use Rattle.es_expr.specs.Meaning.{den}
use Rattle.es_expr.specs.Outcome.{Outcome, is, over, stuck}
use Rattle.es_domain.specs.declared.aggregate.Aggregate.{Aggregate}
use Rattle.es_domain.specs.declared.aggregate.ApplyFault.{ApplyFault}
use Rattle.es_domain.specs.declared.aggregate.ApplyFault.TheVariants.{Topic, OriginatorId, OriginatorVersion, Overflow}

-- ids, versions and moments as values
abbrev pub id_value : Id → Value
id_value id = One (atom.Uuid id)

abbrev pub version_value : ℕ → Value
version_value version = One (atom.Int (pos version))

abbrev pub moment_value : ℤ → Value
moment_value moment = One (atom.Moment moment)

-- a name with a value before a record, where both are there
abbrev pub with_value : Name → Outcome → Option Record → Option Record
with_value name (is v) (Some r) = Some ((name, v) ∷ r)
with_value name (is v) None = None
with_value name over r = None
with_value name stuck r = None

-- the values of some expressions, each under its name, where all have one
abbrev pub values_of : List (Name × Expr) → Record → Option Record
values_of [] env = Some []
values_of (x ∷ xs) env = with_value x.0 (den x.1 env) (values_of xs env)

-- what a field has after an event: the value of its assignment, and without one the value before
abbrev pub assigned : Option Expr → Value → Record → Outcome
assigned None before env = is before
assigned (Some e) before env = den e env

-- each field after an event, where all assignments have a value
abbrev pub fields_after : Record → List (Name × Expr) → Record → Option Record
fields_after [] assigns env = Some []
fields_after (f ∷ fields) assigns env = with_value f.0 (assigned (item_of assigns f.0) f.1 env) (fields_after fields assigns env)

-- the aggregate that a Created event makes, where its fields have values
abbrev pub created_with : Class → DomainEvent → Option Record → Result Aggregate ApplyFault
created_with c e None = Err Overflow
created_with c e (Some fields) =
    Ok (record { id = e.originator_id; version = 1; class = c.name; created_on = e.timestamp; modified_on = e.timestamp; fields = fields; pending = [] })

-- the values that the assignments of a Created event see
abbrev pub first_env : DomainEvent → Record
first_env e = created_env e.fields (id_value e.originator_id) (moment_value e.timestamp)

-- the values of a Created event's assignments
abbrev pub fields_at_first : EventClass → DomainEvent → Option Record
fields_at_first k e = values_of k.assigns (first_env e)

-- the aggregate that begins with an event of a class
abbrev pub begun_by : Option (Class × EventClass) → DomainEvent → Result Aggregate ApplyFault
begun_by None e = Err Topic
begun_by (Some p) e =
    if is_created p.0 e.topic then
    (if e.originator_version == 1 then created_with p.0 e (fields_at_first p.1 e) else Err (OriginatorVersion 1 e.originator_version))
    else Err Topic

-- the aggregate that begins with an event, which has to be a Created event of version 1
abbrev pub begun : System → DomainEvent → Result Aggregate ApplyFault
begun sys e = begun_by (event_named sys.classes e.topic) e

-- an aggregate after an event, where its fields have values
abbrev pub changed_to : Aggregate → DomainEvent → Option Record → Result Aggregate ApplyFault
changed_to a e None = Err Overflow
changed_to a e (Some fields) = Ok (record a { version = e.originator_version; modified_on = e.timestamp; fields = fields })

-- the values that the assignments of another event see, all of them of the aggregate before it
abbrev pub before_env : Aggregate → Record → ℤ → Record
before_env a fields at = assign_env fields (id_value a.id) (moment_value at) a.fields (version_value a.version)

-- the fields after an event
abbrev pub fields_then : Aggregate → EventClass → Record → ℤ → Option Record
fields_then a k fields at = fields_after a.fields k.assigns (before_env a fields at)

-- an aggregate after an event of its class
abbrev pub stepped_by : Aggregate → Option EventClass → DomainEvent → Result Aggregate ApplyFault
stepped_by a None e = Err Topic
stepped_by a (Some k) e =
    if bytes_eq e.originator_id a.id then
    (if e.originator_version == a.version + 1 then changed_to a e (fields_then a k e.fields e.timestamp) else Err (OriginatorVersion (a.version + 1) e.originator_version))
    else Err OriginatorId

-- the event of a class with a topic, if it is a later one
abbrev pub later_in : Option Class → Name → Option EventClass
later_in None topic = None
later_in (Some c) topic = if is_created c topic then None else event_in c topic

-- an aggregate after an event, which has to be a later event of its class, with its id and the next version
abbrev pub stepped : System → Aggregate → DomainEvent → Result Aggregate ApplyFault
stepped sys a e = stepped_by a (later_in (class_named sys.classes a.class) e.topic) e

-- what an event makes of no aggregate, or of one
abbrev pub advanced : System → Option Aggregate → DomainEvent → Result Aggregate ApplyFault
advanced sys None e = begun sys e
advanced sys (Some a) e = stepped sys a e

-- what follows from an outcome
abbrev pub and_then : {A B : Type 0} → Result A ApplyFault → (A → Result B ApplyFault) → Result B ApplyFault
and_then (Ok x) f = f x
and_then (Err fault) f = Err fault

-- the aggregate after some events, none before the first; or why the first event that has no place there hasn't
abbrev pub fold_from : System → Option Aggregate → List DomainEvent → Result (Option Aggregate) ApplyFault
fold_from sys found [] = Ok found
fold_from sys found (e ∷ es) = and_then (advanced sys found e) (λ a. fold_from sys (Some a) es)

abbrev pub fold : System → List DomainEvent → Result (Option Aggregate) ApplyFault
fold sys events = fold_from sys None events
