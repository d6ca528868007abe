-- What the calls on one aggregate ask, and what they answer.
use Rattle.std.specs.Prelude.{ℤ, ◌≡◌, ◌+◌, IsTrue, [], ◌∷◌, ◌++◌, Option, None, Some, IfSome, Result, Ok, Err}
use Rattle.es_model.specs.Declaration.{class_named, event_named}
use Rattle.es_model.specs.Values.{Name, Id, Record, are_of_kinds}
use Rattle.es_model.specs.declared.declaration.Class.{Class}
use Rattle.es_model.specs.declared.declaration.EventClass.{EventClass}
use Rattle.es_model.specs.declared.declaration.System.{System}
use Rattle.es_model.specs.declared.domain_event.DomainEvent.{DomainEvent}
use Rattle.es_domain.specs.declared.aggregate.Aggregate.{Aggregate}
use Rattle.es_domain.specs.declared.aggregate.ApplyFault.{ApplyFault}
use Rattle.es_domain.specs.declared.aggregate.ApplyFault.TheVariants as apply
use Rattle.es_domain.specs.declared.aggregate.TriggerFault.{TriggerFault}
use Rattle.es_domain.specs.declared.aggregate.TriggerFault.TheVariants as trigger

-- there is a class, and a record is of its fields with their kinds
abbrev pub IsOfClass : Option Class → Record → Type 0
IsOfClass None r = ⊥
IsOfClass (Some c) r = IsTrue (are_of_kinds r c.fields)

-- an aggregate's class is declared, and its fields are those of the class with their kinds
abbrev pub HasItsFields : System → Aggregate → Type 0
HasItsFields sys a = IsOfClass (class_named sys.classes a.class) a.fields

-- where an event's topic is declared, its fields are those of the topic with their kinds
abbrev pub FitsItsTopic : System → DomainEvent → Type 0
FitsItsTopic sys e = IfSome (event_named sys.classes e.topic) (λ p. IsTrue (are_of_kinds e.fields p.1.fields))

-- an event of a topic is declared, and a record is of its fields with their kinds
abbrev pub IsOfTopic : Option (Class × EventClass) → Record → Type 0
IsOfTopic None r = ⊥
IsOfTopic (Some p) r = IsTrue (are_of_kinds r p.1.fields)

-- there is an event, and a record is of its fields with their kinds
abbrev pub IsOfEvent : Option EventClass → Record → Type 0
IsOfEvent None r = ⊥
IsOfEvent (Some k) r = IsTrue (are_of_kinds r k.fields)

-- the Created event of a class
abbrev pub created_in : Option Class → Option EventClass
created_in None = None
created_in (Some c) = Some c.created

-- the topic of a class's Created event
abbrev pub created_topic : Option Class → Name
created_topic None = []
created_topic (Some c) = c.created.topic

-- the first event of an aggregate of a class
abbrev pub first_event : System → Name → Id → Record → ℤ → DomainEvent
first_event sys class id fields at =
    record { originator_id = id; originator_version = 1; timestamp = at; topic = created_topic (class_named sys.classes class); fields = fields }

-- the next event of an aggregate
abbrev pub next_event : Aggregate → Name → Record → ℤ → DomainEvent
next_event a topic fields at =
    record { originator_id = a.id; originator_version = a.version + 1; timestamp = at; topic = topic; fields = fields }

-- an aggregate after an event that is pending besides
abbrev pub with_pending : DomainEvent → Result Aggregate ApplyFault → Result Aggregate ApplyFault
with_pending e (Ok a) = Ok (record a { pending = a.pending ++ e ∷ [] })
with_pending e (Err fault) = Err fault

-- an aggregate whose new events were collected
abbrev pub collected : Aggregate → Aggregate
collected a = record a { pending = [] }

-- an answer is this outcome, or want of memory
abbrev pub Applies : {T : Type 0} → Result T ApplyFault → Result T ApplyFault → Type 0
Applies outcome (Ok x) = outcome ≡ Ok x
Applies outcome (Err apply.Topic) = outcome ≡ Err apply.Topic
Applies outcome (Err apply.OriginatorId) = outcome ≡ Err apply.OriginatorId
Applies outcome (Err (apply.OriginatorVersion expected given)) = outcome ≡ Err (apply.OriginatorVersion expected given)
Applies outcome (Err apply.Overflow) = outcome ≡ Err apply.Overflow
Applies outcome (Err apply.NoMemory) = Unit {0}

-- the same of a call that changes the aggregate, which it leaves as it was where it refuses
abbrev pub Changes : Result Aggregate ApplyFault → Aggregate → Aggregate → Result (Unit {0}) ApplyFault → Type 0
Changes outcome old new (Ok done) = outcome ≡ Ok new
Changes outcome old new (Err apply.Topic) = (outcome ≡ Err apply.Topic) × (new ≡ old)
Changes outcome old new (Err apply.OriginatorId) = (outcome ≡ Err apply.OriginatorId) × (new ≡ old)
Changes outcome old new (Err (apply.OriginatorVersion expected given)) = (outcome ≡ Err (apply.OriginatorVersion expected given)) × (new ≡ old)
Changes outcome old new (Err apply.Overflow) = (outcome ≡ Err apply.Overflow) × (new ≡ old)
Changes outcome old new (Err apply.NoMemory) = new ≡ old

-- an event was triggered as it is applied, or an assignment overflows, or there was no memory
abbrev pub Triggers : Result Aggregate ApplyFault → Result Aggregate TriggerFault → Type 0
Triggers outcome (Ok a) = outcome ≡ Ok a
Triggers outcome (Err trigger.Overflow) = outcome ≡ Err apply.Overflow
Triggers outcome (Err trigger.NoMemory) = Unit {0}

-- the same of a call that changes the aggregate, which it leaves as it was where it refuses
abbrev pub TriggersOn : Result Aggregate ApplyFault → Aggregate → Aggregate → Result (Unit {0}) TriggerFault → Type 0
TriggersOn outcome old new (Ok done) = outcome ≡ Ok new
TriggersOn outcome old new (Err trigger.Overflow) = (outcome ≡ Err apply.Overflow) × (new ≡ old)
TriggersOn outcome old new (Err trigger.NoMemory) = new ≡ old
