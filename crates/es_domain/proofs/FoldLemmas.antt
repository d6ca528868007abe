-- Steps of the fold, in a checked system.
use Rattle.std.proofs.Common.{ℤ, ◌≡◌, IsTrue, true, false, List, [], ◌∷◌, ◌++◌, Option, None, Some, Result, Ok, Err, IfSome, IfOk, if◌then◌else◌, refl, sym, ap, subst, ◌∙◌}
use Rattle.std.proofs.lemmas.Slice.Eq.{bytes_eq-Decides}
use Rattle.es_model.specs.Declaration.{class_named, event_in, event_named, is_created}
use Rattle.es_model.specs.Rising.{IsRising}
use Rattle.es_model.specs.Values.{Name, Id, Record, are_of_kinds}
use Rattle.es_model.specs.declared.declaration.Class.{Class}
use Rattle.es_model.specs.declared.declaration.EventClass.{EventClass}
use Rattle.es_model.specs.declared.declaration.System.{System}
use Rattle.es_model.specs.declared.domain_event.DomainEvent.{DomainEvent}
use Rattle.es_model.specs.declared.value.Kind.{Kind}
use Rattle.es_expr.specs.Checked.{IsCheckedSystem}
use Rattle.es_domain.specs.inner.Evaluation.{AreChecked, AreAssignable, CanBeAssigned}
use Rattle.es_domain.specs.Fold.{first_env, before_env, later_in, begun, created_with, fields_at_first}
use Rattle.es_domain.specs.Steps.{IsOfClass, IsOfEvent, created_in, created_topic, first_event, with_pending, Triggers}
use Rattle.es_domain.specs.declared.aggregate.Aggregate.{Aggregate}
use Rattle.es_domain.specs.declared.aggregate.ApplyFault.{ApplyFault}
use Rattle.es_domain.specs.declared.aggregate.ApplyFault.TheVariants as apply
use Rattle.es_domain.specs.declared.aggregate.TriggerFault.{TriggerFault}
use Rattle.es_domain.specs.declared.aggregate.TriggerFault.TheVariants.{Overflow, NoMemory}
use Rattle.es_expr.proofs.TopicLemmas.{one-topic}
use Rattle.es_expr.proofs.UniqueLemmas.{class-of-topic}
use Rattle.es_domain.proofs.Projections.{created_checked, later_assignable}

-- a later event may be applied to an aggregate with the fields of its class
pub assignable : (sys : System) (a : Aggregate) (k : EventClass) (fields : Record) (at : ℤ) (o : Option Class) → class_named sys.classes a.class ≡ o → IsCheckedSystem sys → IsOfClass o a.fields
    → ((topic : Name) × (later_in o topic ≡ Some k)) → IsTrue (are_of_kinds fields k.fields) → IsRising a.fields → CanBeAssigned a.fields k.assigns (before_env a fields at)
assignable sys a k fields at None is checked of later are rising = absurd of
assignable sys a k fields at (Some c) is checked of (topic, later) are rising = (c.fields, of, later_assignable sys c k topic a fields at checked is later are of rising)

-- and its fields are of their kinds then
pub kinds_then : (sys : System) (a : Aggregate) (k : EventClass) (fields : Record) (at : ℤ) (o : Option Class) (r : Result Record TriggerFault) → class_named sys.classes a.class ≡ o → IsCheckedSystem sys → IsOfClass o a.fields
    → ((topic : Name) × (later_in o topic ≡ Some k)) → IsTrue (are_of_kinds fields k.fields) → IsRising a.fields
    → ((wanted : List (Name × Kind)) → IsTrue (are_of_kinds a.fields wanted) → AreAssignable wanted k.assigns (before_env a fields at) → IfOk r (λ fields. IsTrue (are_of_kinds fields wanted)))
    → IfOk r (IsOfClass o)
kinds_then sys a k fields at None r is checked of later are rising kinds = absurd of
kinds_then sys a k fields at (Some c) (Ok fields_now) is checked of (topic, later) are rising kinds = kinds c.fields of (later_assignable sys c k topic a fields at checked is later are of rising)
kinds_then sys a k fields at (Some c) (Err fault) is checked of later are rising kinds = kinds c.fields of (later_assignable sys c k later.0 a fields at checked is later.1 are of rising)

-- an event with the fields of its topic has those of the later event
pub later_in_class : (c : Class) (topic : Name) (k : EventClass) → later_in (Some c) topic ≡ Some k → event_in c topic ≡ Some k
later_in_class c topic k is = elim (is_created c topic) as (λ b. (if b then None else event_in c topic) ≡ Some k → event_in c topic ≡ Some k) [
  | true ↦ λ h. cc
  | false ↦ λ h. h
] is

pub later_fits : (sys : System) (name topic : Name) (k : EventClass) (fields : Record) (o : Option Class) → class_named sys.classes name ≡ o → IsCheckedSystem sys → later_in o topic ≡ Some k
    → IfSome (event_named sys.classes topic) (λ p. IsTrue (are_of_kinds fields p.1.fields)) → IsTrue (are_of_kinds fields k.fields)
later_fits sys name topic k fields None is checked later fits = absurd (cc later)
later_fits sys name topic k fields (Some c) is checked later fits =
    subst (λ (o : Option (Class × EventClass)). IfSome o (λ p. IsTrue (are_of_kinds fields p.1.fields))) (one-topic sys name c topic k checked is (later_in_class c topic k later)) fits

-- an aggregate of a declared class, by the class's name
pub of_class : (sys : System) (c : Class) (name : Name) (fields : Record) → class_named sys.classes c.name ≡ Some c → name ≡ c.name → IsTrue (are_of_kinds fields c.fields) → IsOfClass (class_named sys.classes name) fields
of_class sys c name fields is same are = subst (λ (o : Option Class). IsOfClass o fields) (sym (ap (class_named sys.classes) same ∙ is)) are

-- the Created event of a declared class
own-topic : (c : Class) → is_created c c.created.topic ≡ true
own-topic c = (bytes_eq-Decides c.created.topic c.created.topic).1 refl

created-in : (c : Class) → event_in c c.created.topic ≡ Some c.created
created-in c = rw (own-topic c) refl

pub created_is_named : (sys : System) (name : Name) (c : Class) → IsCheckedSystem sys → class_named sys.classes name ≡ Some c → event_named sys.classes c.created.topic ≡ Some (c, c.created)
created_is_named sys name c checked is = one-topic sys name c c.created.topic c.created checked is (created-in c)

of-created : (o : Option Class) (c : Class) (fields : Record) → o ≡ Some c → IsOfEvent (created_in o) fields → IsTrue (are_of_kinds fields c.created.fields)
of-created o c fields is of = subst (λ (o : Option Class). IsOfEvent (created_in o) fields) is of

pub create_checked : (sys : System) (name : Name) (c : Class) (e : DomainEvent) → IsCheckedSystem sys → class_named sys.classes name ≡ Some c → e.topic ≡ c.created.topic
    → IsOfEvent (created_in (class_named sys.classes name)) e.fields → IsRising c.fields → IsRising c.created.assigns → AreChecked c.fields c.created.assigns (first_env e)
create_checked sys name c e checked is topic of rising names =
    created_checked sys c c.created e checked (ap (event_named sys.classes) topic ∙ created_is_named sys name c checked is) (ap (is_created c) topic ∙ own-topic c)
    (of-created (class_named sys.classes name) c e.fields is of) rising names

pub created_class : (sys : System) (name : Name) (c : Class) → IsCheckedSystem sys → class_named sys.classes name ≡ Some c → class_named sys.classes c.name ≡ Some c
created_class sys name c checked is = class-of-topic sys c c.created c.created.topic checked (created_is_named sys name c checked is)

begun-created : (sys : System) (c : Class) (e : DomainEvent) → event_named sys.classes e.topic ≡ Some (c, c.created) → is_created c e.topic ≡ true → e.originator_version ≡ 1 → begun sys e ≡ created_with c e (fields_at_first c.created e)
begun-created sys c e is created first = rw is (rw created (rw first refl))

pub created_begins : (sys : System) (name : Name) (c : Class) (e : DomainEvent) → IsCheckedSystem sys → class_named sys.classes name ≡ Some c → e.topic ≡ c.created.topic → e.originator_version ≡ 1
    → begun sys e ≡ created_with c e (fields_at_first c.created e)
created_begins sys name c e checked is topic first =
    begun-created sys c e (ap (event_named sys.classes) topic ∙ created_is_named sys name c checked is) (ap (is_created c) topic ∙ own-topic c) first

-- the event that create makes

abbrev made_event : Id → ℤ → Name → Record → DomainEvent
made_event id at topic fields = record { originator_id = id; originator_version = 1; timestamp = at; topic = topic; fields = fields }

module _ (sys : System) (name : Name) (c : Class) (id : Id) (fields : Record) (at : ℤ) (topic : Name) (copied : Record)
    (checked : IsCheckedSystem sys) (is : class_named sys.classes name ≡ Some c) (topic_is : topic ≡ c.created.topic) (copied_is : copied ≡ fields) where
  is-first : made_event id at topic copied ≡ first_event sys name id fields at
  is-first = λ i. made_event id at ((topic_is ∙ ap created_topic (sym is)) i) (copied_is i)

  pub create_fits : IsOfEvent (created_in (class_named sys.classes name)) fields → IsRising c.fields → IsRising c.created.assigns → AreChecked c.fields c.created.assigns (first_env (made_event id at topic copied))
  create_fits of rising names =
      create_checked sys name c (made_event id at topic copied) checked is topic_is
      (subst (λ (r : Record). IsOfEvent (created_in (class_named sys.classes name)) r) (sym copied_is) of) rising names

  outcome : Result Aggregate ApplyFault → Result Aggregate ApplyFault
  outcome o = with_pending (made_event id at topic copied) o

  begins-as : (o : Result Aggregate ApplyFault) → created_with c (made_event id at topic copied) (fields_at_first c.created (made_event id at topic copied)) ≡ o
      → with_pending (first_event sys name id fields at) (begun sys (first_event sys name id fields at)) ≡ with_pending (made_event id at topic copied) o
  begins-as o gives =
      subst (λ (e : DomainEvent). with_pending e (begun sys e) ≡ with_pending (made_event id at topic copied) o) is-first
      (ap (with_pending (made_event id at topic copied)) (created_begins sys name c (made_event id at topic copied) checked is topic_is refl ∙ gives))

  pub create_ok : (a : Aggregate) (pending : List DomainEvent) → created_with c (made_event id at topic copied) (fields_at_first c.created (made_event id at topic copied)) ≡ Ok a
      → pending ≡ a.pending ++ made_event id at topic copied ∷ []
      → with_pending (first_event sys name id fields at) (begun sys (first_event sys name id fields at)) ≡ Ok (record a { pending = pending })
  create_ok a pending gives more = begins-as (Ok a) gives ∙ ap (λ (es : List DomainEvent). Ok (record a { pending = es })) (sym more)

  pub create_err : (fault : TriggerFault) → Triggers (created_with c (made_event id at topic copied) (fields_at_first c.created (made_event id at topic copied))) (Err fault)
      → Triggers (with_pending (first_event sys name id fields at) (begun sys (first_event sys name id fields at))) (Err fault)
  create_err Overflow gives = begins-as (Err apply.Overflow) gives
  create_err NoMemory gives = tt

-- the event of a topic is the later one of that topic
pub one_event : (c : Class) (topic named : Name) (f k : EventClass) → topic ≡ named → event_in c topic ≡ Some f → later_in (Some c) named ≡ Some k → f ≡ k
one_event c topic named f k same is later = cc (sym is ∙ ap (event_in c) same ∙ later_in_class c named k later)

pub later_of : (sys : System) (k : Class) (name topic named : Name) (event : EventClass) (fields : Record) → class_named sys.classes k.name ≡ Some k → name ≡ k.name → topic ≡ named → later_in (Some k) named ≡ Some event
    → IsTrue (are_of_kinds fields event.fields) → IsOfEvent (later_in (class_named sys.classes name) topic) fields
later_of sys k name topic named event fields is class same later are =
    subst (λ (o : Option EventClass). IsOfEvent o fields)
    (sym (ap (λ (o : Option Class). later_in o topic) (ap (class_named sys.classes) class ∙ is) ∙ ap (later_in (Some k)) same ∙ later)) are
