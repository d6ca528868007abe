-- Aggregates stay ready for the next trigger.
use Rattle.std.proofs.Common.{ℤ, ℕ, ◌≡◌, ◌≤◌, ◌+◌, ◌-◌, length, take, drop, get_or, add-one, IsTrue, true, false, Bool, List, [], ◌∷◌, ◌++◌, Option, None, Some, Result, Ok, Err, IfOk, IfSome, OnOk, All, if◌then◌else◌, refl, sym, ap, subst, ◌∙◌, arith}
use Rattle.std.proofs.lemmas.List.Elements.{All-push}
use Rattle.std.proofs.lemmas.Slice.Eq.{bytes_eq-Decides}
use Rattle.std.specs.Option.{option_or}
use Rattle.std.specs.Str.{bytes_eq}
use Rattle.es_model.specs.Declaration.{class_named, event_named}
use Rattle.es_model.specs.Values.{Name, Id, Record, are_of_kinds}
use Rattle.es_model.specs.declared.declaration.Class.{Class}
use Rattle.es_model.specs.declared.declaration.EventClass.{EventClass}
use Rattle.es_model.specs.declared.declaration.System.{System}
use Rattle.es_model.specs.declared.declaration.Trigger.{Trigger}
use Rattle.es_model.specs.declared.domain_event.DomainEvent.{DomainEvent}
use Rattle.es_expr.specs.Checked.{IsCheckedSystem}
use Rattle.es_domain.specs.Decision.{IsNewEvent}
use Rattle.es_domain.specs.Effect.{made, fired, all_fired, misplaced, class_code}
use Rattle.es_domain.specs.inner.Firing.{IsReady, IsKnown, IsEffect, IsNewEffect, CanAllFire, MakesOf}
use Rattle.es_domain.specs.Fold.{begun, stepped, later_in, created_with, fields_at_first}
use Rattle.es_domain.specs.Steps.{IsOfClass, IsOfTopic, HasItsFields, created_topic, first_event, next_event, with_pending, Triggers, TriggersOn}
use Rattle.es_domain.specs.declared.aggregate.Aggregate.{Aggregate}
use Rattle.es_domain.specs.declared.aggregate.TriggerFault.{TriggerFault}
use Rattle.es_domain.specs.declared.aggregate.TriggerFault.TheVariants as trigger
use Rattle.es_domain.specs.declared.command.Command.{Command}
use Rattle.es_domain.specs.declared.effect.Effect.{Effect}
use Rattle.es_domain.specs.declared.effect.Effect.TheVariants.{Changed, Refused}
use Rattle.es_model.specs.declared.memory.NoMemory.{NoMemory}
use Rattle.es_domain.proofs.NextLemmas.{made-by, pended}
use Rattle.es_domain.proofs.FoldLemmas.{created_is_named, created_begins, created_class, later_in_class}
use Rattle.es_expr.proofs.TopicLemmas.{one-topic}
use Rattle.es_domain.proofs.ValuesLemmas.{rest-is}

of-named : (sys : System) (name : Name) (k : Class) (fields : Record) → class_named sys.classes name ≡ Some k → IsOfClass (class_named sys.classes name) fields → IsTrue (are_of_kinds fields k.fields)
of-named sys name k fields is of = subst (λ (o : Option Class). IsOfClass o fields) is of

of-topic : (sys : System) (topic : Name) (k : Class) (event : EventClass) (fields : Record) → event_named sys.classes topic ≡ Some (k, event) → IsTrue (are_of_kinds fields event.fields) → IsOfTopic (event_named sys.classes topic) fields
of-topic sys topic k event fields is are = subst (λ (o : Option (Class × EventClass)). IsOfTopic o fields) (sym is) are

module _ (sys : System) (k : Class) (event : EventClass) (topic : Name) (fields : Record) (at : ℤ) (checked : IsCheckedSystem sys)
    (named : class_named sys.classes k.name ≡ Some k) (later : later_in (Some k) topic ≡ Some event) (are : IsTrue (are_of_kinds fields event.fields)) where
  pub fired_ready : (r : Result (Unit {0}) TriggerFault) (old new : Aggregate) → TriggersOn (with_pending (next_event old topic fields at) (stepped sys old (next_event old topic fields at))) old new r
      → HasItsFields sys new → (more : ℕ) → IsReady sys k (more + 1) old → OnOk r (IsReady sys k more new)
  fired_ready (Err fault) old new outcome of more ready = tt
  fired_ready (Ok done) old new outcome of more ready =
      let e = next_event old topic fields at in
      let p = pended e (stepped sys old e) new (ap made outcome) in
      let m = made-by sys (Some old) e p.0 p.1 in
      let same_class : new.class ≡ old.class = sym (ap (λ (x : Aggregate). x.class) p.2) ∙ m.class in
      let version : new.version ≡ old.version + 1 = sym (ap (λ (x : Aggregate). x.version) p.2) ∙ m.version_is in
      let pending : new.pending ≡ old.pending ++ e ∷ [] = sym (ap (λ (x : Aggregate). x.pending) p.2) ∙ ap (λ (es : List DomainEvent). es ++ e ∷ []) m.pending in
      let class = same_class ∙ ready.class in
      let small = ready.version in
      record {
        class = class;
        fields = of-named sys new.class k new.fields (ap (class_named sys.classes) class ∙ named) of;
        version = omega (arith, version, small);
        pending = subst (All (IsNewEvent sys)) (sym pending) (All-push (IsNewEvent sys) old.pending e ready.pending
            (record { fields = of-topic sys topic k event fields (one-topic sys k.name k topic event checked named (later_in_class k topic event later)) are; version = omega (arith, small) }));
      }

made-keeps : (k : Class) (e : DomainEvent) (o : Option Record) (b : Aggregate) → with_pending e (created_with k e o) ≡ Ok b → (b.class ≡ k.name) × (b.version ≡ 1) × (b.pending ≡ e ∷ [])
made-keeps k e None b is = absurd (cc is)
made-keeps k e (Some fields) b is =
    let made : Aggregate = record { id = e.originator_id; version = 1; class = k.name; created_on = e.timestamp; modified_on = e.timestamp; fields = fields; pending = e ∷ [] } in
    let same : made ≡ b = cc in
    (sym (ap (λ (y : Aggregate). y.class) same), sym (ap (λ (y : Aggregate). y.version) same), sym (ap (λ (y : Aggregate). y.pending) same))

pub opened_ready : (sys : System) (name : Name) (k : Class) (id : Id) (fields : Record) (at : ℤ) (r : Result Aggregate TriggerFault) → IsCheckedSystem sys → class_named sys.classes name ≡ Some k
    → IsTrue (are_of_kinds fields k.created.fields) → Triggers (with_pending (first_event sys name id fields at) (begun sys (first_event sys name id fields at))) r
    → IfOk r (HasItsFields sys) → IfOk r (IsReady sys k 64)
opened_ready sys name k id fields at (Err fault) checked is are outcome of = tt
opened_ready sys name k id fields at (Ok b) checked is are outcome of =
    let e = first_event sys name id fields at in
    let topic : e.topic ≡ k.created.topic = ap created_topic is in
    let keeps = made-keeps k e (fields_at_first k.created e) b (ap (with_pending e) (sym (created_begins sys name k e checked is topic refl)) ∙ outcome) in
    let one = keeps.1 in
    record {
      class = keeps.0;
      fields = of-named sys b.class k b.fields (ap (class_named sys.classes) keeps.0 ∙ created_class sys name k checked is) of;
      version = omega (arith, one);
      pending = subst (All (IsNewEvent sys)) (sym keeps.2) (All-push (IsNewEvent sys) [] e (λ i d within. absurd (omega arith))
          (record { fields = of-topic sys e.topic k k.created fields (ap (event_named sys.classes) topic ∙ created_is_named sys name k checked is) are; version = omega arith }));
    }

-- the first of some triggers, and the others as a slice names them

pub none_fired : (sys : System) (k : Class) (c : Command) (at : ℤ) (ts : List Trigger) → all_fired sys k c at ts None ≡ None
none_fired sys k c at [] = refl
none_fired sys k c at (t ∷ ts) = refl

module _ (sys : System) (k : Class) (c : Command) (at : ℤ) (old : Aggregate) where
  pub fired_err : (ts : List Trigger) (d : Trigger) (new : Aggregate) (fault : TriggerFault) → 1 ≤ length ts → MakesOf (fired sys k c at (get_or ts 0 d) old) new (Err fault) → MakesOf (all_fired sys k c at ts (Some old)) new (Err fault)
  fired_err [] d new fault long is = absurd (omega arith)
  fired_err (t ∷ ts) d new trigger.Overflow long is = ap (all_fired sys k c at ts) is ∙ none_fired sys k c at ts
  fired_err (t ∷ ts) d new trigger.NoMemory long is = tt

  pub rest_ready : (ts : List Trigger) (new : Aggregate) → 1 ≤ length ts → IsReady sys k (length ts) old → ((more : ℕ) → IsReady sys k (more + 1) old → IsReady sys k more new) → IsReady sys k (length (take (length ts - 1) (drop 1 ts))) new
  rest_ready [] new long ready onward = absurd (omega arith)
  rest_ready (t ∷ ts) new long ready onward =
      subst (λ (us : List Trigger). IsReady sys k (length us) new) (sym (rest-is t ts)) (onward (length ts) (subst (λ n. IsReady sys k n old) (sym (add-one (length ts))) ready))

pub rest_fires : (k : Class) (c : Command) (at : ℤ) (ts : List Trigger) → 1 ≤ length ts → CanAllFire k c at ts → CanAllFire k c at (take (length ts - 1) (drop 1 ts))
rest_fires k c at [] long can = absurd (omega arith)
rest_fires k c at (t ∷ ts) long can = subst (λ us. CanAllFire k c at us) (sym (rest-is t ts)) can.1

-- what was found is ready for a command that it is there for

known-ready : (sys : System) (k : Class) (a : Aggregate) → class_named sys.classes k.name ≡ Some k → a.class ≡ k.name → IsKnown sys a → IsReady sys k 8 a
known-ready sys k a named class known =
    let small = known.version in
    record {
      class = class;
      fields = of-named sys a.class k a.fields (ap (class_named sys.classes) class ∙ named) known.fields;
      version = omega (arith, small);
      pending = subst (All (IsNewEvent sys)) (sym known.pending) (λ i d within. absurd (omega arith));
    }

same-class : (b : Bool) (x y : Name) → bytes_eq x y ≡ b → (if b then (let n : Option Name = None in n) else Some class_code) ≡ None → x ≡ y
same-class true x y is none = (bytes_eq-Decides x y).0 is
same-class false x y is none = absurd (cc none)

pub placed_ready : (sys : System) (k : Class) (creates : Bool) (found : Option Aggregate) → class_named sys.classes k.name ≡ Some k → misplaced creates k found ≡ None → IfSome found (IsKnown sys) → IfSome found (IsReady sys k 8)
placed_ready sys k creates None named placed known = tt
placed_ready sys k true (Some a) named placed known = absurd (cc placed)
placed_ready sys k false (Some a) named placed known = known-ready sys k a named (same-class (bytes_eq a.class k.name) a.class k.name refl placed) known

-- where nothing is refused nothing was refused at first
pub first_none : {A : Type 0} (first second : Option A) → option_or first second ≡ None → first ≡ None
first_none None second none = refl
first_none (Some a) second none = absurd (cc none)

-- what is ready for no more triggers has changed
pub effect_changed : (sys : System) (k : Class) (e : Effect) → class_named sys.classes k.name ≡ Some k → IsEffect sys k e → IsNewEffect sys e
effect_changed sys k (Refused code) named ready = tt
effect_changed sys k (Changed a) named ready =
    let small = ready.version in
    record {
      fields = subst (λ (o : Option Class). IsOfClass o a.fields) (sym (ap (class_named sys.classes) ready.class ∙ named)) ready.fields;
      version = omega (arith, small);
      pending = ready.pending;
    }

pub effect_changed_ok : (sys : System) (k : Class) (r : Result Effect NoMemory) → class_named sys.classes k.name ≡ Some k → IfOk r (IsEffect sys k) → IfOk r (IsNewEffect sys)
effect_changed_ok sys k (Ok e) named ready = effect_changed sys k e named ready
effect_changed_ok sys k (Err fault) named ready = tt
