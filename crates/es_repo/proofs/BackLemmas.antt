-- In a checked system a new event whose fields rise is read back as it is stored.
use Rattle.std.proofs.Common.{◌≡◌, ◌∙◌, Bool, true, false, not, ◌&&◌, List, [], ◌∷◌, find, Option, None, Some, codes, refl, sym, ap}
use Rattle.std.specs.List.{list_all}
use Rattle.std.specs.Str.{bytes_eq}
use Rattle.std.proofs.lemmas.Slice.Eq.{bytes_eq-Decides}
use Rattle.es_model.specs.Declaration.{event_named}
use Rattle.es_model.specs.Names.{is_lower_name, is_field_name, is_reserved_field, is_topic_in, is_upper_name}
use Rattle.es_model.specs.Rising.{IsRising, item_of}
use Rattle.es_model.specs.Values.{Name}
use Rattle.es_model.specs.declared.declaration.Class.{Class}
use Rattle.es_model.specs.declared.declaration.EventClass.{EventClass}
use Rattle.es_model.specs.declared.declaration.System.{System}
use Rattle.es_model.specs.declared.domain_event.DomainEvent.{DomainEvent}
use Rattle.es_model.specs.declared.event.StoredEvent.{StoredEvent}
use Rattle.es_model.specs.declared.value.Kind.{Kind}
use Rattle.es_model.proofs.HistoryLemmas.{both_true}
use Rattle.es_expr.specs.Checked.{IsCheckedSystem}
use Rattle.es_expr.specs.Limits.{are_numbers_within, are_kinds_within, is_event_within, are_events_within, is_class_within, are_commands_within, are_upcasts_within, are_assigns_within}
use Rattle.es_expr.proofs.TopicLemmas.{class-within, passed}
use Rattle.es_expr.proofs.UniqueLemmas.{declares, class-of-topic}
use Rattle.es_mapper.specs.Mapped.{event_of}
use Rattle.es_mapper.specs.Mapping.{IsDeclared, IsEvent, stored}
use Rattle.es_mapper.proofs.MappedLemmas.{event-of}
use Rattle.es_domain.specs.Decision.{IsNewEvent}
use Rattle.es_domain.specs.Steps.{IsOfTopic}
use Rattle.es_repo.specs.inner.Stored.{IsReadBack}

-- ---- fields have no name of the members that stand beside them

no-step : (b : Bool) (name : Name) (k : Name × Kind) (kinds : List (Name × Kind)) → bytes_eq k.0 name ≡ b → is_reserved_field name ≡ true → is_field_name k.0 ≡ true
    → find (λ x. bytes_eq x.0 name) kinds ≡ None → find (λ x. bytes_eq x.0 name) (k ∷ kinds) ≡ None
no-step true name k kinds same reserved field rest =
    let free = (both_true (is_lower_name k.0) (not (is_reserved_field k.0)) field).1 in
    let taken : is_reserved_field k.0 ≡ true = ap is_reserved_field ((bytes_eq-Decides k.0 name).0 same) ∙ reserved in
    absurd (never (sym free ∙ ap not taken))
  where
    never : true ≡ false → ⊥
    never h = cc
no-step false name k kinds other reserved field rest = rw other rest

no-reserved : (name : Name) (kinds : List (Name × Kind)) → is_reserved_field name ≡ true → list_all (λ k. is_field_name k.0) kinds ≡ true → find (λ x. bytes_eq x.0 name) kinds ≡ None
no-reserved name [] reserved all = refl
no-reserved name (k ∷ kinds) reserved all =
    let parts = both_true (is_field_name k.0) (list_all (λ x. is_field_name x.0) kinds) all in
    no-step (bytes_eq k.0 name) name k kinds refl reserved parts.0 (no-reserved name kinds reserved parts.1)

no-item : (name : Name) (kinds : List (Name × Kind)) → is_reserved_field name ≡ true → list_all (λ k. is_field_name k.0) kinds ≡ true → item_of kinds name ≡ None
no-item name kinds reserved all = let none = no-reserved name kinds reserved all in rw none refl

event-fields : (class : Name) (k : EventClass) → is_event_within class k ≡ true → list_all (λ x. is_field_name x.0) k.fields ≡ true
event-fields class k within =
    let topic : Bool = is_topic_in class k.topic in
    let fields : Bool = are_kinds_within is_field_name k.fields in
    let upcasts : Bool = are_upcasts_within k.upcasts in
    let first = (both_true (topic && fields && upcasts) (are_assigns_within k.assigns) within).0 in
    let second = (both_true (topic && fields) upcasts first).0 in
    (both_true _ (list_all (λ x. is_field_name x.0) k.fields) (both_true topic fields second).1).1

class-events : (c : Class) → is_class_within c ≡ true → list_all (is_event_within c.name) (c.created ∷ c.events) ≡ true
class-events c within =
    let front : Bool = is_upper_name c.name && are_numbers_within c && are_kinds_within is_field_name c.fields in
    let created : Bool = is_event_within c.name c.created in
    let later : Bool = are_events_within c.name c.events in
    let first = (both_true (front && created && later) (are_commands_within c.commands) within).0 in
    let parts = both_true (front && created) later first in
    let one = (both_true front created parts.0).1 in
    let others = (both_true _ (list_all (is_event_within c.name) c.events) parts.1).1 in
    rw one others

declared-fields : (sys : System) (topic : Name) (c : Class) (k : EventClass) → IsCheckedSystem sys → event_named sys.classes topic ≡ Some (c, k) → list_all (λ x. is_field_name x.0) k.fields ≡ true
declared-fields sys topic c k checked is =
    let within = class-within sys c.name c checked (class-of-topic sys c k topic checked is) in
    event-fields c.name k (passed (λ e. bytes_eq e.topic topic) (is_event_within c.name) (c.created ∷ c.events) k (class-events c within) (declares sys.classes topic c k is).event)

-- ---- a new event

new-declared : (sys : System) (e : DomainEvent) (o : Option (Class × EventClass)) → IsCheckedSystem sys → event_named sys.classes e.topic ≡ o → IsRising e.fields → IsOfTopic o e.fields → IsDeclared sys e
new-declared sys e None checked named rising of = absurd of
new-declared sys e (Some p) checked named rising of =
    let all = declared-fields sys e.topic p.0 p.1 checked named in
    record {
      class = p.0;
      event = p.1;
      declared = named;
      rising = rising;
      fits = of;
      no_timestamp = no-item (codes "timestamp") p.1.fields refl all;
      no_topic = no-item (codes "originator_topic") p.1.fields refl all;
      no_version = no-item (codes "class_version") p.1.fields refl all;
    }

-- it is read back as itself, where what it is stored as is its own
pub new-back : (sys : System) (e : DomainEvent) (s : StoredEvent) → IsCheckedSystem sys → IsRising e.fields → s ≡ stored sys e → (IsDeclared sys e → IsEvent sys s e) → IsNewEvent sys e → IsReadBack sys e
new-back sys e s checked rising is back new =
    ap (event_of sys) (sym is) ∙ event-of sys s e (back (new-declared sys e (event_named sys.classes e.topic) checked refl rising new.fields))
