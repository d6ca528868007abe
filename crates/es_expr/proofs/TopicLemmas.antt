-- In a checked system each topic is of one event.
use Rattle.std.proofs.Common.{◌≡◌, IsTrue, Bool, true, false, ◌&&◌, List, [], ◌∷◌, find, Option, Some, None, refl, sym, ap, subst, ◌∙◌}
use Rattle.std.proofs.lemmas.Slice.Eq.{bytes_eq-Decides}
use Rattle.std.specs.List.{list_all, before_first}
use Rattle.std.specs.Str.{bytes_eq}
use Rattle.es_model.specs.Declaration.{class_named, event_in, event_named, with_class}
use Rattle.es_model.specs.Names.{is_dot, is_upper_name, is_field_name, is_topic_in}
use Rattle.es_model.specs.Values.{Name}
use Rattle.es_model.specs.declared.declaration.Class.{Class}
use Rattle.es_model.specs.declared.declaration.EventClass.{EventClass}
use Rattle.es_model.specs.declared.declaration.System.{System}
use Rattle.es_expr.specs.Checked.{IsCheckedSystem}
use Rattle.es_expr.specs.Limits.{are_numbers_within, are_kinds_within, is_event_within, are_events_within, is_class_within, are_commands_within, are_apps_within, are_pipes_within, are_upcasts_within, are_assigns_within}
use Rattle.es_expr.proofs.UniqueLemmas.{declares, class-of-topic}

and-left : (a b : Bool) → IsTrue (a && b) → IsTrue a
and-left true b h = refl
and-left false b h = cc

and-right : (a b : Bool) → IsTrue (a && b) → IsTrue b
and-right true b h = h
and-right false b h = cc

-- what is found passes the test, and each test that all pass

tested-step : {A : Type 0} (b : Bool) (p : A → Bool) (y : A) (xs : List A) (x : A) → p y ≡ b → (find p xs ≡ Some x → IsTrue (p x)) → find p (y ∷ xs) ≡ Some x → IsTrue (p x)
tested-step true p y xs x here rest is = let same : y ≡ x = let i = rw here at is in cc in subst (λ z. IsTrue (p z)) same here
tested-step false p y xs x here rest is = rest (rw here at is)

tested : {A : Type 0} (p : A → Bool) (xs : List A) (x : A) → find p xs ≡ Some x → IsTrue (p x)
tested p [] x is = cc
tested p (y ∷ xs) x is = tested-step (p y) p y xs x refl (tested p xs x) is

passed-step : {A : Type 0} (b : Bool) (p q : A → Bool) (y : A) (xs : List A) (x : A) → p y ≡ b → IsTrue (q y) → (find p xs ≡ Some x → IsTrue (q x)) → find p (y ∷ xs) ≡ Some x → IsTrue (q x)
passed-step true p q y xs x here pass rest is = let same : y ≡ x = let i = rw here at is in cc in subst (λ z. IsTrue (q z)) same pass
passed-step false p q y xs x here pass rest is = rest (rw here at is)

pub passed : {A : Type 0} (p q : A → Bool) (xs : List A) (x : A) → IsTrue (list_all q xs) → find p xs ≡ Some x → IsTrue (q x)
passed p q [] x all is = cc
passed p q (y ∷ xs) x all is = passed-step (p y) p q y xs x refl (and-left (q y) (list_all q xs) all) (passed p q xs x (and-right (q y) (list_all q xs) all)) is

-- a declared class of a checked system is within the limits
pub class-within : (s : System) (name : Name) (c : Class) → IsCheckedSystem s → class_named s.classes name ≡ Some c → IsTrue (is_class_within c)
class-within s name c checked is =
    passed (λ (d : Class). bytes_eq d.name name) is_class_within s.classes c
    (and-left (list_all is_class_within s.classes) (are_apps_within s.apps)
    (and-left (list_all is_class_within s.classes && are_apps_within s.apps) (are_pipes_within s.pipes) checked.within)) is

-- each event of a class has a topic of the class
event-within : (c : Class) (topic : Name) (k : EventClass) → IsTrue (is_class_within c) → event_in c topic ≡ Some k → IsTrue (is_event_within c.name k)
event-within c topic k within is =
    let a : Bool = is_upper_name c.name && are_numbers_within c && are_kinds_within is_field_name c.fields in
    let first : Bool = is_event_within c.name c.created in
    let later : Bool = are_events_within c.name c.events in
    let commands : Bool = are_commands_within c.commands in
    let to_later = and-left (a && first && later) commands within in
    let created = and-right a first (and-left (a && first) later to_later) in
    let others = and-right _ (list_all (is_event_within c.name) c.events) (and-right (a && first) later to_later) in
    passed (λ (e : EventClass). bytes_eq e.topic topic) (is_event_within c.name) (c.created ∷ c.events) k (rw created others) is

topic-class : (c : Class) (topic : Name) (k : EventClass) → IsTrue (is_class_within c) → event_in c topic ≡ Some k → before_first is_dot topic ≡ c.name
topic-class c topic k within is =
    let one : Bool = is_topic_in c.name k.topic in
    let two : Bool = are_kinds_within is_field_name k.fields in
    let three : Bool = are_upcasts_within k.upcasts in
    let in_topic = and-left one two (and-left (one && two) three (and-left (one && two && three) (are_assigns_within k.assigns) (event-within c topic k within is))) in
    let same : k.topic ≡ topic = (bytes_eq-Decides k.topic topic).0 (tested (λ (e : EventClass). bytes_eq e.topic topic) (c.created ∷ c.events) k is) in
    subst (λ t. before_first is_dot t ≡ c.name) same ((bytes_eq-Decides (before_first is_dot k.topic) c.name).0 (and-left (bytes_eq (before_first is_dot k.topic) c.name) _ in_topic))

-- a topic of a declared class is declared
named-there : (b : Bool) (o : Option EventClass) (d : Class) (classes : List Class) (name topic : Name) (c : Class) (k : EventClass) → bytes_eq d.name name ≡ b → event_in d topic ≡ o
    → (class_named classes name ≡ Some c → (p : Class × EventClass) × (event_named classes topic ≡ Some p)) → class_named (d ∷ classes) name ≡ Some c → event_in c topic ≡ Some k
    → (p : Class × EventClass) × (with_class d o (event_named classes topic) ≡ Some p)
named-there b (Some e) d classes name topic c k here in_it rest is event = ((d, e), refl)
named-there true None d classes name topic c k here in_it rest is event =
    let same : d ≡ c = let i = rw here at is in cc in let moved = subst (λ z. event_in z topic ≡ None) same in_it in cc
named-there false None d classes name topic c k here in_it rest is event = rest (rw here at is)

is-named : (classes : List Class) (name topic : Name) (c : Class) (k : EventClass) → class_named classes name ≡ Some c → event_in c topic ≡ Some k → (p : Class × EventClass) × (event_named classes topic ≡ Some p)
is-named [] name topic c k is event = cc
is-named (d ∷ classes) name topic c k is event =
    named-there (bytes_eq d.name name) (event_in d topic) d classes name topic c k refl refl (λ more. is-named classes name topic c k more event) is event

pub one-topic : (s : System) (name : Name) (c : Class) (topic : Name) (k : EventClass) → IsCheckedSystem s → class_named s.classes name ≡ Some c → event_in c topic ≡ Some k → event_named s.classes topic ≡ Some (c, k)
one-topic s name c topic k checked is event =
    let there = is-named s.classes name topic c k is event in
    let d : Class = there.0.0 in
    let e : EventClass = there.0.1 in
    let by_name : class_named s.classes d.name ≡ Some d = class-of-topic s d e topic checked there.1 in
    let event_of_d : event_in d topic ≡ Some e = (declares s.classes topic d e there.1).event in
    let name_of_c : before_first is_dot topic ≡ c.name = topic-class c topic k (class-within s name c checked is) event in
    let name_of_d : before_first is_dot topic ≡ d.name = topic-class d topic e (class-within s d.name d checked by_name) event_of_d in
    let named : c.name ≡ name = (bytes_eq-Decides c.name name).0 (tested (λ (z : Class). bytes_eq z.name name) s.classes c is) in
    let found : class_named s.classes name ≡ Some d = subst (λ n. class_named s.classes n ≡ Some d) (sym name_of_d ∙ name_of_c ∙ named) by_name in
    let same : d ≡ c = cc in
    let same_event : e ≡ k = let moved = subst (λ z. event_in z topic ≡ Some e) same event_of_d in cc in
    there.1 ∙ ap (λ z. Some (z, e)) same ∙ ap (λ z. Some (c, z)) same_event
