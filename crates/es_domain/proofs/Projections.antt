-- What holds in a checked system.
use Rattle.std.proofs.Common.{ℤ, ℕ, nat_le, suc, ◌==◌, not, ◌&&◌, ◌||◌, if◌then◌else◌, codes, arith, ◌≡◌, ◌≤◌, length, IfSome, IsTrue, true, false, Bool, List, [], ◌∷◌, ◌++◌, Option, None, Some, refl, sym, ap, subst, ◌∙◌}
use Rattle.std.proofs.lemmas.Bool.Decides.{nat_tests}
use Rattle.std.specs.List.{list_all}
use Rattle.std.specs.Prelude.{find}
use Rattle.std.specs.Str.{bytes_eq}
use Rattle.es_model.specs.Declaration.{class_named, event_in, event_named, is_created, is_creating}
use Rattle.es_model.specs.Rising.{IsRising}
use Rattle.es_model.specs.Values.{Name, Record, are_of_kinds, fits}
use Rattle.es_model.specs.declared.declaration.Class.{Class}
use Rattle.es_model.specs.declared.declaration.CommandDef.{CommandDef}
use Rattle.es_model.specs.declared.declaration.EventClass.{EventClass}
use Rattle.es_model.specs.declared.declaration.Guard.{Guard}
use Rattle.es_model.specs.declared.declaration.System.{System}
use Rattle.es_model.specs.declared.declaration.Trigger.{Trigger}
use Rattle.es_model.specs.declared.domain_event.DomainEvent.{DomainEvent}
use Rattle.es_model.specs.declared.value.Kind.{Kind}
use Rattle.es_model.specs.declared.value.Value.{Value}
use Rattle.es_expr.specs.Checked.{IsCheckedSystem}
use Rattle.es_expr.specs.Environments.{prefixed, creating_env, command_env, created_env, assign_env}
use Rattle.es_model.specs.Names.{is_upper_name, is_field_name, is_lower_name, is_between, topic_of}
use Rattle.es_expr.specs.Limits.{is_class_within, is_event_within, is_command_within, are_events_within, are_commands_within, are_numbers_within, are_kinds_within, are_guards_within, are_triggers_within, is_trigger_within}
use Rattle.es_expr.specs.Sound.{Fits}
use Rattle.es_expr.specs.Misfits.{uuid, moment, whole, command_part_misfits, trigger_env, first_env as seen_first_env}
use Rattle.es_domain.specs.Effect.{misplaced, seen}
use Rattle.es_domain.specs.inner.Firing.{AreTests, CanOpen, CanFire, CanAllFire, CanRun, IsCommandOf, IsReady}
use Rattle.es_domain.specs.declared.command.Command.{Command}
use Rattle.es_domain.specs.inner.Evaluation.{AreChecked, AreAssignable}
use Rattle.es_expr.proofs.CheckedLemmas.{AreAllOfKinds, AreTests as AreKinds, AreTriggers, class-fits, created-fits, later-fits, command-fits, guards-fit, triggers-fit}
use Rattle.es_expr.proofs.TopicLemmas.{class-within, passed}
use Rattle.es_expr.proofs.UniqueLemmas.{class-of-topic, declares}
use Rattle.es_domain.proofs.KindsLemmas.{rising-kinds, both, fits-env, kinds-prefixed, all_named_checked, some-assignable}
use Rattle.es_domain.proofs.ValuesLemmas.{of-kinds-append, one-of-kind}
use Rattle.es_domain.specs.Fold.{first_env, before_env, later_in, id_value, version_value, moment_value}
use Rattle.es_domain.specs.declared.aggregate.Aggregate.{Aggregate}

-- ---- the parts of a test

find-cons : {A : Type 0} (p : A → Bool) (x : A) (xs : List A) (b : Bool) → p x ≡ b → find p (x ∷ xs) ≡ (if b then Some x else find p xs)
find-cons p x xs true is = rw is refl
find-cons p x xs false is = rw is refl

-- what is found passes the test
pub found-passes : {A : Type 0} (p : A → Bool) (xs : List A) (y : A) → find p xs ≡ Some y → p y ≡ true
found-passes p [] y is = absurd (cc is)
found-passes {A} p (x ∷ xs) y is = elim (p x) as (λ b. p x ≡ b → p y ≡ true) [
  | true ↦ λ e. let same : x ≡ y = cc (sym (find-cons p x xs true e) ∙ is) in ap p (sym same) ∙ e
  | false ↦ λ e. found-passes p xs y (sym (find-cons p x xs false e) ∙ is)
] refl

-- ---- environments

pub env-created : (xs : Record) (ks : List (Name × Kind)) (id at : Value) → IsTrue (are_of_kinds xs ks) → fits id uuid ≡ true → fits at moment ≡ true → IsTrue (are_of_kinds (created_env xs id at) (created_env ks uuid moment))
env-created xs ks id at are id_fits at_fits =
    of-kinds-append ((codes "at", at) ∷ prefixed (codes "event.") xs) ((codes "id", id) ∷ []) ((codes "at", moment) ∷ prefixed (codes "event.") ks) ((codes "id", uuid) ∷ [])
    (of-kinds-append ((codes "at", at) ∷ []) (prefixed (codes "event.") xs) ((codes "at", moment) ∷ []) (prefixed (codes "event.") ks)
    (one-of-kind (codes "at") (codes "at") at moment refl at_fits) (kinds-prefixed (codes "event.") xs ks are))
    (one-of-kind (codes "id") (codes "id") id uuid refl id_fits)

env-self : (front : Record) (kinds : List (Name × Kind)) (xs : Record) (ks : List (Name × Kind)) (version : Value) → IsTrue (are_of_kinds front kinds) → IsTrue (are_of_kinds xs ks) → fits version whole ≡ true
    → IsTrue (are_of_kinds (front ++ prefixed (codes "self.") xs ++ (codes "version", version) ∷ []) (kinds ++ prefixed (codes "self.") ks ++ (codes "version", whole) ∷ []))
env-self front kinds xs ks version are self version_fits =
    of-kinds-append (front ++ prefixed (codes "self.") xs) ((codes "version", version) ∷ []) (kinds ++ prefixed (codes "self.") ks) ((codes "version", whole) ∷ [])
    (of-kinds-append front (prefixed (codes "self.") xs) kinds (prefixed (codes "self.") ks) are (kinds-prefixed (codes "self.") xs ks self))
    (one-of-kind (codes "version") (codes "version") version whole refl version_fits)

-- ---- events

created-event : (c : Class) (topic : Name) (k : EventClass) → is_created c topic ≡ true → event_in c topic ≡ Some k → k ≡ c.created
created-event c topic k created is = cc (sym is ∙ find-cons (λ e. bytes_eq e.topic topic) c.created c.events true created)

-- a Created event assigns to each field
pub created_checked : (sys : System) (c : Class) (k : EventClass) (e : DomainEvent) → IsCheckedSystem sys → event_named sys.classes e.topic ≡ Some (c, k) → is_created c e.topic ≡ true
    → IsTrue (are_of_kinds e.fields k.fields) → IsRising c.fields → IsRising k.assigns → AreChecked c.fields k.assigns (first_env e)
created_checked sys c k e checked is created fields rising names =
    let same : k ≡ c.created = created-event c e.topic k created (declares sys.classes e.topic c k is).event in
    let fit = class-fits sys c.name c checked.fits_together (class-of-topic sys c k e.topic checked is) in
    subst (λ (f : EventClass). AreChecked c.fields f.assigns (first_env e)) (sym same)
    (all_named_checked c.fields (created_env c.created.fields uuid moment) c.created.assigns (first_env e)
    (fits-env (first_env e) (created_env c.created.fields uuid moment)
    (env-created e.fields c.created.fields (id_value e.originator_id) (moment_value e.timestamp) (subst (λ (f : EventClass). IsTrue (are_of_kinds e.fields f.fields)) same fields) refl refl))
    rising (subst (λ (f : EventClass). IsRising f.assigns) same names) (created-fits fit.0 c fit.1))

later-event : (c : Class) (topic : Name) (k : EventClass) → later_in (Some c) topic ≡ Some k → find (λ e. bytes_eq e.topic topic) c.events ≡ Some k
later-event c topic k is = elim (is_created c topic) as (λ b. is_created c topic ≡ b → (if b then None else event_in c topic) ≡ Some k → find (λ e. bytes_eq e.topic topic) c.events ≡ Some k) [
  | true ↦ λ e h. absurd (cc h)
  | false ↦ λ e h. sym (find-cons (λ e. bytes_eq e.topic topic) c.created c.events false e) ∙ h
] refl is

-- a later event assigns to fields of the class
pub later_assignable : (sys : System) (c : Class) (k : EventClass) (topic : Name) (a : Aggregate) (fields : Record) (at : ℤ) → IsCheckedSystem sys → class_named sys.classes a.class ≡ Some c → later_in (Some c) topic ≡ Some k
    → IsTrue (are_of_kinds fields k.fields) → IsTrue (are_of_kinds a.fields c.fields) → IsRising a.fields → AreAssignable c.fields k.assigns (before_env a fields at)
later_assignable sys c k topic a fields at checked is later are its rising =
    let fit = class-fits sys a.class c checked.fits_together is in
    let env : List (Name × Kind) = assign_env k.fields uuid moment c.fields whole in
    some-assignable c.fields env k.assigns (before_env a fields at)
    (fits-env (before_env a fields at) env
    (env-self (created_env fields (id_value a.id) (moment_value at)) (created_env k.fields uuid moment) a.fields c.fields (version_value a.version)
    (env-created fields k.fields (id_value a.id) (moment_value at) are refl refl) its refl))
    (rising-kinds a.fields c.fields its rising) (later-fits fit.0 c topic k fit.1 (later-event c topic k later))

-- ---- commands

-- a declared command has no fault, and is within the limits
record CommandAt (k : Class) (d : CommandDef) : Type 0 where
  pub path : List ℕ
  pub none : command_part_misfits k path d ≡ []
  pub within : is_command_within d ≡ true

commands-within : (c : Class) → is_class_within c ≡ true → list_all is_command_within c.commands ≡ true
commands-within c is =
    let before = is_upper_name c.name && are_numbers_within c && are_kinds_within is_field_name c.fields && is_event_within c.name c.created && are_events_within c.name c.events in
    (both _ (list_all is_command_within c.commands) (both before (are_commands_within c.commands) is).1).1

command-at : (sys : System) (k : Class) (d : CommandDef) (c : Command) → IsCheckedSystem sys → IsCommandOf sys k d c → CommandAt k d
command-at sys k d c checked is =
    let fit = class-fits sys c.class k checked.fits_together is.class in
    let parts = command-fits fit.0 k c.name d fit.1 is.command in
    record {
      path = parts.0;
      none = parts.1;
      within = passed (λ (e : CommandDef). bytes_eq e.name c.name) is_command_within k.commands d (commands-within k (class-within sys c.class k checked is.class)) is.command;
    }

few-triggers : (d : CommandDef) → is_command_within d ≡ true → is_between 1 8 (length d.triggers) ≡ true
few-triggers d is =
    let before = is_upper_name d.name && are_kinds_within is_lower_name d.params && are_guards_within d.guards in
    (both (is_between 1 8 (length d.triggers)) (list_all is_trigger_within d.triggers) (both before (are_triggers_within d.triggers) is).1).0

pub triggers_few : (sys : System) (k : Class) (d : CommandDef) (c : Command) → IsCheckedSystem sys → IsCommandOf sys k d c → length d.triggers ≤ 8
triggers_few sys k d c checked is =
    let h = (both (nat_le 1 (length d.triggers)) (nat_le (length d.triggers) 8) (few-triggers d (command-at sys k d c checked is).within)).1 in grind (arith, nat_tests)

some-triggers : (d : CommandDef) → is_command_within d ≡ true → 1 ≤ length d.triggers
some-triggers d is = let h = (both (nat_le 1 (length d.triggers)) (nat_le (length d.triggers) 8) (few-triggers d is)).0 in grind (arith, nat_tests)

env-creating : (xs : Record) (ks : List (Name × Kind)) (id at : Value) → IsTrue (are_of_kinds xs ks) → fits id uuid ≡ true → fits at moment ≡ true → IsTrue (are_of_kinds (creating_env xs id at) (creating_env ks uuid moment))
env-creating xs ks id at are id_fits at_fits =
    of-kinds-append (prefixed (codes "arg.") xs) ((codes "at", at) ∷ (codes "id", id) ∷ []) (prefixed (codes "arg.") ks) ((codes "at", moment) ∷ (codes "id", uuid) ∷ [])
    (kinds-prefixed (codes "arg.") xs ks are)
    (of-kinds-append ((codes "at", at) ∷ []) ((codes "id", id) ∷ []) ((codes "at", moment) ∷ []) ((codes "id", uuid) ∷ [])
    (one-of-kind (codes "at") (codes "at") at moment refl at_fits) (one-of-kind (codes "id") (codes "id") id uuid refl id_fits))

seen-first : (c : Command) (at : ℤ) (params : List (Name × Kind)) → IsTrue (are_of_kinds c.args params) → IsTrue (are_of_kinds (seen c at None) (creating_env params uuid moment))
seen-first c at params are = env-creating c.args params (id_value c.id) (moment_value at) are refl refl

seen-of : (c : Command) (at : ℤ) (params fields : List (Name × Kind)) (a : Aggregate) → IsTrue (are_of_kinds c.args params) → IsTrue (are_of_kinds a.fields fields) → IsTrue (are_of_kinds (seen c at (Some a)) (command_env params uuid moment fields whole))
seen-of c at params fields a are its =
    env-self (creating_env c.args (id_value c.id) (moment_value at)) (creating_env params uuid moment) a.fields fields (version_value a.version)
    (env-creating c.args params (id_value c.id) (moment_value at) are refl refl) its refl

seen-fits : (sys : System) (k : Class) (params : List (Name × Kind)) (c : Command) (at : ℤ) (creates : Bool) (found : Option Aggregate) → misplaced creates k found ≡ None → IfSome found (IsReady sys k 8) → IsTrue (are_of_kinds c.args params)
    → IsTrue (are_of_kinds (seen c at found) (if creates then creating_env params uuid moment else command_env params uuid moment k.fields whole))
seen-fits sys k params c at true None placed ready are = seen-first c at params are
seen-fits sys k params c at false None placed ready are = absurd (cc placed)
seen-fits sys k params c at true (Some a) placed ready are = absurd (cc placed)
seen-fits sys k params c at false (Some a) placed ready are = seen-of c at params k.fields a are ready.fields

tested : (env : List (Name × Kind)) (guards : List Guard) (values : Record) → Fits values env → AreKinds env guards → AreTests guards values
tested env [] values fits are = tt
tested env (g ∷ gs) values fits (is, are) = (record { kinds = env; fits = fits; checks = is }, tested env gs values fits are)

-- a command's guards are truth values
pub guards_tested : (sys : System) (k : Class) (d : CommandDef) (c : Command) (at : ℤ) (found : Option Aggregate) → IsCheckedSystem sys → IsCommandOf sys k d c → misplaced (is_creating k d.triggers) k found ≡ None
    → IfSome found (IsReady sys k 8) → AreTests d.guards (seen c at found)
guards_tested sys k d c at found checked is placed ready =
    let command = command-at sys k d c checked is in
    tested (seen_first_env k d) d.guards (seen c at found)
    (fits-env (seen c at found) (seen_first_env k d) (seen-fits sys k d.params c at (is_creating k d.triggers) found placed ready is.args)) (guards-fit k command.path d command.none)

later-is : (k : Class) (topic : Name) → is_created k topic ≡ false → later_in (Some k) topic ≡ event_in k topic
later-is k topic later = elim (is_created k topic) as (λ b. b ≡ false → (if b then None else event_in k topic) ≡ event_in k topic) [
  | true ↦ λ h. absurd (cc h)
  | false ↦ λ h. refl
] later

not-zero : (n : ℕ) → (suc n == 0) ≡ false
not-zero n = grind (arith, nat_tests)

module _ (k : Class) (d : CommandDef) (c : Command) (at : ℤ) (t : Trigger) (event : EventClass) (are : IsTrue (are_of_kinds c.args d.params)) (declared : event_in k (topic_of k.name t.event) ≡ Some event) where
  -- a trigger of a later event may fire
  may-fire : is_created k (topic_of k.name t.event) ≡ false → AreAllOfKinds event.fields (command_env d.params uuid moment k.fields whole) t.fields → CanFire k c at t
  may-fire later fields =
      let env : List (Name × Kind) = command_env d.params uuid moment k.fields whole in
      record {
        event = event;
        later = later-is k (topic_of k.name t.event) later ∙ declared;
        gives = λ rising names a its. all_named_checked event.fields env t.fields (seen c at (Some a)) (fits-env (seen c at (Some a)) env (seen-of c at d.params k.fields a are its)) rising names fields;
      }

  -- and one of the Created event may open
  may-open : is_created k (topic_of k.name t.event) ≡ true → AreAllOfKinds event.fields (creating_env d.params uuid moment) t.fields → CanOpen k c at t
  may-open created fields =
      let env : List (Name × Kind) = creating_env d.params uuid moment in
      let same : event ≡ k.created = created-event k (topic_of k.name t.event) event created declared in
      λ rising names. all_named_checked k.created.fields env t.fields (seen c at None) (fits-env (seen c at None) env (seen-first c at d.params are)) rising names
      (subst (λ (e : EventClass). AreAllOfKinds e.fields env t.fields) same fields)

later-step : (a b : Bool) → a ≡ false → a || not b ≡ true → b ≡ false
later-step true b none is = absurd (cc none)
later-step false true none is = absurd (cc is)
later-step false false none is = refl

later-place : (n : ℕ) (b : Bool) → (suc n == 0) || not b ≡ true → b ≡ false
later-place n b is = later-step (suc n == 0) b (not-zero n) is

later-env : (k : Class) (d : CommandDef) (n : ℕ) → trigger_env k d (suc n) ≡ command_env d.params uuid moment k.fields whole
later-env k d n = rw (not-zero n) refl

fire-from : (k : Class) (d : CommandDef) (c : Command) (at : ℤ) (n : ℕ) (ts : List Trigger) → IsTrue (are_of_kinds c.args d.params) → AreTriggers k d (suc n) ts → CanAllFire k c at ts
fire-from k d c at n [] are each = tt
fire-from k d c at n (t ∷ ts) are (g, each) = (
  may-fire k d c at t g.event are g.declared (later-place n (is_created k (topic_of k.name t.event)) g.in_order)
      (subst (λ env. AreAllOfKinds g.event.fields env t.fields) (later-env k d n) g.fields),
  fire-from k d c at (suc n) ts are each,
)

none-placed : (b : Bool) (k : Class) → misplaced b k None ≡ None → b ≡ true
none-placed true k placed = refl
none-placed false k placed = absurd (cc placed)

some-placed : (b : Bool) (k : Class) (a : Aggregate) → misplaced b k (Some a) ≡ None → b ≡ false
some-placed true k a placed = absurd (cc placed)
some-placed false k a placed = refl

-- what the first trigger sees
first-sees : (k : Class) (d : CommandDef) (t : Trigger) (ts : List Trigger) (fields : List (Name × Kind)) (b : Bool) → d.triggers ≡ t ∷ ts → is_created k (topic_of k.name t.event) ≡ b → AreAllOfKinds fields (trigger_env k d 0) t.fields
    → AreAllOfKinds fields (if b then creating_env d.params uuid moment else command_env d.params uuid moment k.fields whole) t.fields
first-sees k d t ts fields b same is gives =
    subst (λ x. AreAllOfKinds fields (if x then creating_env d.params uuid moment else command_env d.params uuid moment k.fields whole) t.fields) (ap (is_creating k) same ∙ is) gives

run-from : (sys : System) (k : Class) (d : CommandDef) (c : Command) (at : ℤ) (ts : List Trigger) (found : Option Aggregate) → d.triggers ≡ ts → 1 ≤ length ts → IsTrue (are_of_kinds c.args d.params)
    → misplaced (is_creating k ts) k found ≡ None → AreTriggers k d 0 ts → CanRun k c at ts found
run-from sys k d c at [] found same long are placed each = absurd (omega arith)
run-from sys k d c at (t ∷ ts) None same long are placed (g, each) =
    let created = none-placed (is_created k (topic_of k.name t.event)) k placed in
    (may-open k d c at t g.event are g.declared created (first-sees k d t ts g.event.fields true same created g.fields), fire-from k d c at 0 ts are each)
run-from sys k d c at (t ∷ ts) (Some a) same long are placed (g, each) =
    let later = some-placed (is_created k (topic_of k.name t.event)) k a placed in
    (may-fire k d c at t g.event are g.declared later (first-sees k d t ts g.event.fields false same later g.fields), fire-from k d c at 0 ts are each)

-- and its triggers give the fields of their events
pub triggers_run : (sys : System) (k : Class) (d : CommandDef) (c : Command) (at : ℤ) (found : Option Aggregate) → IsCheckedSystem sys → IsCommandOf sys k d c → misplaced (is_creating k d.triggers) k found ≡ None
    → IfSome found (IsReady sys k 8) → CanRun k c at d.triggers found
triggers_run sys k d c at found checked is placed ready =
    let command = command-at sys k d c checked is in
    run-from sys k d c at d.triggers found refl (some-triggers d command.within) is.args placed (triggers-fit k command.path d command.none)
