-- What holds in a system where all fits together.
use Rattle.std.proofs.Common.{◌≡◌, ℕ, suc, IsTrue, Bool, true, false, List, [], ◌∷◌, ◌++◌, find, Option, Some, None, Ok, Err, codes, refl, sym, ap, subst}
use Rattle.std.proofs.lemmas.Slice.Eq.{bytes_eq-Decides}
use Rattle.std.specs.Str.{bytes_eq}
use Rattle.es_model.specs.Declaration.{class_named, event_in, command_in}
use Rattle.es_model.specs.Names.{topic_of}
use Rattle.es_model.specs.Rising.{item_of}
use Rattle.es_model.specs.Values.{Name}
use Rattle.es_model.specs.declared.declaration.Class.{Class}
use Rattle.es_model.specs.declared.declaration.Code.{Code}
use Rattle.es_model.specs.declared.declaration.Code.TheVariants as code
use Rattle.es_model.specs.declared.declaration.CommandDef.{CommandDef}
use Rattle.es_model.specs.declared.declaration.EventClass.{EventClass}
use Rattle.es_model.specs.declared.declaration.Guard.{Guard}
use Rattle.es_model.specs.declared.declaration.System.{System}
use Rattle.es_model.specs.declared.declaration.Trigger.{Trigger}
use Rattle.es_model.specs.declared.expr.Expr.{Expr}
use Rattle.es_model.specs.declared.value.AtomKind.{AtomKind}
use Rattle.es_model.specs.declared.value.AtomKind.TheVariants as atom_kind
use Rattle.es_model.specs.declared.value.Kind.{Kind}
use Rattle.es_model.specs.declared.value.Kind.TheVariants as kind
use Rattle.es_expr.specs.Environments.{created_env, assign_env}
use Rattle.es_expr.specs.Kinds.{Judged, kind_of, is_same_kind, is_same_atom_kind}
use Rattle.es_expr.specs.Misfits.{unless, each, item, judged, member, member_misfits, some_misfits, has_all, all_misfits, truth, uuid, moment, whole, first_env, trigger_env, is_in_order, class_misfits, class_member_misfits, class_part_misfits, created_misfits, event_misfits, command_misfits, command_part_misfits, guard_misfits, trigger_misfits, triggered_misfits, app_misfits, pipe_misfits, misfits}
use Rattle.es_expr.specs.declared.fault.ExprFault.TheVariants as fault
use Rattle.es_expr.specs.declared.misfit.Misfit.{Misfit}

-- ---- no fault in a whole is none in its parts

pub nil-left : (xs ys : List Misfit) → xs ++ ys ≡ [] → xs ≡ []
nil-left [] ys none = refl
nil-left (x ∷ xs) ys none = cc

pub nil-right : (xs ys : List Misfit) → xs ++ ys ≡ [] → ys ≡ []
nil-right [] ys none = none
nil-right (x ∷ xs) ys none = cc

pub unless-true : (b : Bool) (code : Code) (path : List ℕ) → unless b code path ≡ [] → IsTrue b
unless-true true code path none = refl
unless-true false code path none = cc

-- ---- expressions

same-atom : (a b : AtomKind) → IsTrue (is_same_atom_kind a b) → a ≡ b
same-atom atom_kind.Bool atom_kind.Bool h = refl
same-atom atom_kind.Int atom_kind.Int h = refl
same-atom atom_kind.Text atom_kind.Text h = refl
same-atom atom_kind.Uuid atom_kind.Uuid h = refl
same-atom atom_kind.Moment atom_kind.Moment h = refl
same-atom atom_kind.Decimal atom_kind.Decimal h = refl
same-atom a b h = cc

pub same-kind : (a b : Kind) → IsTrue (is_same_kind a b) → a ≡ b
same-kind (kind.One a) (kind.One b) h = ap kind.One (same-atom a b h)
same-kind (kind.List a) (kind.List b) h = ap kind.List (same-atom a b h)
same-kind (kind.One a) (kind.List b) h = cc
same-kind (kind.List a) (kind.One b) h = cc

-- an expression without a fault is of the wanted kind
pub judged-nil : (wanted : Kind) (path : List ℕ) (j : Judged) → judged wanted path j ≡ [] → j ≡ Ok wanted
judged-nil wanted path (Ok k) none = ap Ok (sym (same-kind wanted k (unless-true (is_same_kind wanted k) _ path none)))
judged-nil wanted path (Err (fault.Unknown p)) none = cc
judged-nil wanted path (Err (fault.Kind p)) none = cc
judged-nil wanted path (Err fault.NoMemory) none = cc

-- each expression is under a wanted name, and of the name's kind
abbrev pub AreOfKinds : List (Name × Kind) → List (Name × Kind) → List (Name × Expr) → Type 0
AreOfKinds wanted env xs = (name : Name) (e : Expr) → item_of xs name ≡ Some e → (k : Kind) × (item_of wanted name ≡ Some k) × (kind_of e env ≡ Ok k)

member-nil : (path : List ℕ) (o : Option Kind) (j : Judged) → member_misfits path o j ≡ [] → (k : Kind) × (o ≡ Some k) × (j ≡ Ok k)
member-nil path None j none = cc
member-nil path (Some k) j none = (k, refl, judged-nil k path j none)

some-step : (b : Bool) (wanted env : List (Name × Kind)) (path : List ℕ) (x : Name × Expr) (xs : List (Name × Expr)) (name : Name) (e : Expr) → bytes_eq x.0 name ≡ b
    → member_misfits (member path x.0) (item_of wanted x.0) (kind_of x.1 env) ≡ []
    → (item_of xs name ≡ Some e → (k : Kind) × (item_of wanted name ≡ Some k) × (kind_of e env ≡ Ok k))
    → item_of (x ∷ xs) name ≡ Some e → (k : Kind) × (item_of wanted name ≡ Some k) × (kind_of e env ≡ Ok k)
some-step true wanted env path x xs name e same none rest is =
    let m = member-nil (member path x.0) (item_of wanted x.0) (kind_of x.1 env) none in
    let here : x.1 ≡ e = let i = rw same at is in cc in
    (m.0, subst (λ n. item_of wanted n ≡ Some m.0) ((bytes_eq-Decides x.0 name).0 same) m.1, subst (λ f. kind_of f env ≡ Ok m.0) here m.2)
some-step false wanted env path x xs name e same none rest is = rest (rw same at is)

pub some-nil : (wanted env : List (Name × Kind)) (path : List ℕ) (xs : List (Name × Expr)) → some_misfits wanted env path xs ≡ [] → AreOfKinds wanted env xs
some-nil wanted env path [] none = λ name e is. cc
some-nil wanted env path (x ∷ xs) none = λ name e is.
    some-step (bytes_eq x.0 name) wanted env path x xs name e refl
    (nil-left (member_misfits (member path x.0) (item_of wanted x.0) (kind_of x.1 env)) (some_misfits wanted env path xs) none)
    (some-nil wanted env path xs (nil-right (member_misfits (member path x.0) (item_of wanted x.0) (kind_of x.1 env)) (some_misfits wanted env path xs) none) name e) is

-- all of the wanted members are there, and each is of its kind
pub record AreAllOfKinds (wanted env : List (Name × Kind)) (xs : List (Name × Expr)) : Type 0 where
  pub all : IsTrue (has_all wanted xs)
  pub kinds : AreOfKinds wanted env xs

pub all-nil : (wanted env : List (Name × Kind)) (path : List ℕ) (xs : List (Name × Expr)) → all_misfits wanted env path xs ≡ [] → AreAllOfKinds wanted env xs
all-nil wanted env path xs none = record {
  all = unless-true (has_all wanted xs) _ path (nil-left (unless (has_all wanted xs) code.Fields path) (some_misfits wanted env path xs) none);
  kinds = some-nil wanted env path xs (nil-right (unless (has_all wanted xs) code.Fields path) (some_misfits wanted env path xs) none);
}

-- ---- an item that is found

found-step : {A : Type 0} (b : Bool) (p : A → Bool) (faults : ℕ → A → List Misfit) (from : ℕ) (y : A) (xs : List A) (x : A) → p y ≡ b → faults from y ≡ []
    → (find p xs ≡ Some x → (place : ℕ) × (faults place x ≡ [])) → find p (y ∷ xs) ≡ Some x → (place : ℕ) × (faults place x ≡ [])
found-step true p faults from y xs x here none rest is =
    let same : y ≡ x = let i = rw here at is in cc in (from, subst (λ z. faults from z ≡ []) same none)
found-step false p faults from y xs x here none rest is = rest (rw here at is)

pub found-nil : {A : Type 0} (p : A → Bool) (faults : ℕ → A → List Misfit) (from : ℕ) (xs : List A) (x : A) → each faults from xs ≡ [] → find p xs ≡ Some x → (place : ℕ) × (faults place x ≡ [])
found-nil p faults from [] x none is = cc
found-nil p faults from (y ∷ xs) x none is =
    found-step (p y) p faults from y xs x refl (nil-left (faults from y) (each faults (suc from) xs) none)
    (found-nil p faults (suc from) xs x (nil-right (faults from y) (each faults (suc from) xs) none)) is

-- ---- classes

-- the members of a declared class have no fault
pub class-fits : (s : System) (name : Name) (c : Class) → misfits s ≡ [] → class_named s.classes name ≡ Some c → (path : List ℕ) × (class_member_misfits path c ≡ [])
class-fits s name c none is =
    let classes : List Misfit = each (class_misfits s (codes "/classes")) 0 s.classes in
    let apps : List Misfit = each (app_misfits s (codes "/apps")) 0 s.apps in
    let pipes : List Misfit = each (pipe_misfits s (codes "/pipes")) 0 s.pipes in
    let found = found-nil (λ (d : Class). bytes_eq d.name name) (class_misfits s (codes "/classes")) 0 s.classes c (nil-left classes apps (nil-left (classes ++ apps) pipes none)) is in
    (item (codes "/classes") found.0, nil-right _ (class_member_misfits (item (codes "/classes") found.0) c) found.1)

-- a Created event assigns each of the class's fields a value of its kind
pub created-fits : (path : List ℕ) (c : Class) → class_member_misfits path c ≡ [] → AreAllOfKinds c.fields (created_env c.created.fields uuid moment) c.created.assigns
created-fits path c none =
    all-nil c.fields (created_env c.created.fields uuid moment) ((path ++ codes "/created") ++ codes "/set") c.created.assigns
    (nil-left (created_misfits c (path ++ codes "/created")) (class_part_misfits path c) none)

-- a later event assigns some of the class's fields values of their kinds
pub later-fits : (path : List ℕ) (c : Class) (topic : Name) (e : EventClass) → class_member_misfits path c ≡ [] → find (λ f. bytes_eq f.topic topic) c.events ≡ Some e
    → AreOfKinds c.fields (assign_env e.fields uuid moment c.fields whole) e.assigns
later-fits path c topic e none is =
    let events : List Misfit = each (event_misfits c (path ++ codes "/events")) 0 c.events in
    let commands : List Misfit = each (command_misfits c (path ++ codes "/commands")) 0 c.commands in
    let parts = nil-right (created_misfits c (path ++ codes "/created")) (class_part_misfits path c) none in
    let found = found-nil (λ (f : EventClass). bytes_eq f.topic topic) (event_misfits c (path ++ codes "/events")) 0 c.events e (nil-left events commands parts) is in
    some-nil c.fields (assign_env e.fields uuid moment c.fields whole) (item (path ++ codes "/events") found.0 ++ codes "/set") e.assigns
    (nil-right _ (some_misfits c.fields (assign_env e.fields uuid moment c.fields whole) (item (path ++ codes "/events") found.0 ++ codes "/set") e.assigns) found.1)

-- ---- commands

-- the parts of a class's command have no fault
pub command-fits : (path : List ℕ) (c : Class) (name : Name) (d : CommandDef) → class_member_misfits path c ≡ [] → command_in c name ≡ Some d → (at : List ℕ) × (command_part_misfits c at d ≡ [])
command-fits path c name d none is =
    let events : List Misfit = each (event_misfits c (path ++ codes "/events")) 0 c.events in
    let commands : List Misfit = each (command_misfits c (path ++ codes "/commands")) 0 c.commands in
    let parts = nil-right (created_misfits c (path ++ codes "/created")) (class_part_misfits path c) none in
    let found = found-nil (λ (e : CommandDef). bytes_eq e.name name) (command_misfits c (path ++ codes "/commands")) 0 c.commands d (nil-right events commands parts) is in
    (item (path ++ codes "/commands") found.0, nil-right _ (command_part_misfits c (item (path ++ codes "/commands") found.0) d) found.1)

-- each guard is a truth value over what it sees
abbrev pub AreTests : List (Name × Kind) → List Guard → Type 0
AreTests env [] = Unit {0}
AreTests env (g ∷ gs) = (kind_of g.that env ≡ Ok truth) × AreTests env gs

tests-nil : (env : List (Name × Kind)) (path : List ℕ) (place : ℕ) (gs : List Guard) → each (guard_misfits env path) place gs ≡ [] → AreTests env gs
tests-nil env path place [] none = tt
tests-nil env path place (g ∷ gs) none = (
  judged-nil truth (item path place ++ codes "/that") (kind_of g.that env) (nil-left (guard_misfits env path place g) (each (guard_misfits env path) (suc place) gs) none),
  tests-nil env path (suc place) gs (nil-right (guard_misfits env path place g) (each (guard_misfits env path) (suc place) gs) none),
)

pub guards-fit : (c : Class) (path : List ℕ) (d : CommandDef) → command_part_misfits c path d ≡ [] → AreTests (first_env c d) d.guards
guards-fit c path d none = tests-nil (first_env c d) (path ++ codes "/require") 0 d.guards (nil-left _ _ none)

-- a trigger's event is declared and may come in its place, and the trigger gives all of its fields
pub record IsTrigger (c : Class) (d : CommandDef) (place : ℕ) (t : Trigger) : Type 0 where
  pub event : EventClass
  pub declared : event_in c (topic_of c.name t.event) ≡ Some event
  pub in_order : IsTrue (is_in_order c place (topic_of c.name t.event))
  pub fields : AreAllOfKinds event.fields (trigger_env c d place) t.fields

abbrev pub AreTriggers : Class → CommandDef → ℕ → List Trigger → Type 0
AreTriggers c d place [] = Unit {0}
AreTriggers c d place (t ∷ ts) = IsTrigger c d place t × AreTriggers c d (suc place) ts

trigger-nil : (c : Class) (d : CommandDef) (path : List ℕ) (place : ℕ) (t : Trigger) (o : Option EventClass) → event_in c (topic_of c.name t.event) ≡ o
    → triggered_misfits (trigger_env c d place) (is_in_order c place (topic_of c.name t.event)) path t o ≡ [] → IsTrigger c d place t
trigger-nil c d path place t None is none = cc
trigger-nil c d path place t (Some e) is none =
    let order : List Misfit = unless (is_in_order c place (topic_of c.name t.event)) code.Order (path ++ codes "/event") in
    let given : List Misfit = all_misfits e.fields (trigger_env c d place) (path ++ codes "/fields") t.fields in
    record {
      event = e;
      declared = is;
      in_order = unless-true (is_in_order c place (topic_of c.name t.event)) code.Order (path ++ codes "/event") (nil-left order given none);
      fields = all-nil e.fields (trigger_env c d place) (path ++ codes "/fields") t.fields (nil-right order given none);
    }

triggers-nil : (c : Class) (d : CommandDef) (path : List ℕ) (place : ℕ) (ts : List Trigger) → each (trigger_misfits c d path) place ts ≡ [] → AreTriggers c d place ts
triggers-nil c d path place [] none = tt
triggers-nil c d path place (t ∷ ts) none = (
  trigger-nil c d (item path place) place t (event_in c (topic_of c.name t.event)) refl
      (nil-left (trigger_misfits c d path place t) (each (trigger_misfits c d path) (suc place) ts) none),
  triggers-nil c d path (suc place) ts (nil-right (trigger_misfits c d path place t) (each (trigger_misfits c d path) (suc place) ts) none),
)

pub triggers-fit : (c : Class) (path : List ℕ) (d : CommandDef) → command_part_misfits c path d ≡ [] → AreTriggers c d 0 d.triggers
triggers-fit c path d none = triggers-nil c d (path ++ codes "/trigger") 0 d.triggers (nil-right _ _ none)
