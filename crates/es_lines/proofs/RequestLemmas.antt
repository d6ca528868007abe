-- Laws of what is asked: it is declared, and what is declared is asked.
use Rattle.std.proofs.Common.{◌≡◌, ◌∙◌, ℕ, suc, nat_le, ◌&&◌, Bool, true, false, IsTrue, cond, List, [], ◌∷◌, map, length, find, Option, Some, None, is_some, Result, Err, if◌then◌else◌, refl, sym, ap, subst, arith}
use Rattle.std.proofs.lemmas.Slice.Eq.{bytes_eq-Decides}
use Rattle.std.specs.List.{Contains, list_all}
use Rattle.std.specs.Str.{bytes_eq}
use Rattle.serde_json.specs.Data.{Data}
use Rattle.es_model.specs.Declaration.{app_named, class_named, command_in}
use Rattle.es_model.specs.Names.{is_upper_name, is_field_name, is_lower_name}
use Rattle.es_model.specs.Values.{Name, Record, are_of_kinds}
use Rattle.es_model.specs.declared.declaration.App.{App}
use Rattle.es_model.specs.declared.declaration.Class.{Class}
use Rattle.es_model.specs.declared.declaration.CommandDef.{CommandDef}
use Rattle.es_model.specs.declared.declaration.System.{System}
use Rattle.es_expr.specs.Checked.{IsCheckedSystem}
use Rattle.es_expr.specs.Misfits.{leads}
use Rattle.es_expr.specs.Limits.{are_numbers_within, are_kinds_within, is_event_within, are_events_within, is_class_within, are_commands_within, is_command_within, are_guards_within, are_triggers_within}
use Rattle.es_expr.proofs.TopicLemmas.{passed, class-within}
use Rattle.es_domain.specs.Decision.{IsOfCommand}
use Rattle.es_domain.specs.Effect.{command_named, declared_in, with_def}
use Rattle.es_domain.specs.declared.command.Command.{Command}
use Rattle.es_transcode.specs.Decoded.{record_in}
use Rattle.es_transcode.specs.Decoding.{Decodes, IsRecordFault}
use Rattle.es_transcode.specs.RecordText.{IsRecordTree}
use Rattle.es_transcode.specs.declared.fault.DecodeFault.{DecodeFault}
use Rattle.es_transcode.specs.declared.fault.DecodeFault.TheVariants as decode
use Rattle.es_transcode.proofs.DecodedLemmas.{no-record}
use Rattle.es_lines.specs.Requests.{Asked, asks, refused, has_class, of_definition, fitting, of_app, asked_of, request_in, IsDeclared, IsApp, IsOfSystem}
use Rattle.es_lines.specs.inner.Parts.{fault_of, Reads, Tests}
use Rattle.es_lines.specs.declared.fault.LineFault.{LineFault}
use Rattle.es_lines.specs.declared.fault.LineFault.TheVariants as fault
use Rattle.es_lines.specs.declared.request.Request.{Request}
use Rattle.es_lines.specs.declared.request.Request.TheVariants as request

-- ---- what is asked is declared

abbrev request_or : Request → Asked → Request
request_or r (asks q) = q
request_or r (refused f) = r

-- what is asked where a test is true
asked-if : (b : Bool) (q : Asked) (f : LineFault) (r : Request) → (if b then q else refused f) ≡ asks r → (b ≡ true) × (q ≡ asks r)
asked-if true q f r is = (refl, is)
asked-if false q f r is = absurd (cc is)

defined-asks : (o : Option (Class × CommandDef)) (app : Name) (c : Command) (r : Request) → of_definition o app c ≡ asks r → IsOfCommand o c.args × (request.Do app c ≡ r)
defined-asks None app c r is = absurd (cc is)
defined-asks (Some p) app c r is =
    let h = asked-if (are_of_kinds c.args p.1.params) (asks (request.Do app c)) fault.Kind r is in
    (h.0, ap (request_or r) h.1)

fitting-asks : (sys : System) (app : Name) (c : Command) (r : Request) → fitting sys app c ≡ asks r → IsDeclared sys app c × (request.Do app c ≡ r)
fitting-asks sys app c r is =
    let listed = asked-if (has_class (app_named sys.apps app) c.class) (of_definition (command_named sys c.class c.name) app c) fault.Unknown r is in
    let h = defined-asks (command_named sys c.class c.name) app c r listed.1 in
    let declared : IsDeclared sys app c = record { listed = listed.0; declared = h.0 } in
    (declared, h.1)

app-asks : (sys : System) (app : Name) (q r : Request) → of_app sys app q ≡ asks r → IsApp sys app × (q ≡ r)
app-asks sys app q r is = let h = asked-if (is_some (app_named sys.apps app)) (asks q) fault.Unknown r is in (h.0, ap (request_or q) h.1)

pub asked-one : (sys : System) (q r : Request) → asked_of sys (Some q) ≡ asks r → IsOfSystem sys q × (q ≡ r)
asked-one sys (request.Do app c) r is = fitting-asks sys app c r is
asked-one sys (request.Get app id version) r is = app-asks sys app (request.Get app id version) r is
asked-one sys (request.Log app section) r is = app-asks sys app (request.Log app section) r is
asked-one sys (request.Tracking app leader) r is =
    app-asks sys app (request.Tracking app leader) r (asked-if (leads sys leader app) (of_app sys app (request.Tracking app leader)) fault.Unknown r is).1
asked-one sys (request.Snapshot app id) r is = app-asks sys app (request.Snapshot app id) r is
asked-one sys request.Sync r is = (tt, ap (request_or r) is)
asked-one sys request.Stop r is = (tt, ap (request_or r) is)

pub asked-of : (sys : System) (o : Option Request) (r : Request) → asked_of sys o ≡ asks r → IsOfSystem sys r × (o ≡ Some r)
asked-of sys None r is = absurd (cc is)
asked-of sys (Some q) r is = let h = asked-one sys q r is in (subst (IsOfSystem sys) h.1 h.0, ap (λ s. Some s) h.1)

-- what a line asks is of the system
pub of-system : (sys : System) (line : List ℕ) (r : Request) → request_in sys line ≡ asks r → IsOfSystem sys r
of-system sys line r is = (asked-of sys _ r is).0

-- a command that is asked is one of the application
pub declared : (sys : System) (line : List ℕ) (app : Name) (c : Command) → request_in sys line ≡ asks (request.Do app c) → IsDeclared sys app c
declared sys line app c is = of-system sys line (request.Do app c) is

-- ---- and what is declared is asked

defined : (o : Option (Class × CommandDef)) (app : Name) (c : Command) → IsOfCommand o c.args → of_definition o app c ≡ asks (request.Do app c)
defined None app c is = absurd is
defined (Some p) app c is = rw is refl

pub asks-fitting : (sys : System) (app : Name) (c : Command) → IsDeclared sys app c → fitting sys app c ≡ asks (request.Do app c)
asks-fitting sys app c d =
    ap (λ b. if b then of_definition (command_named sys c.class c.name) app c else refused fault.Unknown) d.listed
    ∙ defined (command_named sys c.class c.name) app c d.declared

-- ---- an application that is asked is declared

here : {A : Type 0} (x : A) (xs : List A) → Contains (x ∷ xs) x
here x xs = (0, omega arith, refl)

there : {A : Type 0} (x y : A) (xs : List A) → Contains xs x → Contains (y ∷ xs) x
there x y xs h = (suc h.0, omega (arith, h.1), h.2)

named-step : (b : Bool) (a : App) (apps : List App) (name : Name) → bytes_eq a.name name ≡ b → IsTrue (is_some (cond b (Some a) (app_named apps name)))
    → (IsTrue (is_some (app_named apps name)) → Contains (map (λ (x : App). x.name) apps) name) → Contains (map (λ (x : App). x.name) (a ∷ apps)) name
named-step true a apps name same has rest = subst (λ n. Contains (n ∷ map (λ (x : App). x.name) apps) name) (sym ((bytes_eq-Decides a.name name).0 same)) (here name _)
named-step false a apps name same has rest = there name a.name _ (rest has)

name-of : (apps : List App) (name : Name) → IsTrue (is_some (app_named apps name)) → Contains (map (λ (a : App). a.name) apps) name
name-of [] name has = absurd (cc has)
name-of (a ∷ apps) name has = named-step (bytes_eq a.name name) a apps name refl has (name-of apps name)

-- the name of an application is among the names of all
pub named-app : (sys : System) (app : Name) → IsApp sys app → Contains (map (λ (a : App). a.name) sys.apps) app
named-app sys app is = name-of sys.apps app is

with-class-there : (o : Option App) (class : Name) → IsTrue (has_class o class) → IsTrue (is_some o)
with-class-there None class has = absurd (cc has)
with-class-there (Some a) class has = refl

pub named : (sys : System) (line : List ℕ) (app : Name) (c : Command) → request_in sys line ≡ asks (request.Do app c) → Contains (map (λ (a : App). a.name) sys.apps) app
named sys line app c is = named-app sys app (with-class-there (app_named sys.apps app) c.class (declared sys line app c is).listed)

-- ---- the names of a declared command

first-of-six : (u n k e s c : Bool) → IsTrue (u && n && k && e && s && c) → IsTrue u
first-of-six true n k e s c h = refl
first-of-six false n k e s c h = absurd (cc h)

first-of-four : (u k g t : Bool) → IsTrue (u && k && g && t) → IsTrue u
first-of-four true k g t h = refl
first-of-four false k g t h = absurd (cc h)

and-right : (a b : Bool) → IsTrue (a && b) → IsTrue b
and-right true b h = h
and-right false b h = absurd (cc h)

found-step : {A : Type 0} (b : Bool) (p : A → Bool) (y : A) (xs : List A) (x : A) → p y ≡ b → (find p xs ≡ Some x → IsTrue (p x)) → cond b (Some y) (find p xs) ≡ Some x → IsTrue (p x)
found-step true p y xs x here rest is = let same : y ≡ x = cc is in subst (λ z. IsTrue (p z)) same here
found-step false p y xs x here rest is = rest is

found : {A : Type 0} (p : A → Bool) (xs : List A) (x : A) → find p xs ≡ Some x → IsTrue (p x)
found p [] x is = absurd (cc is)
found p (y ∷ xs) x is = found-step (p y) p y xs x refl (found p xs x) is

class-name : (sys : System) (name : Name) (k : Class) → IsCheckedSystem sys → class_named sys.classes name ≡ Some k → IsTrue (is_upper_name name)
class-name sys name k checked is =
    let same : k.name ≡ name = (bytes_eq-Decides k.name name).0 (found (λ (d : Class). bytes_eq d.name name) sys.classes k is) in
    let within = class-within sys name k checked is in
    subst (λ n. IsTrue (is_upper_name n)) same (first-of-six (is_upper_name k.name) (are_numbers_within k) (are_kinds_within is_field_name k.fields) (is_event_within k.name k.created) (are_events_within k.name k.events) (are_commands_within k.commands) within)

command-within : (k : Class) → IsTrue (is_class_within k) → IsTrue (are_commands_within k.commands)
command-within k within = and-right (is_upper_name k.name && are_numbers_within k && are_kinds_within is_field_name k.fields && is_event_within k.name k.created && are_events_within k.name k.events) (are_commands_within k.commands) within

command-name : (k : Class) (name : Name) (d : CommandDef) → IsTrue (is_class_within k) → command_in k name ≡ Some d → IsTrue (is_upper_name name)
command-name k name d within is =
    let same : d.name ≡ name = (bytes_eq-Decides d.name name).0 (found (λ (e : CommandDef). bytes_eq e.name name) k.commands d is) in
    let all = and-right (nat_le (length k.commands) 32) (list_all is_command_within k.commands) (command-within k within) in
    let fits = passed (λ (e : CommandDef). bytes_eq e.name name) is_command_within k.commands d all is in
    subst (λ n. IsTrue (is_upper_name n)) same (first-of-four (is_upper_name d.name) (are_kinds_within is_lower_name d.params) (are_guards_within d.guards) (are_triggers_within d.triggers) fits)

with-command : (sys : System) (k : Class) (o : Option CommandDef) (class name : Name) (args : Record) → IsCheckedSystem sys → class_named sys.classes class ≡ Some k → command_in k name ≡ o
    → IsOfCommand (with_def k o) args → IsTrue (is_upper_name class) × IsTrue (is_upper_name name)
with-command sys k None class name args checked is command of = absurd of
with-command sys k (Some d) class name args checked is command of =
    (class-name sys class k checked is, command-name k name d (class-within sys class k checked is) command)

with-class : (sys : System) (o : Option Class) (class name : Name) (args : Record) → IsCheckedSystem sys → class_named sys.classes class ≡ o
    → IsOfCommand (declared_in o name) args → IsTrue (is_upper_name class) × IsTrue (is_upper_name name)
with-class sys None class name args checked is of = absurd of
with-class sys (Some k) class name args checked is of = with-command sys k (command_in k name) class name args checked is refl of

-- in a checked system the names of a declared command are upper-case ones
pub upper-names : (sys : System) (app : Name) (c : Command) → IsCheckedSystem sys → IsDeclared sys app c → IsTrue (is_upper_name c.class) × IsTrue (is_upper_name c.name)
upper-names sys app c checked declared = with-class sys (class_named sys.classes c.class) c.class c.name c.args checked refl declared.declared

-- ---- what the code answers

-- an application that has the class answers by the command's definition
pub tests-listed : (sys : System) (app : Name) (c : Command) (r : Result (Unit {0}) LineFault) → has_class (app_named sys.apps app) c.class ≡ true
    → Tests (of_definition (command_named sys c.class c.name) app c) (request.Do app c) r → Tests (fitting sys app c) (request.Do app c) r
tests-listed sys app c r listed tests =
    subst (λ q. Tests q (request.Do app c) r) (ap (λ b. if b then of_definition (command_named sys c.class c.name) app c else refused fault.Unknown) (sym listed)) tests

-- so does one that is led
pub tests-led : (sys : System) (app leader : Name) (r : Result (Unit {0}) LineFault) → leads sys leader app ≡ true → Tests (of_app sys app (request.Tracking app leader)) (request.Tracking app leader) r → Tests (asked_of sys (Some (request.Tracking app leader))) (request.Tracking app leader) r
tests-led sys app leader r led tests =
    subst (λ q. Tests q (request.Tracking app leader) r) (ap (λ b. if b then of_app sys app (request.Tracking app leader) else refused fault.Unknown) (sym led)) tests

record-fault : (d : Data) (f : DecodeFault) → Decodes (λ (r : Record). IsRecordTree r d) (IsRecordFault d) (Err f) → Reads (record_in d) (Err (fault_of f))
record-fault d decode.NotJson faults = no-record d decode.NotJson faults
record-fault d decode.NotRecord faults = no-record d decode.NotRecord faults
record-fault d decode.Number faults = no-record d decode.Number faults
record-fault d decode.Shape faults = no-record d decode.Shape faults
record-fault d decode.UnknownType faults = no-record d decode.UnknownType faults
record-fault d decode.BadData faults = no-record d decode.BadData faults
record-fault d decode.Deep faults = no-record d decode.Deep faults
record-fault d decode.NoMemory faults = tt

pub record-refused : (d : Data) (r : Result Record DecodeFault) (f : DecodeFault) → Decodes (λ (r : Record). IsRecordTree r d) (IsRecordFault d) r → r ≡ Err f → Reads (record_in d) (Err (fault_of f))
record-refused d r f decodes is = record-fault d f (subst (Decodes (λ (r : Record). IsRecordTree r d) (IsRecordFault d)) is decodes)
