-- What a line asks of a system.
use Rattle.std.specs.Prelude.{ℕ, ◌≡◌, IsTrue, nat_le, Bool, true, false, ◌&&◌, List, [], ◌∷◌, codes, if◌then◌else◌, Option, None, Some, is_some, option_map, Result, Ok, Err}
use Rattle.uuid.specs.Text.{parsed}
use Rattle.serde_json.specs.Data.{Data, boolean, number, string, object, Members, no_members, member}
use Rattle.serde_json.specs.Find.{get, as_u64}
use Rattle.es_model.specs.Declaration.{app_named}
use Rattle.es_model.specs.Names.{halves, is_one_of}
use Rattle.es_model.specs.Values.{Name, Id, Record, are_of_kinds}
use Rattle.es_model.specs.declared.declaration.App.{App}
use Rattle.es_model.specs.declared.declaration.Class.{Class}
use Rattle.es_model.specs.declared.declaration.CommandDef.{CommandDef}
use Rattle.es_model.specs.declared.declaration.System.{System}
use Rattle.es_model.specs.declared.limits.TheConstants.{MOST_EXPECTED}
use Rattle.es_transcode.specs.Decoded.{tree_in, record_in}
use Rattle.es_expr.specs.Misfits.{leads}
use Rattle.es_domain.specs.Decision.{IsOfCommand}
use Rattle.es_domain.specs.Effect.{command_named}
use Rattle.es_domain.specs.declared.command.Command.{Command}
use Rattle.es_lines.specs.declared.fault.LineFault.{LineFault}
use Rattle.es_lines.specs.declared.fault.LineFault.TheVariants.{Syntax, Unknown, Kind, NoMemory}
use Rattle.es_lines.specs.declared.request.Request.{Request}
use Rattle.es_lines.specs.declared.request.Request.TheVariants.{Do, Get, Log, Tracking, Snapshot, Sync, Stop}

-- what a line asks, or nothing, for this reason
pub data Asked : Type 0 where
  asks : Request → Asked
  refused : LineFault → Asked

-- ---- the parts of a line

-- something, and then another that needs it
abbrev pub and_then : {A B : Type 0} → Option A → (A → Option B) → Option B
and_then None next = None
and_then (Some x) next = next x

abbrev pub are_members : List Name → Members → Bool
are_members names no_members = true
are_members names (member n d ms) = is_one_of names n && are_members names ms

-- an object, with no member but these
abbrev pub has_only : List Name → Data → Bool
has_only names (object ms) = are_members names ms
has_only names d = false

abbrev pub text_in : Data → Option (List ℕ)
text_in (string s) = Some s
text_in d = None

-- a version that may be expected
abbrev pub is_expectable : ℕ → Bool
is_expectable n = nat_le n MOST_EXPECTED

-- a version that an aggregate may have
abbrev pub is_version : ℕ → Bool
is_version n = nat_le 1 n && is_expectable n

abbrev pub number_if : (ℕ → Bool) → Option ℕ → Option ℕ
number_if holds None = None
number_if holds (Some n) = if holds n then Some n else None

abbrev pub number_in : (ℕ → Bool) → Data → Option ℕ
number_in holds (number n) = number_if holds (as_u64 n)
number_in holds d = None

-- the number of a member that may be absent, or that it is absent
abbrev pub optional : (ℕ → Bool) → Option Data → Option (Option ℕ)
optional holds None = Some None
optional holds (Some d) = option_map Some (number_in holds d)

abbrev pub text_of : Name → Data → Option (List ℕ)
text_of name d = and_then (get name d) text_in

abbrev pub names : Data → Option (Name × Name)
names d = and_then (text_of (codes "do") d) halves

abbrev pub id_of : Name → Data → Option Id
id_of name d = and_then (text_of name d) parsed

abbrev pub args : Data → Option Record
args d = and_then (get (codes "args") d) record_in

-- the class and the name of a command, and the id that it is for
abbrev pub target : Data → Option ((Name × Name) × Id)
target d = and_then (names d) (λ n. and_then (id_of (codes "id") d) (λ i. Some (n, i)))

abbrev pub command : Data → Option Command
command d =
    and_then (target d) (λ t.
    and_then (args d) (λ a.
    and_then (optional is_expectable (get (codes "expect") d)) (λ v.
    Some (record { class = t.0.0; name = t.0.1; id = t.1; args = a; expect = v }))))

-- the aggregate that is asked for, and at which version
abbrev pub aggregate : Data → Option (Id × Option ℕ)
aggregate d = and_then (id_of (codes "get") d) (λ i. and_then (optional is_version (get (codes "version") d)) (λ v. Some (i, v)))

-- the application, and another text
abbrev pub app_and : Name → Data → Option (Name × List ℕ)
app_and name d = and_then (text_of (codes "app") d) (λ app. and_then (text_of name d) (λ t. Some (app, t)))

abbrev pub is_true : Option Data → Bool
is_true (Some (boolean truth)) = truth
is_true o = false

-- ---- the forms of lines

-- a line has no member but these
abbrev pub of_members : List Name → Data → Option Request → Option Request
of_members names d r = if has_only names d then r else None

abbrev pub do_line : Data → Option Request
do_line d =
    of_members (codes "app" ∷ codes "args" ∷ codes "do" ∷ codes "expect" ∷ codes "id" ∷ []) d
    (and_then (text_of (codes "app") d) (λ app. and_then (command d) (λ c. Some (Do app c))))

abbrev pub get_line : Data → Option Request
get_line d =
    of_members (codes "app" ∷ codes "get" ∷ codes "version" ∷ []) d
    (and_then (text_of (codes "app") d) (λ app. and_then (aggregate d) (λ a. Some (Get app a.0 a.1))))

abbrev pub log_line : Data → Option Request
log_line d = of_members (codes "app" ∷ codes "log" ∷ []) d (and_then (app_and (codes "log") d) (λ p. Some (Log p.0 p.1)))

abbrev pub tracking_line : Data → Option Request
tracking_line d = of_members (codes "app" ∷ codes "tracking" ∷ []) d (and_then (app_and (codes "tracking") d) (λ p. Some (Tracking p.0 p.1)))

abbrev pub snapshot_line : Data → Option Request
snapshot_line d =
    of_members (codes "app" ∷ codes "snapshot" ∷ []) d
    (and_then (text_of (codes "app") d) (λ app. and_then (id_of (codes "snapshot") d) (λ i. Some (Snapshot app i))))

-- a request of one word, whose member is true
abbrev pub word_line : Name → Request → Data → Option Request
word_line word r d = of_members (word ∷ []) d (if is_true (get word d) then Some r else None)

abbrev pub has : Name → Data → Bool
has name d = is_some (get name d)

-- the form of a line is told by the member that no other form has
abbrev pub spelled : Data → Option Request
spelled d =
    if has (codes "do") d then do_line d else
    if has (codes "get") d then get_line d else
    if has (codes "log") d then log_line d else
    if has (codes "tracking") d then tracking_line d else
    if has (codes "snapshot") d then snapshot_line d else
    if has (codes "sync") d then word_line (codes "sync") Sync d else
    word_line (codes "stop") Stop d

-- the application of which something is asked
abbrev pub app_asked : Request → Option Name
app_asked (Do app c) = Some app
app_asked (Get app id version) = Some app
app_asked (Log app section) = Some app
app_asked (Tracking app leader) = Some app
app_asked (Snapshot app id) = Some app
app_asked Sync = None
app_asked Stop = None

-- ---- what a system declares of it

abbrev pub has_class : Option App → Name → Bool
has_class None class = false
has_class (Some a) class = is_one_of a.classes class

-- the command that is declared wants arguments of these kinds
abbrev pub of_definition : Option (Class × CommandDef) → Name → Command → Asked
of_definition None app c = refused Unknown
of_definition (Some p) app c = if are_of_kinds c.args p.1.params then asks (Do app c) else refused Kind

-- the application has the command's class, the class has the command, and its arguments fit
abbrev pub fitting : System → Name → Command → Asked
fitting sys app c =
    if has_class (app_named sys.apps app) c.class then of_definition (command_named sys c.class c.name) app c else refused Unknown

-- the application of a request is declared
abbrev pub of_app : System → Name → Request → Asked
of_app sys app r = if is_some (app_named sys.apps app) then asks r else refused Unknown

abbrev pub asked_of : System → Option Request → Asked
asked_of sys None = refused Syntax
asked_of sys (Some (Do app c)) = fitting sys app c
asked_of sys (Some (Get app id version)) = of_app sys app (Get app id version)
asked_of sys (Some (Log app section)) = of_app sys app (Log app section)
asked_of sys (Some (Tracking app leader)) = if leads sys leader app then of_app sys app (Tracking app leader) else refused Unknown
asked_of sys (Some (Snapshot app id)) = of_app sys app (Snapshot app id)
asked_of sys (Some Sync) = asks Sync
asked_of sys (Some Stop) = asks Stop

-- what a line asks of a system
abbrev pub request_in : System → List ℕ → Asked
request_in sys bytes = asked_of sys (and_then (tree_in bytes) spelled)

-- ---- what is answered

-- an answer is what a line asks, or want of memory
abbrev pub Answers : Asked → Result Request LineFault → Type 0
Answers asked (Ok r) = asked ≡ asks r
Answers asked (Err NoMemory) = Unit {0}
Answers asked (Err f) = asked ≡ refused f

-- an application has a command's class, which declares the command with such arguments
pub record IsDeclared (sys : System) (app : Name) (c : Command) : Type 0 where
  pub listed : IsTrue (has_class (app_named sys.apps app) c.class)
  pub declared : IsOfCommand (command_named sys c.class c.name) c.args

abbrev pub IsApp : System → Name → Type 0
IsApp sys app = IsTrue (is_some (app_named sys.apps app))

-- what a request names is declared
abbrev pub IsOfSystem : System → Request → Type 0
IsOfSystem sys (Do app c) = IsDeclared sys app c
IsOfSystem sys (Get app id version) = IsApp sys app
IsOfSystem sys (Log app section) = IsApp sys app
IsOfSystem sys (Tracking app leader) = IsApp sys app
IsOfSystem sys (Snapshot app id) = IsApp sys app
IsOfSystem sys Sync = Unit {0}
IsOfSystem sys Stop = Unit {0}
