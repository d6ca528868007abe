-- A system that a document declares is checked.
use Rattle.std.proofs.Common.{◌≡◌, ℕ, Bool, true, false, ◌&&◌, List, [], ◌∷◌, length, codes, Option, Some, Result, Ok, Err, IfOk, refl, subst, if◌then◌else◌}
use Rattle.std.proofs.Common.{None as Absent}
use Rattle.std.specs.Prelude.{nat_le, nat_lt}
use Rattle.std.specs.List.{list_all}
use Rattle.serde_json.specs.Data.{Data}
use Rattle.es_model.proofs.HistoryLemmas.{both_true}
use Rattle.es_model.specs.Names.{is_between, is_lower_name, is_upper_name, is_field_name, is_code_name}
use Rattle.es_model.specs.Values.{Name}
use Rattle.es_model.specs.declared.expr.Expr.{Expr}
use Rattle.es_model.specs.declared.declaration.App.{App}
use Rattle.es_model.specs.declared.declaration.Class.{Class}
use Rattle.es_model.specs.declared.declaration.Code.{Code}
use Rattle.es_model.specs.declared.declaration.Code.TheVariants as code
use Rattle.es_model.specs.declared.declaration.CommandDef.{CommandDef}
use Rattle.es_model.specs.declared.declaration.Guard.{Guard}
use Rattle.es_model.specs.declared.declaration.Otherwise.TheVariants.{Refuse}
use Rattle.es_model.specs.declared.declaration.Rule.{Rule}
use Rattle.es_model.specs.declared.declaration.System.{System}
use Rattle.es_model.specs.declared.declaration.Trigger.{Trigger}
use Rattle.es_model.specs.declared.limits.TheConstants.{MOST_GUARDS, MOST_TRIGGERS, MOST_CLASS_VERSION, MOST_INTERVAL, MOST_EVENTS, MOST_COMMANDS, MOST_CLASSES, MOST_RULES, MOST_SECTION, MOST_APPS, MOST_PIPES, LEAST_MEMBERS, MOST_MEMBERS, MOST_DOCUMENT_BYTES}
use Rattle.es_model.specs.declared.names.NameForm.TheVariants as form
use Rattle.es_transcode.specs.Decoded.{tree_in}
use Rattle.es_expr.specs.Checked.{IsCheckedSystem}
use Rattle.es_expr.specs.Finds.{first}
use Rattle.es_expr.specs.Limits.{is_absent_or_between, is_absent_or_within, is_expr_within, are_kinds_within, are_assigns_within, is_event_within, are_events_within, is_guard_within, are_guards_within, is_trigger_within, are_triggers_within, is_command_within, are_commands_within, are_numbers_within, is_class_within, is_rule_within, are_rules_within, is_app_within, are_apps_within, is_pipe_within, are_pipes_within, is_within as is_system_within}
use Rattle.es_expr.specs.Misfits.{misfits}
use Rattle.es_expr.specs.declared.misfit.Misfit.{Misfit}
use Rattle.es_decl.specs.declared.fault.DeclFault.{DeclFault}
use Rattle.es_decl.specs.declared.objects.Object.TheVariants as the
use Rattle.es_decl.specs.Declaration.{kinds, assigns, event, guard, trigger, command, class, condition, call, rule, app, document, told, fitting, of_tree, of_bytes, declared}
use Rattle.es_decl.specs.Expressions.{expression}
use Rattle.es_decl.specs.Objects.{shape_test}
use Rattle.es_decl.specs.Parts.{member, optional, or_else, name, whole, is_within, several}
use Rattle.es_decl.specs.Readings.{Reading, Reads, here}
use Rattle.es_decl.specs.Words.{topic, otherwise}
use Rattle.es_decl.proofs.KeptLemmas.{Keeps, both, ok-same, then-ok, member-ok, optional-ok, name-ok, whole-ok, several-ok}
use Rattle.es_decl.proofs.SystemLemmas.{weaker, few-ok, kinds-ok, assigns-ok, lists-ok, event-ok}
use Rattle.es_decl.proofs.WeightLemmas.{expression-ok}

guard-ok : Keeps guard is_guard_within
guard-ok d x h =
    let s = then-ok (shape_test the.Guard d) _ x h in
    let t = then-ok (member (codes "that") expression d) _ x s.2 in
    let c = then-ok (member (codes "code") (name form.Code) d) _ x t.2 in
    let made : Guard = record { that = t.0; code = c.0 } in
    let same : made ≡ x = ok-same made x c.2 in
    subst (λ y. is_guard_within y ≡ true) same
    (both (is_expr_within t.0) (is_code_name c.0) (member-ok (codes "that") expression is_expr_within expression-ok d t.0 t.1) (member-ok (codes "code") (name form.Code) is_code_name (name-ok form.Code) d c.0 c.1))

trigger-ok : Keeps trigger is_trigger_within
trigger-ok d x h =
    let s = then-ok (shape_test the.Trigger d) _ x h in
    let e = then-ok (member (codes "event") (name form.Class) d) _ x s.2 in
    let f = then-ok (member (codes "fields") (assigns form.Field) d) _ x e.2 in
    let made : Trigger = record { event = e.0; fields = f.0 } in
    let same : made ≡ x = ok-same made x f.2 in
    subst (λ y. is_trigger_within y ≡ true) same (member-ok (codes "fields") (assigns form.Field) are_assigns_within (assigns-ok form.Field) d f.0 f.1)

triggers-ok : Keeps (several 1 (Some MOST_TRIGGERS) trigger) are_triggers_within
triggers-ok = several-ok 1 (Some MOST_TRIGGERS) trigger is_trigger_within trigger-ok

command-ok : Keeps command is_command_within
command-ok d x h =
    let s = then-ok (shape_test the.Command d) _ x h in
    let n = then-ok (member (codes "name") (name form.Class) d) _ x s.2 in
    let p = then-ok (member (codes "params") (kinds form.Plain) d) _ x n.2 in
    let g = then-ok (optional (codes "require") (several 0 (Some MOST_GUARDS) guard) d) _ x p.2 in
    let t = then-ok (member (codes "trigger") (several 1 (Some MOST_TRIGGERS) trigger) d) _ x g.2 in
    let made : CommandDef = record { name = n.0; params = p.0; guards = or_else [] g.0; triggers = t.0 } in
    let same : made ≡ x = ok-same made x t.2 in
    subst (λ y. is_command_within y ≡ true) same
    (both (is_upper_name n.0 && are_kinds_within is_lower_name p.0 && are_guards_within made.guards) (are_triggers_within t.0)
    (both (is_upper_name n.0 && are_kinds_within is_lower_name p.0) (are_guards_within made.guards)
    (both (is_upper_name n.0) (are_kinds_within is_lower_name p.0)
    (member-ok (codes "name") (name form.Class) is_upper_name (name-ok form.Class) d n.0 n.1)
    (member-ok (codes "params") (kinds form.Plain) (are_kinds_within is_lower_name) (kinds-ok form.Plain) d p.0 p.1))
    (lists-ok (codes "require") (several 0 (Some MOST_GUARDS) guard) are_guards_within (few-ok MOST_GUARDS guard is_guard_within guard-ok) refl d g.0 g.1))
    (member-ok (codes "trigger") (several 1 (Some MOST_TRIGGERS) trigger) are_triggers_within triggers-ok d t.0 t.1))

class-ok : Keeps class is_class_within
class-ok d x h =
    let s = then-ok (shape_test the.Class d) _ x h in
    let n = then-ok (member (codes "name") (name form.Class) d) _ x s.2 in
    let v = then-ok (optional (codes "version") (whole 1 MOST_CLASS_VERSION) d) _ x n.2 in
    let i = then-ok (optional (codes "interval") (whole 1 MOST_INTERVAL) d) _ x v.2 in
    let f = then-ok (member (codes "fields") (kinds form.Field) d) _ x i.2 in
    let c = then-ok (member (codes "created") (event n.0) d) _ x f.2 in
    let e = then-ok (optional (codes "events") (several 0 (Some MOST_EVENTS) (event n.0)) d) _ x c.2 in
    let m = then-ok (optional (codes "commands") (several 0 (Some MOST_COMMANDS) command) d) _ x e.2 in
    let made : Class = record { name = n.0; version = or_else 1 v.0; interval = i.0; fields = f.0; created = c.0; events = or_else [] e.0; commands = or_else [] m.0 } in
    let same : made ≡ x = ok-same made x m.2 in
    let named : is_upper_name n.0 ≡ true = member-ok (codes "name") (name form.Class) is_upper_name (name-ok form.Class) d n.0 n.1 in
    let version : is_between 1 MOST_CLASS_VERSION made.version ≡ true = optional-ok (codes "version") (whole 1 MOST_CLASS_VERSION) (is_between 1 MOST_CLASS_VERSION) (λ y. is_between 1 MOST_CLASS_VERSION (or_else 1 y)) (whole-ok 1 MOST_CLASS_VERSION) refl (λ k is. is) d v.0 v.1 in
    let interval : is_absent_or_between 1 MOST_INTERVAL i.0 ≡ true = optional-ok (codes "interval") (whole 1 MOST_INTERVAL) (is_between 1 MOST_INTERVAL) (is_absent_or_between 1 MOST_INTERVAL) (whole-ok 1 MOST_INTERVAL) refl (λ k is. is) d i.0 i.1 in
    let fields : are_kinds_within is_field_name f.0 ≡ true = member-ok (codes "fields") (kinds form.Field) (are_kinds_within is_field_name) (kinds-ok form.Field) d f.0 f.1 in
    let created : is_event_within n.0 c.0 ≡ true = member-ok (codes "created") (event n.0) (is_event_within n.0) (event-ok n.0 named) d c.0 c.1 in
    let events : are_events_within n.0 made.events ≡ true = lists-ok (codes "events") (several 0 (Some MOST_EVENTS) (event n.0)) (are_events_within n.0) (few-ok MOST_EVENTS (event n.0) (is_event_within n.0) (event-ok n.0 named)) refl d e.0 e.1 in
    let commands : are_commands_within made.commands ≡ true = lists-ok (codes "commands") (several 0 (Some MOST_COMMANDS) command) are_commands_within (few-ok MOST_COMMANDS command is_command_within command-ok) refl d m.0 m.1 in
    subst (λ y. is_class_within y ≡ true) same
    (both (is_upper_name n.0 && are_numbers_within made && are_kinds_within is_field_name f.0 && is_event_within n.0 c.0 && are_events_within n.0 made.events) (are_commands_within made.commands)
    (both (is_upper_name n.0 && are_numbers_within made && are_kinds_within is_field_name f.0 && is_event_within n.0 c.0) (are_events_within n.0 made.events)
    (both (is_upper_name n.0 && are_numbers_within made && are_kinds_within is_field_name f.0) (is_event_within n.0 c.0)
    (both (is_upper_name n.0 && are_numbers_within made) (are_kinds_within is_field_name f.0)
    (both (is_upper_name n.0) (are_numbers_within made) named (both (is_between 1 MOST_CLASS_VERSION made.version) (is_absent_or_between 1 MOST_INTERVAL i.0) version interval))
    fields)
    created)
    events)
    commands)

when-ok : (d : Data) (c : Name × Option Name × Option Expr) → condition d ≡ Ok c → is_absent_or_within c.2 ≡ true
when-ok d c h =
    let o = then-ok (member (codes "on") topic d) _ c h in
    let l = then-ok (optional (codes "leader") (name form.Plain) d) _ c o.2 in
    let w = then-ok (optional (codes "when") expression d) _ c l.2 in
    let made : Name × Option Name × Option Expr = (o.0, l.0, w.0) in
    let same : made ≡ c = ok-same made c w.2 in
    subst (λ (y : Name × Option Name × Option Expr). is_absent_or_within y.2 ≡ true) same
    (optional-ok (codes "when") expression is_expr_within is_absent_or_within expression-ok refl (λ e is. is) d w.0 w.1)

call-ok : (d : Data) (c : Expr × Name × List (Name × Expr)) → call d ≡ Ok c → (is_expr_within c.0 ≡ true) × (are_assigns_within c.2 ≡ true)
call-ok d c h =
    let t = then-ok (member (codes "target") expression d) _ c h in
    let n = then-ok (member (codes "do") topic d) _ c t.2 in
    let a = then-ok (member (codes "args") (assigns form.Plain) d) _ c n.2 in
    let made : Expr × Name × List (Name × Expr) = (t.0, n.0, a.0) in
    let same : made ≡ c = ok-same made c a.2 in
    subst (λ (y : Expr × Name × List (Name × Expr)). (is_expr_within y.0 ≡ true) × (are_assigns_within y.2 ≡ true)) same
    (member-ok (codes "target") expression is_expr_within expression-ok d t.0 t.1, member-ok (codes "args") (assigns form.Plain) are_assigns_within (assigns-ok form.Plain) d a.0 a.1)

rule-ok : Keeps rule is_rule_within
rule-ok d x h =
    let s = then-ok (shape_test the.Rule d) _ x h in
    let c = then-ok (condition d) _ x s.2 in
    let r = then-ok (call d) _ x c.2 in
    let o = then-ok (optional (codes "otherwise") otherwise d) _ x r.2 in
    let made : Rule = record { topic = c.0.0; leader = c.0.1; when = c.0.2; target = r.0.0; command = r.0.1; args = r.0.2; otherwise = or_else Refuse o.0 } in
    let same : made ≡ x = ok-same made x o.2 in
    subst (λ y. is_rule_within y ≡ true) same
    (both (is_absent_or_within made.when && is_expr_within made.target) (are_assigns_within made.args)
    (both (is_absent_or_within made.when) (is_expr_within made.target) (when-ok d c.0 c.1) (call-ok d r.0 r.1).0) (call-ok d r.0 r.1).1)

few-names : (xs : List Name) → (nat_le (length xs) MOST_CLASSES && list_all is_upper_name xs) ≡ true → nat_le (length xs) MOST_CLASSES ≡ true
few-names xs h = (both_true (nat_le (length xs) MOST_CLASSES) (list_all is_upper_name xs) h).0

app-ok : Keeps app is_app_within
app-ok d x h =
    let s = then-ok (shape_test the.App d) _ x h in
    let n = then-ok (member (codes "name") (name form.Plain) d) _ x s.2 in
    let c = then-ok (member (codes "classes") (several 0 (Some MOST_CLASSES) (name form.Class)) d) _ x n.2 in
    let p = then-ok (optional (codes "policy") (several 0 (Some MOST_RULES) rule) d) _ x c.2 in
    let z = then-ok (optional (codes "section") (whole 1 MOST_SECTION) d) _ x p.2 in
    let made : App = record { name = n.0; classes = c.0; policies = or_else [] p.0; section_size = z.0 } in
    let same : made ≡ x = ok-same made x z.2 in
    let named : is_lower_name n.0 ≡ true = member-ok (codes "name") (name form.Plain) is_lower_name (name-ok form.Plain) d n.0 n.1 in
    let classes : nat_le (length c.0) MOST_CLASSES ≡ true = few-names c.0 (member-ok (codes "classes") (several 0 (Some MOST_CLASSES) (name form.Class)) (λ xs. nat_le (length xs) MOST_CLASSES && list_all is_upper_name xs) (few-ok MOST_CLASSES (name form.Class) is_upper_name (name-ok form.Class)) d c.0 c.1) in
    let rules : are_rules_within made.policies ≡ true = lists-ok (codes "policy") (several 0 (Some MOST_RULES) rule) are_rules_within (few-ok MOST_RULES rule is_rule_within rule-ok) refl d p.0 p.1 in
    let section : is_absent_or_between 1 MOST_SECTION z.0 ≡ true = optional-ok (codes "section") (whole 1 MOST_SECTION) (is_between 1 MOST_SECTION) (is_absent_or_between 1 MOST_SECTION) (whole-ok 1 MOST_SECTION) refl (λ k is. is) d z.0 z.1 in
    subst (λ y. is_app_within y ≡ true) same
    (both (is_lower_name n.0 && nat_le (length c.0) MOST_CLASSES && are_rules_within made.policies) (is_absent_or_between 1 MOST_SECTION z.0)
    (both (is_lower_name n.0 && nat_le (length c.0) MOST_CLASSES) (are_rules_within made.policies) (both (is_lower_name n.0) (nat_le (length c.0) MOST_CLASSES) named classes) rules) section)

apps-ok : Keeps (several 1 (Some MOST_APPS) app) are_apps_within
apps-ok = several-ok 1 (Some MOST_APPS) app is_app_within app-ok

pipe-ok : Keeps (several LEAST_MEMBERS (Some MOST_MEMBERS) (name form.Plain)) is_pipe_within
pipe-ok = weaker (several LEAST_MEMBERS (Some MOST_MEMBERS) (name form.Plain)) (λ xs. is_within LEAST_MEMBERS (Some MOST_MEMBERS) (length xs) && list_all is_lower_name xs) is_pipe_within
    (λ xs h. (both_true (is_within LEAST_MEMBERS (Some MOST_MEMBERS) (length xs)) (list_all is_lower_name xs) h).0) (several-ok LEAST_MEMBERS (Some MOST_MEMBERS) (name form.Plain) is_lower_name (name-ok form.Plain))

classes-ok : Keeps (several 0 Absent class) (λ xs. list_all is_class_within xs)
classes-ok = weaker (several 0 Absent class) (λ xs. is_within 0 Absent (length xs) && list_all is_class_within xs) (λ xs. list_all is_class_within xs)
    (λ xs h. (both_true (is_within 0 Absent (length xs)) (list_all is_class_within xs) h).1) (several-ok 0 Absent class is_class_within class-ok)

document-ok : Keeps document is_system_within
document-ok d x h =
    let s = then-ok (shape_test the.Document d) _ x h in
    let c = then-ok (member (codes "classes") (several 0 Absent class) d) _ x s.2 in
    let a = then-ok (member (codes "apps") (several 1 (Some MOST_APPS) app) d) _ x c.2 in
    let p = then-ok (member (codes "pipes") (several 0 (Some MOST_PIPES) (several LEAST_MEMBERS (Some MOST_MEMBERS) (name form.Plain))) d) _ x a.2 in
    let made : System = record { apps = a.0; classes = c.0; pipes = p.0 } in
    let same : made ≡ x = ok-same made x p.2 in
    subst (λ y. is_system_within y ≡ true) same
    (both (list_all is_class_within c.0 && are_apps_within a.0) (are_pipes_within p.0)
    (both (list_all is_class_within c.0) (are_apps_within a.0)
    (member-ok (codes "classes") (several 0 Absent class) (λ xs. list_all is_class_within xs) classes-ok d c.0 c.1)
    (member-ok (codes "apps") (several 1 (Some MOST_APPS) app) are_apps_within apps-ok d a.0 a.1))
    (member-ok (codes "pipes") (several 0 (Some MOST_PIPES) (several LEAST_MEMBERS (Some MOST_MEMBERS) (name form.Plain))) are_pipes_within (few-ok MOST_PIPES (several LEAST_MEMBERS (Some MOST_MEMBERS) (name form.Plain)) is_pipe_within pipe-ok) d p.0 p.1))

told-ok : (x s : System) (ms : List Misfit) → told x (first ms) ≡ Ok s → (ms ≡ []) × (x ≡ s)
told-ok x s [] h = (refl, cc)
told-ok x s (m ∷ ms) h = cc

tree-ok : (o : Option Data) (s : System) → of_tree o ≡ Ok s → IsCheckedSystem s
tree-ok Absent s h = cc
tree-ok (Some d) s h =
    let a = then-ok (document d) fitting s h in
    let t = told-ok a.0 s (misfits a.0) a.2 in
    subst IsCheckedSystem t.1 (record { within = document-ok d a.0 a.1; fits_together = t.0 })

else-ok : {A : Type 0} (b : Bool) (c : Code) (r : Reading A) (x : A) → (if b then here c else r) ≡ Ok x → r ≡ Ok x
else-ok true c r x h = cc
else-ok false c r x h = h

-- an answer to a document is a checked system, or a fault
pub declared-checked : (bytes : List ℕ) (r : Result System DeclFault) → Reads (declared bytes) r → IfOk r IsCheckedSystem
declared-checked bytes (Ok s) h = tree-ok (tree_in bytes) s (else-ok (nat_lt MOST_DOCUMENT_BYTES (length bytes)) code.Long (of_bytes bytes) s h)
declared-checked bytes (Err e) h = tt
