-- What a checked system says of the rules of an application on a notification.
use Rattle.std.proofs.Common.{◌≡◌, ◌≤◌, length, nat_le, ◌&&◌, IsTrue, true, List, [], ◌∷◌, Option, None, Some, is_some, codes, refl, sym, ap, subst, ◌∙◌, arith}
use Rattle.std.proofs.lemmas.Bool.Decides.{nat_tests}
use Rattle.std.proofs.lemmas.Slice.Eq.{bytes_eq-Decides}
use Rattle.std.specs.List.{list_all}
use Rattle.std.specs.Str.{bytes_eq}
use Rattle.es_model.specs.Declaration.{app_named, class_named, command_in, event_named}
use Rattle.es_model.specs.Values.{Name, Record, are_of_kinds, fits}
use Rattle.es_model.specs.declared.declaration.App.{App}
use Rattle.es_model.specs.declared.declaration.Class.{Class}
use Rattle.es_model.specs.declared.declaration.CommandDef.{CommandDef}
use Rattle.es_model.specs.declared.declaration.EventClass.{EventClass}
use Rattle.es_model.specs.declared.declaration.Rule.{Rule}
use Rattle.es_model.specs.declared.declaration.System.{System}
use Rattle.es_model.specs.declared.expr.Expr.{Expr}
use Rattle.es_model.specs.declared.value.Atom.TheVariants as atom
use Rattle.es_model.specs.declared.value.Kind.{Kind}
use Rattle.es_model.specs.declared.value.Value.{Value}
use Rattle.es_model.specs.declared.value.Value.TheVariants as value
use Rattle.es_expr.proofs.RulesLemmas.{IsTestWhere, IsRule, AreRules, rules-fit}
use Rattle.es_expr.proofs.TopicLemmas.{passed}
use Rattle.es_expr.specs.Checked.{IsCheckedSystem}
use Rattle.es_expr.specs.Environments.{created_env, rule_env}
use Rattle.es_model.specs.Names.{is_between, is_lower_name, has_lower_form, has_name_length}
use Rattle.es_expr.specs.Limits.{is_app_within, are_apps_within, are_pipes_within, are_rules_within, is_absent_or_between, is_class_within, is_rule_within}
use Rattle.es_expr.specs.Misfits.{on_env, text, uuid, moment, whole}
use Rattle.es_expr.specs.Sound.{Fits}
use Rattle.es_domain.specs.inner.Asking.{CanBeTested, MayBeAsked, AllMayBeAsked, definition_in}
use Rattle.es_domain.specs.Decision.{Notice, IsNotice, IsOfCommand, shown}
use Rattle.es_domain.specs.Effect.{command_named, declared_in, with_def}
use Rattle.es_domain.specs.Fold.{id_value, moment_value, version_value}
use Rattle.es_domain.specs.Steps.{IsOfTopic}
use Rattle.es_domain.proofs.KindsLemmas.{both, fits-env, all_named_checked}
use Rattle.es_domain.proofs.Projections.{env-created, found-passes}
use Rattle.es_domain.proofs.ValuesLemmas.{of-kinds-append, one-of-kind}

-- ---- a declared application

apps-within : (sys : System) → IsCheckedSystem sys → list_all is_app_within sys.apps ≡ true
apps-within sys checked =
    let classes = list_all is_class_within sys.classes in
    (both (is_between 1 16 (length sys.apps)) (list_all is_app_within sys.apps)
    (both classes (are_apps_within sys.apps)
    (both (classes && are_apps_within sys.apps) (are_pipes_within sys.pipes) checked.within).0).1).1

-- the name and the number of rules of an application
record AppWithin (a : App) : Type 0 where
  pub name : is_lower_name a.name ≡ true
  pub few : nat_le (length a.policies) 64 ≡ true

app-within : (sys : System) (name : Name) (a : App) → IsCheckedSystem sys → app_named sys.apps name ≡ Some a → AppWithin a × (a.name ≡ name)
app-within sys name a checked is =
    let within = passed (λ (b : App). bytes_eq b.name name) is_app_within sys.apps a (apps-within sys checked) is in
    let classes = is_lower_name a.name && nat_le (length a.classes) 64 in
    let rules = both (classes && are_rules_within a.policies) (is_absent_or_between 1 1000 a.section_size) within in
    let names = both classes (are_rules_within a.policies) rules.0 in (
      record {
        name = (both (is_lower_name a.name) (nat_le (length a.classes) 64) names.0).0;
        few = (both (nat_le (length a.policies) 64) (list_all is_rule_within a.policies) names.1).0;
      },
      (bytes_eq-Decides a.name name).0 (found-passes (λ (b : App). bytes_eq b.name name) sys.apps a is),
    )

pub few_rules : (sys : System) (name : Name) (a : App) → IsCheckedSystem sys → app_named sys.apps name ≡ Some a → length a.policies ≤ 64
few_rules sys name a checked is = let h = (app-within sys name a checked is).0.few in grind (arith, nat_tests)

short : (name : Name) → is_lower_name name ≡ true → fits (value.One (atom.Text name)) text ≡ true
short name is =
    let long = (both (has_name_length name) (has_lower_form name) is).0 in
    let h = (both (nat_le 1 (length name)) (nat_le (length name) 40) long).1 in
    grind (arith, nat_tests)

some-app : (sys : System) (name : Name) (o : Option App) → app_named sys.apps name ≡ o → IsTrue (is_some o) → (a : App) × (app_named sys.apps name ≡ Some a)
some-app sys name None is there = absurd (cc there)
some-app sys name (Some a) is there = (a, is)

leader-fits : (sys : System) (name : Name) → IsCheckedSystem sys → IsTrue (is_some (app_named sys.apps name)) → fits (value.One (atom.Text name)) text ≡ true
leader-fits sys name checked there =
    let a = some-app sys name (app_named sys.apps name) refl there in
    let w = app-within sys name a.0 checked a.1 in
    short name (subst (λ n. is_lower_name n ≡ true) w.1 w.0.name)

-- ---- what a rule sees

env-rule : (xs : Record) (ks : List (Name × Kind)) (id at leader position version : Value) → IsTrue (are_of_kinds xs ks) → fits id uuid ≡ true → fits at moment ≡ true → fits leader text ≡ true → fits position whole ≡ true → fits version whole ≡ true
    → IsTrue (are_of_kinds (rule_env xs id at leader position version) (rule_env ks uuid moment text whole whole))
env-rule xs ks id at leader position version are id_fits at_fits leader_fits position_fits version_fits =
    of-kinds-append (created_env xs id at) ((codes "leader", leader) ∷ (codes "position", position) ∷ (codes "version", version) ∷ [])
    (created_env ks uuid moment) ((codes "leader", text) ∷ (codes "position", whole) ∷ (codes "version", whole) ∷ [])
    (env-created xs ks id at are id_fits at_fits)
    (of-kinds-append ((codes "leader", leader) ∷ []) ((codes "position", position) ∷ (codes "version", version) ∷ []) ((codes "leader", text) ∷ []) ((codes "position", whole) ∷ (codes "version", whole) ∷ [])
    (one-of-kind (codes "leader") (codes "leader") leader text refl leader_fits)
    (of-kinds-append ((codes "position", position) ∷ []) ((codes "version", version) ∷ []) ((codes "position", whole) ∷ []) ((codes "version", whole) ∷ [])
    (one-of-kind (codes "position") (codes "position") position whole refl position_fits) (one-of-kind (codes "version") (codes "version") version whole refl version_fits)))

shown-fits : (sys : System) (n : Notice) (event : EventClass) → IsCheckedSystem sys → IsNotice sys n → IsTrue (are_of_kinds n.event.fields event.fields) → Fits (shown n) (on_env event)
shown-fits sys n event checked notice are =
    fits-env (shown n) (on_env event)
    (env-rule n.event.fields event.fields (id_value n.event.originator_id) (moment_value n.event.timestamp) (value.One (atom.Text n.leader)) (version_value n.id) (version_value n.event.originator_version)
    are refl refl (leader-fits sys n.leader checked notice.leader) refl refl)

can-be-tested : (kinds : List (Name × Kind)) (o : Option Expr) (env : Record) → Fits env kinds → IsTestWhere kinds o → CanBeTested o env
can-be-tested kinds None env fits is = tt
can-be-tested kinds (Some e) env fits is = record { kinds = kinds; fits = fits; checks = is }

event-fields : (sys : System) (topic : Name) (k : Class) (event : EventClass) (fields : Record) → event_named sys.classes topic ≡ Some (k, event) → IsOfTopic (event_named sys.classes topic) fields → IsTrue (are_of_kinds fields event.fields)
event-fields sys topic k event fields is of = subst (λ (o : Option (Class × EventClass)). IsOfTopic o fields) is of

may-be-asked : (sys : System) (a : App) (n : Notice) (r : Rule) → IsCheckedSystem sys → IsNotice sys n → IsRule sys a r → MayBeAsked sys n r
may-be-asked sys a n r checked notice rule same =
    let are = event-fields sys n.event.topic rule.class rule.event n.event.fields (ap (event_named sys.classes) (sym same) ∙ rule.event_declared) notice.fields in
    let fits = shown-fits sys n rule.event checked notice are in
    record {
      when = can-be-tested (on_env rule.event) r.when (shown n) fits rule.test;
      target = record { kinds = on_env rule.event; fits = fits; checks = rule.target };
      class = rule.runs.class;
      class_declared = rule.runs.class_declared;
      definition = rule.command;
      command_declared = rule.runs.command_declared;
      args = λ params names. all_named_checked rule.command.params (on_env rule.event) r.args (shown n) fits params names rule.args;
    }

all-may : (sys : System) (a : App) (n : Notice) (rules : List Rule) → IsCheckedSystem sys → IsNotice sys n → AreRules sys a rules → AllMayBeAsked sys n rules
all-may sys a n [] checked notice are = tt
all-may sys a n (r ∷ rules) checked notice (one, more) = (may-be-asked sys a n r checked notice one, all-may sys a n rules checked notice more)

-- the rules of a declared application may be asked
pub all_may_be_asked : (sys : System) (name : Name) (a : App) (n : Notice) → IsCheckedSystem sys → app_named sys.apps name ≡ Some a → IsNotice sys n → AllMayBeAsked sys n a.policies
all_may_be_asked sys name a n checked is notice = all-may sys a n a.policies checked notice (rules-fit sys name a checked is)

-- ---- a command by its class and its name

pub definition_is : (sys : System) (class name : Name) (k : Class) (d : CommandDef) → class_named sys.classes class ≡ Some k → command_in k name ≡ Some d → definition_in (class_named sys.classes class) name ≡ Some d
definition_is sys class name k d is declared = ap (λ (o : Option Class). definition_in o name) is ∙ declared

pub of_command : (sys : System) (class name : Name) (k : Class) (d : CommandDef) (args : Record) → class_named sys.classes class ≡ Some k → command_in k name ≡ Some d → IsTrue (are_of_kinds args d.params)
    → IsOfCommand (command_named sys class name) args
of_command sys class name k d args is declared are =
    let named : command_named sys class name ≡ Some (k, d) = ap (λ (o : Option Class). declared_in o name) is ∙ ap (with_def k) declared in
    subst (λ (o : Option (Class × CommandDef)). IsOfCommand o args) (sym named) are

pub same_definition : (sys : System) (class name own_class own_name : Name) (k : Class) (d e : CommandDef) → class ≡ own_class → name ≡ own_name → definition_in (class_named sys.classes class) name ≡ Some e
    → class_named sys.classes own_class ≡ Some k → command_in k own_name ≡ Some d → e ≡ d
same_definition sys class name own_class own_name k d e class_is name_is found is declared =
    let known : definition_in (class_named sys.classes class) name ≡ Some d =
    ap (λ (n : Name). definition_in (class_named sys.classes n) name) class_is ∙ ap (definition_in (class_named sys.classes own_class)) name_is ∙ definition_is sys own_class own_name k d is declared in
    cc (sym found ∙ known)
