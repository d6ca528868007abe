-- What holds of the rules of a system where all fits together.
use Rattle.std.proofs.Common.{◌≡◌, ℕ, suc, IsTrue, Bool, true, false, List, [], ◌∷◌, ◌++◌, Option, Some, None, Ok, codes, refl}
use Rattle.std.specs.List.{list_any, before_first, after_first}
use Rattle.std.specs.Str.{bytes_eq}
use Rattle.es_model.specs.Declaration.{app_named, class_named, command_in, event_named}
use Rattle.es_model.specs.Names.{is_dot}
use Rattle.es_model.specs.Values.{Name}
use Rattle.es_model.specs.declared.declaration.App.{App}
use Rattle.es_model.specs.declared.declaration.Class.{Class}
use Rattle.es_model.specs.declared.declaration.CommandDef.{CommandDef}
use Rattle.es_model.specs.declared.declaration.EventClass.{EventClass}
use Rattle.es_model.specs.declared.declaration.Rule.{Rule}
use Rattle.es_model.specs.declared.declaration.System.{System}
use Rattle.es_model.specs.declared.expr.Expr.{Expr}
use Rattle.es_model.specs.declared.value.Kind.{Kind}
use Rattle.es_expr.specs.Checked.{IsCheckedSystem}
use Rattle.es_expr.specs.Kinds.{kind_of}
use Rattle.es_expr.specs.Misfits.{each, item, truth, uuid, on_env, listed_command, command_of, rule_command, class_misfits, leader_misfits, when_misfits, target_misfits, do_misfits, condition_misfits, call_misfits, on_misfits, rule_misfits, listed_misfits, app_part_misfits, app_misfits, pipe_misfits}
use Rattle.es_expr.specs.declared.misfit.Misfit.{Misfit}
use Rattle.es_expr.proofs.CheckedLemmas.{nil-left, nil-right, judged-nil, AreAllOfKinds, all-nil, found-nil}

-- an expression that may be absent is a truth value
abbrev pub IsTestWhere : List (Name × Kind) → Option Expr → Type 0
IsTestWhere env None = Unit {0}
IsTestWhere env (Some e) = kind_of e env ≡ Ok truth

-- a command is declared in a class of some names
pub record IsCommand (s : System) (a : App) (text : Name) (d : CommandDef) : Type 0 where
  pub class : Class
  pub class_declared : class_named s.classes (before_first is_dot text) ≡ Some class
  pub class_listed : IsTrue (list_any (λ n. bytes_eq n class.name) a.classes)
  pub command_declared : command_in class (after_first is_dot text) ≡ Some d

-- a rule's topic and command are declared, and its expressions are of their kinds over what it sees
pub record IsRule (s : System) (a : App) (r : Rule) : Type 0 where
  pub class : Class
  pub event : EventClass
  pub event_declared : event_named s.classes r.topic ≡ Some (class, event)
  pub test : IsTestWhere (on_env event) r.when
  pub target : kind_of r.target (on_env event) ≡ Ok uuid
  pub command : CommandDef
  pub runs : IsCommand s a r.command command
  pub args : AreAllOfKinds command.params (on_env event) r.args

abbrev pub AreRules : System → App → List Rule → Type 0
AreRules s a [] = Unit {0}
AreRules s a (r ∷ rs) = IsRule s a r × AreRules s a rs

when-nil : (env : List (Name × Kind)) (path : List ℕ) (o : Option Expr) → when_misfits env path o ≡ [] → IsTestWhere env o
when-nil env path None none = tt
when-nil env path (Some e) none = judged-nil truth path (kind_of e env) none

listed-step : (s : System) (a : App) (text : Name) (c : Class) (d : CommandDef) (b : Bool) → class_named s.classes (before_first is_dot text) ≡ Some c
    → list_any (λ n. bytes_eq n c.name) a.classes ≡ b → listed_command c a.classes (after_first is_dot text) ≡ Some d → IsCommand s a text d
listed-step s a text c d true declared listed is = record { class = c; class_declared = declared; class_listed = listed; command_declared = rw listed at is }
listed-step s a text c d false declared listed is = let no = rw listed at is in cc

command-step : (s : System) (a : App) (text : Name) (o : Option Class) (d : CommandDef) → class_named s.classes (before_first is_dot text) ≡ o
    → command_of o a.classes (after_first is_dot text) ≡ Some d → IsCommand s a text d
command-step s a text None d declared is = cc
command-step s a text (Some c) d declared is = listed-step s a text c d (list_any (λ n. bytes_eq n c.name) a.classes) declared refl is

-- a rule's command is one of a class of the application's list
pub command-is : (s : System) (a : App) (text : Name) (d : CommandDef) → rule_command s a text ≡ Some d → IsCommand s a text d
command-is s a text d is = command-step s a text (class_named s.classes (before_first is_dot text)) d refl is

-- what a rule runs
record Runs (s : System) (a : App) (env : List (Name × Kind)) (r : Rule) : Type 0 where
  command : CommandDef
  runs : IsCommand s a r.command command
  args : AreAllOfKinds command.params env r.args

do-nil : (s : System) (a : App) (env : List (Name × Kind)) (path : List ℕ) (r : Rule) (o : Option CommandDef) → rule_command s a r.command ≡ o → do_misfits env path r o ≡ [] → Runs s a env r
do-nil s a env path r None is none = cc
do-nil s a env path r (Some d) is none = record { command = d; runs = command-is s a r.command d is; args = all-nil d.params env (path ++ codes "/args") r.args none }

rule-nil : (s : System) (a : App) (path : List ℕ) (r : Rule) (o : Option (Class × EventClass)) → event_named s.classes r.topic ≡ o → on_misfits s a path r o ≡ [] → IsRule s a r
rule-nil s a path r None is none = cc
rule-nil s a path r (Some on) is none =
    let env : List (Name × Kind) = on_env on.1 in
    let conditions : List Misfit = condition_misfits s a env path r in
    let calls : List Misfit = call_misfits s a env path r in
    let leaders : List Misfit = leader_misfits s a (path ++ codes "/leader") r.leader in
    let whens : List Misfit = when_misfits env (path ++ codes "/when") r.when in
    let targets : List Misfit = target_misfits env path r.target in
    let does : List Misfit = do_misfits env path r (rule_command s a r.command) in
    let no_condition = nil-left conditions calls none in
    let no_call = nil-right conditions calls none in
    let run = do-nil s a env path r (rule_command s a r.command) refl (nil-right targets does no_call) in
    record {
      class = on.0;
      event = on.1;
      event_declared = is;
      test = when-nil env (path ++ codes "/when") r.when (nil-right leaders whens no_condition);
      target = judged-nil uuid (path ++ codes "/target") (kind_of r.target env) (nil-left targets does no_call);
      command = run.command;
      runs = run.runs;
      args = run.args;
    }

rules-nil : (s : System) (a : App) (path : List ℕ) (place : ℕ) (rs : List Rule) → each (rule_misfits s a path) place rs ≡ [] → AreRules s a rs
rules-nil s a path place [] none = tt
rules-nil s a path place (r ∷ rs) none = (
  rule-nil s a (item path place) r (event_named s.classes r.topic) refl (nil-left (rule_misfits s a path place r) (each (rule_misfits s a path) (suc place) rs) none),
  rules-nil s a path (suc place) rs (nil-right (rule_misfits s a path place r) (each (rule_misfits s a path) (suc place) rs) none),
)

-- each rule of a declared application
pub rules-fit : (s : System) (name : Name) (a : App) → IsCheckedSystem s → app_named s.apps name ≡ Some a → AreRules s a a.policies
rules-fit s name a checked is =
    let classes : List Misfit = each (class_misfits s (codes "/classes")) 0 s.classes in
    let apps : List Misfit = each (app_misfits s (codes "/apps")) 0 s.apps in
    let pipes : List Misfit = each (pipe_misfits s (codes "/pipes")) 0 s.pipes in
    let found = found-nil (λ (b : App). bytes_eq b.name name) (app_misfits s (codes "/apps")) 0 s.apps a (nil-right classes apps (nil-left (classes ++ apps) pipes checked.fits_together)) is in
    let path : List ℕ = item (codes "/apps") found.0 in
    let parts = nil-right _ (app_part_misfits s path a) found.1 in
    rules-nil s a (path ++ codes "/policy") 0 a.policies
    (nil-right (each (listed_misfits s a (path ++ codes "/classes")) 0 a.classes) (each (rule_misfits s a (path ++ codes "/policy")) 0 a.policies) parts)
