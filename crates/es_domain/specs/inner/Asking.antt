-- When a rule may be evaluated, and what its parts answer.
use Rattle.std.specs.Prelude.{◌≡◌, Bool, List, [], ◌∷◌, Option, None, Some, Result, Ok, Err}
use Rattle.std.specs.List.{before_first, after_first}
use Rattle.es_model.specs.Declaration.{class_named, command_in}
use Rattle.es_model.specs.Rising.{IsRising}
use Rattle.es_model.specs.Values.{Name, Record, Id}
use Rattle.es_model.specs.declared.declaration.Class.{Class}
use Rattle.es_model.specs.declared.declaration.CommandDef.{CommandDef}
use Rattle.es_model.specs.declared.declaration.Rule.{Rule}
use Rattle.es_model.specs.declared.declaration.System.{System}
use Rattle.es_model.specs.declared.expr.Expr.{Expr}
use Rattle.es_model.specs.declared.value.Atom.TheVariants as atom
use Rattle.es_model.specs.declared.value.AtomKind.TheVariants as atom_kind
use Rattle.es_model.specs.declared.value.Kind.TheVariants as kind
use Rattle.es_model.specs.declared.value.Value.TheVariants as value
use Rattle.es_model.specs.Names.{is_dot}
use Rattle.es_expr.specs.Outcome.{Outcome, is, over}
use Rattle.es_expr.specs.Sound.{IsTest, IsCheckedAs}
use Rattle.es_domain.specs.Decision.{Notice, shown, command_for, IsOfCommand}
use Rattle.es_domain.specs.Effect.{command_named}
use Rattle.es_domain.specs.inner.Evaluation.{AreChecked}
use Rattle.es_domain.specs.declared.aggregate.TriggerFault.{TriggerFault}
use Rattle.es_domain.specs.declared.aggregate.TriggerFault.TheVariants.{Overflow, NoMemory}
use Rattle.es_domain.specs.declared.command.Command.{Command}
use Rattle.es_domain.specs.declared.policy.Asked.{Asked}
use Rattle.es_domain.specs.declared.policy.Asked.TheVariants.{Nothing, Overflows, Asks}

-- a condition that is there is a truth value
abbrev pub CanBeTested : Option Expr → Record → Type 0
CanBeTested None env = Unit {0}
CanBeTested (Some e) env = IsTest e env

-- a rule's condition and target are of their kinds, its command is declared, and it gives all of the command's arguments
pub record CanBeAsked (sys : System) (r : Rule) (env : Record) : Type 0 where
  pub when : CanBeTested r.when env
  pub target : IsCheckedAs (kind.One atom_kind.Uuid) r.target env
  pub class : Class
  pub class_declared : class_named sys.classes (before_first is_dot r.command) ≡ Some class
  pub definition : CommandDef
  pub command_declared : command_in class (after_first is_dot r.command) ≡ Some definition
  pub args : IsRising definition.params → IsRising r.args → AreChecked definition.params r.args env

-- the same where the rule is for the notification's topic
abbrev pub MayBeAsked : System → Notice → Rule → Type 0
MayBeAsked sys n r = r.topic ≡ n.event.topic → CanBeAsked sys r (shown n)

abbrev pub AllMayBeAsked : System → Notice → List Rule → Type 0
AllMayBeAsked sys n [] = Unit {0}
AllMayBeAsked sys n (r ∷ rules) = MayBeAsked sys n r × AllMayBeAsked sys n rules

-- what is asked is a declared command with its arguments, where it is one
abbrev pub IsAsked : System → Asked → Type 0
IsAsked sys Nothing = Unit {0}
IsAsked sys Overflows = Unit {0}
IsAsked sys (Asks c) = IsOfCommand (command_named sys c.class c.name) c.args

-- a truth value, or that a limit is passed, or that there was no memory
abbrev pub HoldsAs : Outcome → Result Bool TriggerFault → Type 0
HoldsAs m (Ok b) = m ≡ is (value.One (atom.Bool b))
HoldsAs m (Err Overflow) = m ≡ over
HoldsAs m (Err NoMemory) = Unit {0}

-- the same of an id
abbrev pub Targets : Outcome → Result Id TriggerFault → Type 0
Targets m (Ok id) = m ≡ is (value.One (atom.Uuid id))
Targets m (Err Overflow) = m ≡ over
Targets m (Err NoMemory) = Unit {0}

-- a rule's command for an aggregate, or that a limit is passed, or that there was no memory
abbrev pub GivesCommand : Rule → Id → Option Record → Result Command TriggerFault → Type 0
GivesCommand r id args (Ok c) = command_for r (is (value.One (atom.Uuid id))) args ≡ Asks c
GivesCommand r id args (Err Overflow) = command_for r (is (value.One (atom.Uuid id))) args ≡ Overflows
GivesCommand r id args (Err NoMemory) = Unit {0}

-- what a class declares of a command
abbrev pub definition_in : Option Class → Name → Option CommandDef
definition_in None name = None
definition_in (Some k) name = command_in k name
