-- What a command and a policy decide, by what is read of each aggregate.
use Rattle.std.specs.Prelude.{ℤ, ℕ, ◌≡◌, ◌+◌, ◌<◌, ◌^◌, Bool, true, false, ◌&&◌, All, IsTrue, is_some, List, [], ◌∷◌, ◌++◌, if◌then◌else◌, Option, None, Some, Result, Ok, Err}
use Rattle.std.specs.List.{before_first, after_first}
use Rattle.std.specs.Str.{bytes_eq}
use Rattle.es_model.specs.Declaration.{app_named, event_named}
use Rattle.es_model.specs.Values.{Name, Id, Record, are_of_kinds}
use Rattle.es_model.specs.declared.declaration.App.{App}
use Rattle.es_model.specs.declared.declaration.Class.{Class}
use Rattle.es_model.specs.declared.declaration.CommandDef.{CommandDef}
use Rattle.es_model.specs.declared.declaration.Otherwise.{Otherwise}
use Rattle.es_model.specs.declared.declaration.Otherwise.TheVariants.{Skip, Refuse}
use Rattle.es_model.specs.declared.declaration.Rule.{Rule}
use Rattle.es_model.specs.declared.declaration.System.{System}
use Rattle.es_model.specs.declared.domain_event.DomainEvent.{DomainEvent}
use Rattle.es_model.specs.declared.expr.Expr.{Expr}
use Rattle.es_model.specs.declared.value.Atom.TheVariants as atom
use Rattle.es_model.specs.declared.value.Value.TheVariants as value
use Rattle.es_expr.specs.Environments.{rule_env}
use Rattle.es_model.specs.Names.{is_dot}
use Rattle.es_expr.specs.Meaning.{den}
use Rattle.es_expr.specs.Outcome.{Outcome, is}
use Rattle.es_domain.specs.Effect.{effect, overflow_code}
use Rattle.es_domain.specs.Fold.{values_of, id_value, version_value, moment_value}
use Rattle.es_domain.specs.Readings.{Readings, Reading, folded, unreadable, Told, AreReadings}
use Rattle.es_domain.specs.Steps.{collected, IsOfTopic}
use Rattle.es_domain.specs.declared.aggregate.Aggregate.{Aggregate}
use Rattle.es_domain.specs.declared.command.Command.{Command}
use Rattle.es_domain.specs.declared.command.Decision.{Decision}
use Rattle.es_domain.specs.declared.command.Decision.TheVariants as decision
use Rattle.es_domain.specs.declared.effect.Effect.{Effect}
use Rattle.es_domain.specs.declared.effect.Effect.TheVariants.{Changed, Refused}
use Rattle.es_domain.specs.declared.find.FindFault.{FindFault}
use Rattle.es_domain.specs.declared.find.FindFault.TheVariants.{Unreadable, Failed, NoMemory}
use Rattle.es_domain.specs.declared.policy.Asked.{Asked}
use Rattle.es_domain.specs.declared.policy.Asked.TheVariants.{Nothing, Overflows, Asks}

-- a decision, or that an event which it needs has no meaning
abbrev pub Decided : Type 0
Decided = Result Decision FindFault

-- ---- a command

-- the new events, or the refusal with the rule's number
abbrev pub decision_of : ℕ → Effect → Decision
decision_of rule (Changed a) = decision.Events a.pending
decision_of rule (Refused code) = decision.Refused code rule

abbrev pub command_on : System → Command → ℤ → Reading → Decided
command_on sys c at (unreadable id) = Err (Unreadable id)
command_on sys c at (folded found) = Ok (decision_of 0 (effect sys c at found))

-- what a command decides over the readings of its application's aggregates
abbrev pub command_decision : System → Command → ℤ → Readings → Decided
command_decision sys c at readings = command_on sys c at (readings c.id)

-- ---- what a rule asks

-- a leader's notification, as a policy is given it
pub record Notice : Type 0 where
  pub leader : Name
  pub id : ℕ
  pub event : DomainEvent

abbrev pub notice : Name → ℕ → DomainEvent → Notice
notice leader id event = record { leader = leader; id = id; event = event }

-- the values that the expressions of a rule see
abbrev pub shown : Notice → Record
shown n =
    let e = n.event in
    rule_env e.fields (id_value e.originator_id) (moment_value e.timestamp) (value.One (atom.Text n.leader)) (version_value n.id) (version_value e.originator_version)

-- the command of a rule for an aggregate
abbrev pub command_of : Rule → Id → Record → Command
command_of r id args = record { class = before_first is_dot r.command; name = after_first is_dot r.command; id = id; args = args; expect = None }

-- the same, by the values of its target and of its arguments
abbrev pub command_for : Rule → Outcome → Option Record → Asked
command_for r (is (value.One (atom.Uuid id))) (Some args) = Asks (command_of r id args)
command_for r _ _ = Overflows

-- what is asked where a test is true
abbrev pub asked_where : Outcome → Asked → Asked
asked_where (is (value.One (atom.Bool true))) asked = asked
asked_where (is (value.One (atom.Bool false))) asked = Nothing
asked_where _ asked = Overflows

abbrev pub is_true_of : Option Expr → Record → Outcome
is_true_of None env = is (value.One (atom.Bool true))
is_true_of (Some e) env = den e env

abbrev pub is_absent_or : Option Name → Name → Bool
is_absent_or None name = true
is_absent_or (Some wanted) name = bytes_eq wanted name

-- what a rule asks of a notification: nothing where it doesn't apply, a command, or too much where a limit is passed
abbrev pub asked : Rule → Notice → Asked
asked r n =
    if bytes_eq r.topic n.event.topic && is_absent_or r.leader n.leader
    then asked_where (is_true_of r.when (shown n)) (command_for r (den r.target (shown n)) (values_of r.args (shown n)))
    else Nothing

-- ---- the rules of a policy

-- what is read of each aggregate after one was changed
abbrev pub after_change : Readings → Aggregate → Readings
after_change readings a = λ id. if bytes_eq a.id id then folded (Some (collected a)) else readings id

-- events before those of a decision
abbrev pub joined : List DomainEvent → Decided → Decided
joined events (Ok (decision.Events more)) = Ok (decision.Events (events ++ more))
joined events (Ok (decision.Refused code rule)) = Ok (decision.Refused code rule)
joined events (Err fault) = Err fault

-- how a policy goes on after a rule's effect: over what was changed; or, where it was refused, as the rule says
abbrev pub after_effect : Otherwise → ℕ → Readings → Effect → (Readings → Decided) → Decided
after_effect otherwise rule readings (Changed a) rest = joined a.pending (rest (after_change readings a))
after_effect Skip rule readings (Refused code) rest = rest readings
after_effect Refuse rule readings (Refused code) rest = Ok (decision.Refused code rule)

abbrev pub after_reading : System → Command → ℤ → Otherwise → ℕ → Readings → Reading → (Readings → Decided) → Decided
after_reading sys c at otherwise rule readings (unreadable id) rest = Err (Unreadable id)
after_reading sys c at otherwise rule readings (folded found) rest = after_effect otherwise rule readings (effect sys c at found) rest

abbrev pub after_asked : System → ℤ → Otherwise → ℕ → Readings → Asked → (Readings → Decided) → Decided
after_asked sys at otherwise rule readings Nothing rest = rest readings
after_asked sys at otherwise rule readings Overflows rest = after_effect otherwise rule readings (Refused overflow_code) rest
after_asked sys at otherwise rule readings (Asks c) rest = after_reading sys c at otherwise rule readings (readings c.id) rest

-- what some rules decide, of which the first has this number
abbrev pub rules_from : System → Notice → ℤ → ℕ → List Rule → Readings → Decided
rules_from sys n at rule [] readings = Ok (decision.Events [])
rules_from sys n at rule (r ∷ rules) readings =
    after_asked sys at r.otherwise rule readings (asked r n) (rules_from sys n at (rule + 1) rules)

abbrev pub rules_of : Option App → List Rule
rules_of None = []
rules_of (Some app) = app.policies

-- what the policy of an application decides on a notification over the readings of its aggregates
abbrev pub policy_decision : System → Name → Notice → ℤ → Readings → Decided
policy_decision sys app n at readings = rules_from sys n at 1 (rules_of (app_named sys.apps app)) readings

-- ---- what is answered

-- an answer is this decision, or the reader failed, or there was no memory
abbrev pub Decides : Decided → Decided → Type 0
Decides decided (Ok d) = decided ≡ Ok d
Decides decided (Err (Unreadable id)) = decided ≡ Err (Unreadable id)
Decides decided (Err Failed) = Unit {0}
Decides decided (Err NoMemory) = Unit {0}

-- the same over all readings of what was told
abbrev pub DecidesTold : System → Option Told → (Readings → Decided) → Decided → Type 0
DecidesTold sys None decide result = Unit {0}
DecidesTold sys (Some told) decide result = (readings : Readings) → AreReadings sys told readings → Decides (decide readings) result

-- a new event, told or not
pub record IsNewEvent (sys : System) (e : DomainEvent) : Type 0 where
  pub fields : IsOfTopic (event_named sys.classes e.topic) e.fields
  pub version : e.originator_version < 2 ^ 63

abbrev pub AreNewEvents : System → Decision → Type 0
AreNewEvents sys (decision.Events es) = All (IsNewEvent sys) es
AreNewEvents sys (decision.Refused code rule) = Unit {0}

-- a command is declared, and a record is of its parameters with their kinds
abbrev pub IsOfCommand : Option (Class × CommandDef) → Record → Type 0
IsOfCommand None r = ⊥
IsOfCommand (Some p) r = IsTrue (are_of_kinds r p.1.params)

-- what a policy may be given: a notification of a declared application, whose event is declared and has its fields
pub record IsNotice (sys : System) (n : Notice) : Type 0 where
  pub leader : IsTrue (is_some (app_named sys.apps n.leader))
  pub id : n.id < 2 ^ 62
  pub fields : IsOfTopic (event_named sys.classes n.event.topic) n.event.fields
  pub version : n.event.originator_version < 2 ^ 62
