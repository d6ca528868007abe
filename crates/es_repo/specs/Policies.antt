-- What a policy decides: each of its rules over the notifications of an aggregate, followed by the new events of the rules before it.
use Rattle.std.specs.Prelude.{ℤ, ℕ, ◌+◌, List, [], ◌∷◌, ◌++◌, length, map, filter, Option, Some, Ok, Err}
use Rattle.std.specs.Str.{bytes_eq}
use Rattle.es_model.specs.Declaration.{app_named}
use Rattle.es_model.specs.Values.{Name, Id}
use Rattle.es_model.specs.declared.declaration.Rule.{Rule}
use Rattle.es_model.specs.declared.declaration.System.{System}
use Rattle.es_model.specs.declared.domain_event.DomainEvent.{DomainEvent}
use Rattle.es_model.specs.declared.event.StoredEvent.{StoredEvent}
use Rattle.es_mapper.specs.Mapping.{stored}
use Rattle.es_domain.specs.Decision.{Decided, Notice, rules_from, rules_of}
use Rattle.es_domain.specs.Effect.{made}
use Rattle.es_domain.specs.Fold.{advanced}
use Rattle.es_domain.specs.Readings.{Reading, folded, unreadable, Readings}
use Rattle.es_domain.specs.declared.aggregate.Aggregate.{Aggregate}
use Rattle.es_domain.specs.declared.command.Decision.TheVariants as decision
use Rattle.es_repo.specs.Readings.{after_entry, readings_of}

-- ---- what is read of an aggregate once new events stand behind a log

-- new events with their notification ids, of which the first has this one
abbrev pub placed_from : ℕ → List DomainEvent → List (ℕ × DomainEvent)
placed_from first [] = []
placed_from first (e ∷ es) = (first, e) ∷ placed_from (first + 1) es

-- those of an originator
abbrev pub new_of : ℕ → List DomainEvent → Id → List (ℕ × DomainEvent)
new_of first new id = filter (λ n. bytes_eq n.1.originator_id id) (placed_from first new)

-- what new events make of no aggregate, or of one, one after the other
abbrev pub read_new : System → Option Aggregate → List (ℕ × DomainEvent) → Reading
read_new sys found [] = folded found
read_new sys found (n ∷ ns) = after_entry n.0 (made (advanced sys found n.1)) (λ a. read_new sys (Some a) ns)

-- how reading goes on after what was read
abbrev pub then_read : Reading → (Option Aggregate → Reading) → Reading
then_read (folded found) rest = rest found
then_read (unreadable id) rest = unreadable id

-- what is read of each aggregate of a log: its notifications, followed by those of some new events that are its own
abbrev pub readings_with : System → List StoredEvent → List DomainEvent → Readings
readings_with sys events new = λ id. then_read (readings_of sys events id) (λ found. read_new sys found (new_of (length events + 1) new id))

-- the same, where the new events are stored behind the log and are read back
abbrev pub readings_behind : System → List StoredEvent → List DomainEvent → Readings
readings_behind sys events new = readings_of sys (events ++ map (stored sys) new)

-- ---- the rules, one after the other

-- how a policy goes on after what a rule decided: with the rule's events behind those of the rules before
abbrev pub after_rule : List DomainEvent → Decided → (List DomainEvent → Decided) → Decided
after_rule new (Ok (decision.Events more)) rest = rest (new ++ more)
after_rule new (Ok (decision.Refused code rule)) rest = Ok (decision.Refused code rule)
after_rule new (Err fault) rest = Err fault

-- what some rules decide, of which the first has this number: each by itself over what is read once the events of the rules before it, `new`, stand behind the log
abbrev pub rules_by : System → Notice → ℤ → (List DomainEvent → Readings) → ℕ → List Rule → List DomainEvent → Decided
rules_by sys n at read rule [] new = Ok (decision.Events new)
rules_by sys n at read rule (r ∷ rules) new = after_rule new (rules_from sys n at rule (r ∷ []) (read new)) (rules_by sys n at read (rule + 1) rules)

-- what the policy of an application decides on a notification, by what is read of each aggregate after new events
abbrev pub policy_by : System → Name → Notice → ℤ → (List DomainEvent → Readings) → Decided
policy_by sys app n at read = rules_by sys n at read 1 (rules_of (app_named sys.apps app)) []
