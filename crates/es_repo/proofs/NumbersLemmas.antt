-- The numbers of a declared class.
use Rattle.std.proofs.Common.{◌≡◌, ◌≤◌, ◌<◌, ◌^◌, ℕ, IsTrue, Bool, true, ◌&&◌, nat_le, Option, None, Some, arith}
use Rattle.std.specs.Prelude.{IfSome}
use Rattle.std.proofs.lemmas.Bool.Decides.{nat_tests}
use Rattle.es_model.specs.Declaration.{class_named, event_named}
use Rattle.es_model.specs.Names.{is_upper_name, is_field_name, is_between}
use Rattle.es_model.specs.Values.{Name}
use Rattle.es_model.specs.declared.declaration.Class.{Class}
use Rattle.es_model.specs.declared.declaration.EventClass.{EventClass}
use Rattle.es_model.specs.declared.declaration.System.{System}
use Rattle.es_model.proofs.HistoryLemmas.{both_true}
use Rattle.es_expr.specs.Checked.{IsCheckedSystem}
use Rattle.es_expr.specs.Limits.{is_absent_or_between, are_numbers_within, are_kinds_within, is_event_within, are_events_within, are_commands_within, is_class_within}
use Rattle.es_expr.proofs.TopicLemmas.{class-within}
use Rattle.es_expr.proofs.UniqueLemmas.{class-of-topic}

numbers-within : (c : Class) → IsTrue (is_class_within c) → IsTrue (are_numbers_within c)
numbers-within c within =
    let name : Bool = is_upper_name c.name in
    let numbers : Bool = are_numbers_within c in
    let kinds : Bool = are_kinds_within is_field_name c.fields in
    let created : Bool = is_event_within c.name c.created in
    let events : Bool = are_events_within c.name c.events in
    let to_events = (both_true (name && numbers && kinds && created && events) (are_commands_within c.commands) within).0 in
    let to_created = (both_true (name && numbers && kinds && created) events to_events).0 in
    let to_kinds = (both_true (name && numbers && kinds) created to_created).0 in
    (both_true name numbers (both_true (name && numbers) kinds to_kinds).0).1

between : (low high n : ℕ) → is_between low high n ≡ true → (low ≤ n) × (n ≤ high)
between low high n is =
    let parts = both_true (nat_le low n) (nat_le n high) is in
    (grind (arith, nat_tests, parts.0), grind (arith, nat_tests, parts.1))

positive-of : (low high : ℕ) (o : Option ℕ) → 0 < low → is_absent_or_between low high o ≡ true → IfSome o (λ n. 0 < n)
positive-of low high None above is = tt
positive-of low high (Some n) above is = let b = (between low high n is).0 in omega arith

-- the version of a declared class is small
pub small-version : (sys : System) (name : Name) (c : Class) → IsCheckedSystem sys → class_named sys.classes name ≡ Some c → c.version < 2 ^ 62
small-version sys name c checked named =
    let numbers = both_true (is_between 1 1000000 c.version) (is_absent_or_between 1 1000000 c.interval) (numbers-within c (class-within sys name c checked named)) in
    let most = (between 1 1000000 c.version numbers.0).1 in
    omega arith

-- the interval of the class that declares a topic is at least 1
pub positive-interval : (sys : System) (topic : Name) (c : Class) (k : EventClass) → IsCheckedSystem sys → event_named sys.classes topic ≡ Some (c, k) → IfSome c.interval (λ n. 0 < n)
positive-interval sys topic c k checked named =
    let within = class-within sys c.name c checked (class-of-topic sys c k topic checked named) in
    let numbers = both_true (is_between 1 1000000 c.version) (is_absent_or_between 1 1000000 c.interval) (numbers-within c within) in
    positive-of 1 1000000 c.interval (omega arith) numbers.1
