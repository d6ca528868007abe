-- What an application decides over its history.
use Rattle.std.specs.Prelude.{ℤ, ◌≡◌, ◌<◌, ◌^◌, All, List, map, None, Ok, Err}
use Rattle.es_model.specs.History.{log}
use Rattle.es_model.specs.Values.{Name}
use Rattle.es_model.specs.declared.declaration.System.{System}
use Rattle.es_model.specs.declared.event.Recording.{Recording}
use Rattle.es_model.specs.declared.event.StoredEvent.{StoredEvent}
use Rattle.es_mapper.specs.Mapping.{stored}
use Rattle.es_domain.specs.Decision.{Decided, Notice, command_decision}
use Rattle.es_domain.specs.declared.command.Command.{Command}
use Rattle.es_domain.specs.declared.command.Decision.TheVariants as decision
use Rattle.es_domain.specs.declared.find.FindFault.TheVariants as fault
use Rattle.es_recorder.specs.Insert.{first_conflict}
use Rattle.es_repo.specs.Policies.{policy_by, readings_behind, readings_with}
use Rattle.es_repo.specs.Readings.{readings_of}
use Rattle.es_repo.specs.declared.verdict.Verdict.{Verdict}
use Rattle.es_repo.specs.declared.verdict.Verdict.TheVariants.{Events, Refused, Unreadable}

-- a decision with its events as they are stored; what is decided over readings is never a failure or want of memory, for which notification 0 stands
abbrev pub verdict_of : System → Decided → Verdict
verdict_of sys (Ok (decision.Events es)) = Events (map (stored sys) es)
verdict_of sys (Ok (decision.Refused code rule)) = Refused code rule
verdict_of sys (Err (fault.Unreadable id)) = Unreadable id
verdict_of sys (Err fault.Failed) = Unreadable 0
verdict_of sys (Err fault.NoMemory) = Unreadable 0

-- what a command decides over a history
abbrev pub command_verdict : System → Command → ℤ → List Recording → Verdict
command_verdict sys c at h = verdict_of sys (command_decision sys c at (readings_of sys (log h)))

-- what the policy of an application decides on a notification over a history: each rule over the notifications of an aggregate, followed by the new events of the rules before it
abbrev pub policy_verdict : System → Name → Notice → ℤ → List Recording → Verdict
policy_verdict sys app n at h = verdict_of sys (policy_by sys app n at (readings_with sys (log h)))

-- the same, where these new events are stored behind the history and are read back
abbrev pub stored_verdict : System → Name → Notice → ℤ → List Recording → Verdict
stored_verdict sys app n at h = verdict_of sys (policy_by sys app n at (readings_behind sys (log h)))

-- a verdict that gives events is this one; of a refusal and of an unreadable entry nothing is said
abbrev pub AcceptsAs : Verdict → Verdict → Type 0
AcceptsAs wanted (Events es) = wanted ≡ Events es
AcceptsAs wanted (Refused code rule) = Unit {0}
AcceptsAs wanted (Unreadable id) = Unit {0}

-- the versions of the new events are those that a recorder takes
abbrev pub IsSmallVerdict : Verdict → Type 0
IsSmallVerdict (Events es) = All (λ e. e.originator_version < 2 ^ 63) es
IsSmallVerdict (Refused code rule) = Unit {0}
IsSmallVerdict (Unreadable id) = Unit {0}

-- the new events come next over a log
abbrev pub FollowsIn : List StoredEvent → Verdict → Type 0
FollowsIn events (Events es) = first_conflict events es ≡ None
FollowsIn events (Refused code rule) = Unit {0}
FollowsIn events (Unreadable id) = Unit {0}
