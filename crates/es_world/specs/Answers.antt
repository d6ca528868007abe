-- What a step of a world over a declared system answers, and the world that it leaves.
use Rattle.std.specs.Prelude.{ℕ, ℤ, ◌+◌, ◌-◌, nat_le, nat_lt, Bool, ◌&&◌, List, length, slice_get, if◌then◌else◌, Option, Some, None}
use Rattle.std.specs.List.{list_any}
use Rattle.std.specs.Str.{bytes_eq}
use Rattle.es_model.specs.declared.declaration.System.{System}
use Rattle.es_model.specs.declared.domain_event.DomainEvent.{DomainEvent}
use Rattle.es_model.specs.declared.event.Cause.{Cause}
use Rattle.es_model.specs.declared.event.Cause.TheVariants.{Command, Notification}
use Rattle.es_model.specs.declared.event.Recording.{Recording}
use Rattle.es_model.specs.declared.event.StoredEvent.{StoredEvent}
use Rattle.es_model.specs.History.{log, latest}
use Rattle.es_model.specs.Tracking.{tracked_in}
use Rattle.es_model.specs.Values.{Name}
use Rattle.es_mapper.specs.Mapped.{event_of}
use Rattle.es_decl.specs.Pairs.{pairs_of, is_pair}
use Rattle.es_domain.specs.Decision.{notice}
use Rattle.es_domain.specs.declared.command.Command.{Command as CommandOf}
use Rattle.es_repo.specs.Verdicts.{command_verdict, policy_verdict}
use Rattle.es_repo.specs.declared.verdict.Verdict.{Verdict}
use Rattle.es_repo.specs.declared.verdict.Verdict.TheVariants as verdict
use Rattle.es_lines.specs.CommandText.{command_text}
use Rattle.es_lines.specs.Requests.{Asked, asks, refused as not_asked, request_in}
use Rattle.es_lines.specs.declared.request.Request.TheVariants.{Do, Get, Log, Tracking, Snapshot, Sync, Stop as StopAsked}
use Rattle.es_process.specs.Answer.{recording_of, differs}
use Rattle.es_world.specs.World.{World, with_added, stopped}
use Rattle.es_world.specs.declared.steps.StepAnswer.{StepAnswer}
use Rattle.es_world.specs.declared.steps.StepAnswer.TheVariants as answer
use Rattle.es_world.specs.declared.steps.WorldStep.{WorldStep}
use Rattle.es_world.specs.declared.steps.WorldStep.TheVariants.{Line, Deliver, Stop}

-- what comes of a cause: a recording that is added, or nothing, for this reason
pub data Outcome : Type 0 where
  adds : Recording → Outcome
  only : StepAnswer → Outcome

-- what is decided, as an application's recording of a cause
abbrev pub decided : Name → Cause → ℤ → Verdict → Outcome
decided app cause at (verdict.Events es) = adds (recording_of cause at es)
decided app cause at (verdict.Refused code rule) = only (answer.Refused code rule)
decided app cause at (verdict.Unreadable id) = only (answer.Unreadable app id)

-- a command over an application's recordings: the expected version first
abbrev pub commanded : System → Name → List Recording → List ℕ → ℤ → CommandOf → Outcome
commanded sys app h text at c =
    if differs h c.id c.expect then only (answer.Conflict (latest (log h) c.id)) else
    decided app (Command text) at (command_verdict sys c at h)

-- what the canonical text of a command asks of a system: that command of the application, or nothing that there is
abbrev pub asked : System → Name → List Recording → List ℕ → ℤ → Asked → Outcome
asked sys app h text at (asks (Do name c)) = if bytes_eq name app && bytes_eq (command_text name c) text then commanded sys app h text at c else only answer.NoSuch
asked sys app h text at (asks (Get name id version)) = only answer.NoSuch
asked sys app h text at (asks (Log name section)) = only answer.NoSuch
asked sys app h text at (asks (Tracking name leader)) = only answer.NoSuch
asked sys app h text at (asks (Snapshot name id)) = only answer.NoSuch
asked sys app h text at (asks Sync) = only answer.NoSuch
asked sys app h text at (asks StopAsked) = only answer.NoSuch
asked sys app h text at (not_asked fault) = only answer.NoSuch

-- a line: whether the application is down first
abbrev pub lined : System → World → Name → CommandOf → ℤ → Outcome
lined sys w app c at =
    if w.down app then only (answer.Down app) else
    asked sys app (w.histories app) (command_text app c) at (request_in sys (command_text app c))

-- a leader's event, where the entry has a meaning
abbrev pub followed_event : System → Name → List Recording → Name → ℕ → ℤ → Option DomainEvent → Outcome
followed_event sys app h leader id at None = only (answer.Unreadable leader id)
followed_event sys app h leader id at (Some e) = decided app (Notification leader id) at (policy_verdict sys app (notice leader id e) at h)

-- the next entry that isn't tracked
abbrev pub followed : System → Name → List Recording → Name → ℕ → ℤ → Option StoredEvent → Outcome
followed sys app h leader id at None = only answer.NoSuch
followed sys app h leader id at (Some e) = followed_event sys app h leader id at (event_of sys e)

-- a notification that is there, by how far the follower has come
abbrev pub come_to : System → Name → List Recording → List StoredEvent → Name → ℕ → ℤ → Outcome
come_to sys app h entries leader id at =
    if nat_le id (tracked_in h leader) then only (answer.Skipped (tracked_in h leader)) else
    if nat_lt (tracked_in h leader + 1) id then only (answer.Gap (tracked_in h leader)) else
    followed sys app h leader id at (slice_get entries (id - 1))

-- an application leads another
abbrev pub is_led : System → Name → Name → Bool
is_led sys leader follower = list_any (λ p. is_pair p (leader, follower)) (pairs_of sys.pipes)

-- a delivery: whether the follower is down or the leader, and then whether there is such a pair and such a notification
abbrev pub delivered : System → World → Name → Name → ℕ → ℤ → Outcome
delivered sys w follower leader id at =
    if w.down follower then only (answer.Down follower) else
    if w.down leader then only (answer.Down leader) else
    if is_led sys leader follower && (nat_le 1 id && nat_le id (length (log (w.histories leader))))
    then come_to sys follower (w.histories follower) (log (w.histories leader)) leader id at
    else only answer.NoSuch

-- the answer, and the world that is left
pub record Made : Type 0 where
  pub answer : StepAnswer
  pub left : World

abbrev pub made_by : World → Name → Bool → Outcome → Made
made_by w app sure (adds r) = record { answer = if sure then answer.Recorded else answer.Doubtful; left = with_added w app r sure }
made_by w app sure (only a) = record { answer = a; left = w }

-- what a step makes of a world
abbrev pub made : System → World → WorldStep → Made
made sys w (Line app c at sure) = made_by w app sure (lined sys w app c at)
made sys w (Deliver follower leader id at sure) = made_by w follower sure (delivered sys w follower leader id at)
made sys w (Stop kept) = record { answer = answer.Stopped; left = stopped kept w }
