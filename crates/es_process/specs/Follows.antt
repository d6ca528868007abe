-- When a history follows its opening: each later recording is what its cause decides over the recordings before it.
use Rattle.std.specs.Prelude.{◌≡◌, ◌≤◌, ◌+◌, ℕ, List, [], ◌∷◌, ◌++◌, length, Contains, IfSome}
use Rattle.es_model.specs.declared.event.Recording.{Recording}
use Rattle.es_model.specs.declared.event.Cause.{Cause}
use Rattle.es_model.specs.declared.event.Cause.TheVariants.{Command, Notification}
use Rattle.es_model.specs.History.{log, latest}
use Rattle.es_model.specs.Tracking.{tracked_in}
use Rattle.es_model.specs.Values.{Name}
use Rattle.es_domain.specs.declared.command.Command.{Command as CommandOf}
use Rattle.es_lines.specs.CommandText.{command_text}
use Rattle.es_lines.specs.Requests.{asks}
use Rattle.es_lines.specs.declared.request.Request.TheVariants.{Do}
use Rattle.es_process.specs.Decision.{Rules, Logs, events}

-- a text is the canonical text of a command for an application, and the version that it expects, where it expects one, is the latest over the recordings before
pub record IsAsked (rules : Rules) (app : Name) (before : List Recording) (asked : List ℕ) : Type 0 where
  pub command : CommandOf
  pub is_asked : rules.request asked ≡ asks (Do app command)
  pub canonical : asked ≡ command_text app command
  pub expected : IfSome command.expect (λ version. version ≡ latest (log before) command.id)

-- a notification of a leader of the application is the next one that isn't tracked, and is there
pub record IsNotified (rules : Rules) (app : Name) (before : List Recording) (logs : Logs) (leader : Name) (id : ℕ) : Type 0 where
  pub leads : Contains rules.pairs (leader, app)
  pub next : id ≡ tracked_in before leader + 1
  pub there : id ≤ length (logs leader)

-- what may be the cause of an application's next recording
abbrev pub MayCome : Rules → Name → List Recording → Logs → Cause → Type 0
MayCome rules app before logs (Command asked) = IsAsked rules app before asked
MayCome rules app before logs (Notification leader id) = IsNotified rules app before logs leader id

-- a recording may come next: its cause may, and its events are those that the application decides on it
pub record ComesNext (rules : Rules) (app : Name) (before : List Recording) (logs : Logs) (r : Recording) : Type 0 where
  pub cause : MayCome rules app before logs r.cause
  pub decided : rules.decide app before logs r.cause r.at ≡ events r.events

-- each of some recordings comes next after those before it
abbrev pub EachComes : Rules → Name → List Recording → Logs → List Recording → Type 0
EachComes rules app before logs [] = Unit {0}
EachComes rules app before logs (r ∷ rs) = ComesNext rules app before logs r × EachComes rules app (before ++ r ∷ []) logs rs

-- a history of an application follows its opening, over the logs of its leaders
pub record Follows (rules : Rules) (app : Name) (opening history : List Recording) (logs : Logs) : Type 0 where
  pub added : List Recording
  pub parts : history ≡ opening ++ added
  pub each : EachComes rules app opening logs added
