-- A world: all histories and which applications are down, what a step makes of it, and where a list of steps leads.
use Rattle.std.specs.Prelude.{◌≡◌, ℤ, ◌-◌, Bool, true, false, not, ◌&&◌, ◌⊎◌, List, [], ◌∷◌, ◌++◌, length, take, if◌then◌else◌}
use Rattle.es_model.specs.declared.event.Recording.{Recording}
use Rattle.es_model.specs.declared.event.Cause.{Cause}
use Rattle.es_model.specs.declared.event.Cause.TheVariants.{Command, Notification}
use Rattle.es_model.specs.History.{Histories}
use Rattle.es_model.specs.Values.{Name}
use Rattle.es_recorder.specs.Held.{put}
use Rattle.es_lines.specs.CommandText.{command_text}
use Rattle.es_process.specs.Decision.{Rules, logs_of}
use Rattle.es_process.specs.Follows.{ComesNext}
use Rattle.es_process.specs.SingleThread.{is_among}
use Rattle.es_world.specs.declared.steps.WorldStep.{WorldStep}
use Rattle.es_world.specs.declared.steps.WorldStep.TheVariants.{Line, Deliver, Stop}

-- all histories, and which applications are down; one is down while its last recording is in doubt
pub record World : Type 0 where
  pub histories : Histories
  pub down : Name → Bool

-- histories with nobody down
abbrev pub opened : Histories → World
opened histories = record { histories = histories; down = λ app. false }

-- neither an application is down, nor the leader whose notification is delivered to it
abbrev pub AreUp : World → Name → Cause → Type 0
AreUp w app (Command asked) = w.down app ≡ false
AreUp w app (Notification leader id) = (w.down app ≡ false) × (w.down leader ≡ false)

-- a recording is the one that a cause adds at a moment: nobody is down, and it may come next over the logs as they are
pub record Adds (rules : Rules) (w : World) (app : Name) (cause : Cause) (at : ℤ) (r : Recording) : Type 0 where
  pub up : AreUp w app cause
  pub caused : r.cause ≡ cause
  pub moment : r.at ≡ at
  pub next : ComesNext rules app (w.histories app) (logs_of w.histories) r

-- the world with a recording more; where that isn't sure it is in doubt, and its application down
abbrev pub with_added : World → Name → Recording → Bool → World
with_added w app r sure = record { histories = put w.histories app (w.histories app ++ r ∷ []); down = if sure then w.down else put w.down app true }

-- a cause makes of a world the one with the recording that it adds, or, where it adds none, the same
abbrev pub Makes : Rules → World → Name → Cause → ℤ → Bool → World → Type 0
Makes rules w app cause at sure new =
    ((r : Recording) × Adds rules w app cause at r × (new ≡ with_added w app r sure))
    ⊎ (((r : Recording) → Adds rules w app cause at r → ⊥) × (new ≡ w))

-- a history as a stop leaves it: what is in doubt is taken away where it isn't kept
abbrev pub left_of : Bool → List Recording → List Recording
left_of dropped h = if dropped then take (length h - 1) h else h

-- the world after a stop: nobody is down
abbrev pub stopped : List Name → World → World
stopped kept w = opened (λ app. left_of (w.down app && not (is_among app kept)) (w.histories app))

-- what a step makes of a world
abbrev pub Steps : Rules → World → WorldStep → World → Type 0
Steps rules w (Line app command at sure) new = Makes rules w app (Command (command_text app command)) at sure new
Steps rules w (Deliver follower leader id at sure) new = Makes rules w follower (Notification leader id) at sure new
Steps rules w (Stop kept) new = new ≡ stopped kept w

-- a list of steps leads from a world to another
abbrev pub Runs : Rules → World → List WorldStep → World → Type 0
Runs rules w [] new = new ≡ w
Runs rules w (s ∷ steps) new = (next : World) × Steps rules w s next × Runs rules next steps new
