-- What an outcome leaves of an application's recordings.
use Rattle.std.specs.Prelude.{◌≡◌, ℕ, ℤ, ◌-◌, Bool, true, false, List, [], ◌∷◌, ◌++◌, length, take, if◌then◌else◌, Option, Some, None, Result, Ok, Err}
use Rattle.es_model.specs.declared.declaration.System.{System}
use Rattle.es_model.specs.declared.event.Recording.{Recording}
use Rattle.es_model.specs.declared.memory.NoMemory.{NoMemory}
use Rattle.es_model.specs.History.{Histories}
use Rattle.es_model.specs.Values.{Name}
use Rattle.es_recorder.specs.Held.{put}
use Rattle.es_domain.specs.declared.command.Command.{Command as CommandOf}
use Rattle.es_lines.specs.Requests.{IsDeclared, request_in}
use Rattle.es_world.specs.Answers.{Outcome, adds, only, asked, commanded}
use Rattle.es_world.specs.declared.steps.StepAnswer.{StepAnswer}
use Rattle.es_world.specs.declared.steps.StepAnswer.TheVariants as answer

-- a recording is added and that is answered, or the reason is answered and nothing changes; so it is without memory
abbrev pub Leaves : Outcome → List Recording → Result StepAnswer NoMemory → Option (List Recording) → Type 0
Leaves (adds r) h (Ok a) new = (a ≡ answer.Recorded) × (new ≡ Some (h ++ r ∷ []))
Leaves (only reason) h (Ok a) new = (a ≡ reason) × (new ≡ Some h)
Leaves o h (Err e) new = new ≡ Some h

-- the same among all histories, at an application's name
abbrev pub LeavesAt : Name → Outcome → Histories → Result StepAnswer NoMemory → Histories → Type 0
LeavesAt app (adds r) h (Ok a) new = (a ≡ answer.Recorded) × (new ≡ put h app (h app ++ r ∷ []))
LeavesAt app (only reason) h (Ok a) new = (a ≡ reason) × (new ≡ h)
LeavesAt app o h (Err e) new = new ≡ h

-- a text is that of a command which it asks of an application, or asks for none
abbrev pub IsChosen : Bool → CommandOf → Option CommandOf → Type 0
IsChosen same c (Some d) = (same ≡ true) × (d ≡ c)
IsChosen same c None = same ≡ false

-- what a text asks of an application is this command, or nothing that there is
abbrev pub IsAskedIn : System → Name → List ℕ → Option CommandOf → Type 0
IsAskedIn sys app text (Some c) = IsDeclared sys app c × ((h : List Recording) (at : ℤ) → asked sys app h text at (request_in sys text) ≡ commanded sys app h text at c)
IsAskedIn sys app text None = (h : List Recording) (at : ℤ) → asked sys app h text at (request_in sys text) ≡ only answer.NoSuch

-- an application is put among those that are down, unless its recording is sure
abbrev pub with_doubt : List Name → Name → Bool → List Name
with_doubt down app sure = if sure then down else down ++ app ∷ []

-- a recording was added
abbrev pub was_recorded : Result StepAnswer NoMemory → Bool
was_recorded (Ok answer.Recorded) = true
was_recorded (Ok answer.Doubtful) = false
was_recorded (Ok answer.Stopped) = false
was_recorded (Ok (answer.Skipped tracked)) = false
was_recorded (Ok (answer.Gap tracked)) = false
was_recorded (Ok answer.NoSuch) = false
was_recorded (Ok (answer.Conflict latest)) = false
was_recorded (Ok (answer.Refused code rule)) = false
was_recorded (Ok (answer.Unreadable app id)) = false
was_recorded (Ok (answer.Down app)) = false
was_recorded (Err fault) = false

-- the answer to a step by what came of it, and who is down then: where it isn't sure, the last one stays so after a recording alone, which is in doubt
abbrev pub ConcludesBy : Bool → Bool → Result StepAnswer NoMemory → List Name → Result StepAnswer NoMemory → List Name → Type 0
ConcludesBy true recorded came down result new = (result ≡ came) × (new ≡ down)
ConcludesBy false true came down result new = (result ≡ Ok answer.Doubtful) × (new ≡ down)
ConcludesBy false false came down result new = (result ≡ came) × (new ≡ take (length down - 1) down)

abbrev pub Concludes : Result StepAnswer NoMemory → Bool → List Name → Result StepAnswer NoMemory → List Name → Type 0
Concludes came sure down result new = ConcludesBy sure (was_recorded came) came down result new
