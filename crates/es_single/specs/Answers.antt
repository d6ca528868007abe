-- What answering a line leaves.
use Rattle.std.specs.Prelude.{◌≡◌, ◌+◌, ℕ, List, [], ◌∷◌, Option, Some, Result, Ok, Err}
use Rattle.es_model.specs.declared.declaration.System.{System}
use Rattle.es_model.specs.Lines.{Line, text}
use Rattle.es_model.specs.Values.{Name}
use Rattle.es_lines.specs.Requests.{asks, request_in}
use Rattle.es_lines.specs.declared.replies.Reply.{Reply}
use Rattle.es_lines.specs.declared.request.Request.{Request}
use Rattle.es_process.specs.declared.faults.RunFault.{RunFault}
use Rattle.es_process.specs.Contents.{Contents}
use Rattle.es_process.specs.SingleThread.{Step, goes_on, request_turn}
use Rattle.es_process.specs.Standing.{State, Setting, Places, stand, Faulted}
use Rattle.es_process.specs.Terms.{Terms}

-- some line asks this
pub record IsAsked (sys : System) (r : Request) : Type 0 where
  pub line : List ℕ
  pub is : request_in sys line ≡ asks r

-- this line comes next, and nothing is to be drained
abbrev pub at_line : State → Line → Places
at_line s line = λ σ. stand s [] [] (line ∷ σ.lines) σ.answered

-- one line more was answered, and these leaders are prompted
abbrev pub after_reply : State → List Name → Places
after_reply s prompted = λ σ. stand s prompted [] σ.lines (σ.answered + 1)

-- the turn of a line that asks this gives this reply after some changes, and comes to this state; `holds` says what is held then, and which leaders are to be drained
pub record Replies (t : Terms) (s : State) (r : Request) (reply : Reply) (holds : State → List Name → Type 0) : Type 0 where
  pub changes : List Step
  pub state : State
  pub prompted : List Name
  pub held : holds state prompted
  pub turn : (σ : Setting) (line : Line) → request_turn t.rules t.options (at_line s line σ) σ.lines (asks r) ≡ goes_on (record { changes = changes; reply = Some reply }) (after_reply state prompted σ)

-- what answering leaves: its reply, or where the run ended or was cut short
abbrev pub Answers : Terms → State → List ℕ → Request → (State → List Name → Type 0) → (Contents → Type 0) → Option (List ℕ) → Result Reply RunFault → Type 0
Answers t s line r holds left u (Ok reply) = Replies t s r reply holds
Answers t s line r holds left u (Err f) = Faulted t (at_line s (text line)) f left u u
