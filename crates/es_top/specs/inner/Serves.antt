-- What answering lines over opened applications leaves.
use Rattle.std.specs.Prelude.{◌≡◌, ◌⊎◌, ℕ, ◌+◌, Bool, true, false, List, [], ◌∷◌, ◌++◌, length, Option, Result, Ok, Err}
use Rattle.std.specs.Io.KnownBytes.{Appends}
use Rattle.es_model.specs.History.{Histories}
use Rattle.es_model.specs.Lines.{Line, over}
use Rattle.es_model.specs.Values.{Name}
use Rattle.es_io.specs.Front.{AppendsFront}
use Rattle.es_decl.specs.Pairs.{leaders_in}
use Rattle.es_lines.specs.declared.replies.Reply.{Reply}
use Rattle.es_lines.specs.declared.ends.End.TheVariants as end
use Rattle.es_lines.specs.Texts.{reply_text}
use Rattle.es_process.specs.declared.faults.RunFault.TheVariants as fault
use Rattle.es_process.specs.Contents.{Contents}
use Rattle.es_process.specs.Decision.{Rules}
use Rattle.es_process.specs.SingleThread.{Step, Goes, stops_lines, up_to_stop, written_by, as_line}
use Rattle.es_process.specs.Standing.{State, Places, stand, Came, Ended, CutInText, Faulted}
use Rattle.es_process.specs.Terms.{Terms}
use Rattle.es_single.specs.Answers.{at_line, after_reply}
use Rattle.es_top.specs.declared.serve.Stop.{Stop}
use Rattle.es_top.specs.declared.serve.Stop.TheVariants as stop

-- a reply was written as a line, or a front of it where the sink failed, or nothing for want of memory
abbrev pub SaysIt : Reply → Option (List ℕ) → Option (List ℕ) → Result (Unit {0}) Stop → Type 0
SaysIt said before now (Ok x) = Appends before now (as_line (reply_text said))
SaysIt said before now (Err stop.Sink) = AppendsFront before now (as_line (reply_text said))
SaysIt said before now (Err (stop.Fault fault.NoMemory)) = now ≡ before
SaysIt said before now (Err (stop.Fault fault.Recorder)) = ⊥
SaysIt said before now (Err (stop.Fault (fault.Refused app leader id recordings code rule))) = ⊥
SaysIt said before now (Err (stop.Fault (fault.Turns app turns))) = ⊥
SaysIt said before now (Err (stop.Fault (fault.Unreadable app id))) = ⊥
SaysIt said before now (Err (stop.Fault (fault.Full app last capacity))) = ⊥
SaysIt said before now (Err stop.End) = ⊥
SaysIt said before now (Err stop.Asked) = ⊥
SaysIt said before now (Err stop.Over) = ⊥
SaysIt said before now (Err stop.Read) = ⊥

-- what may come of replying: the sink failed, or memory ran out
abbrev pub IsSaying : Stop → Type 0
IsSaying why = (why ≡ stop.Sink) ⊎ (why ≡ stop.Fault fault.NoMemory)

-- what may come of a line: it may ask to stop, besides
abbrev pub MayStop : Stop → Type 0
MayStop (stop.Fault f) = Unit {0}
MayStop stop.Sink = Unit {0}
MayStop stop.Asked = Unit {0}
MayStop stop.End = ⊥
MayStop stop.Over = ⊥
MayStop stop.Read = ⊥

-- what may come of a drain after a line: a fault of the run, or that the line asked to stop
abbrev pub IsDraining : Stop → Type 0
IsDraining (stop.Fault f) = Unit {0}
IsDraining stop.Asked = Unit {0}
IsDraining stop.Sink = ⊥
IsDraining stop.End = ⊥
IsDraining stop.Over = ⊥
IsDraining stop.Read = ⊥

-- what may come of a line that was answered: the lines go on, or it asked to stop
abbrev pub IsOnward : Result (Unit {0}) Stop → Type 0
IsOnward (Ok x) = Unit {0}
IsOnward (Err stop.Asked) = Unit {0}
IsOnward (Err (stop.Fault f)) = ⊥
IsOnward (Err stop.Sink) = ⊥
IsOnward (Err stop.End) = ⊥
IsOnward (Err stop.Over) = ⊥
IsOnward (Err stop.Read) = ⊥

-- one line more was answered, and nothing is to be drained
abbrev pub past_it : State → Places
past_it s = λ σ. stand s [] [] σ.lines (σ.answered + 1)

-- the drain after a reply
abbrev pub DrainsAfter : Terms → State → (State → Type 0) → List Name → (Contents → Type 0) → Option (List ℕ) → Result (Unit {0}) Stop → Type 0
DrainsAfter t s holds prompted left u (Ok x) = Came t (after_reply s prompted) holds u u past_it
DrainsAfter t s holds prompted left u (Err (stop.Fault f)) = Faulted t (after_reply s prompted) f left u u
DrainsAfter t s holds prompted left u (Err stop.Sink) = ⊥
DrainsAfter t s holds prompted left u (Err stop.End) = ⊥
DrainsAfter t s holds prompted left u (Err stop.Asked) = Came t (after_reply s prompted) holds u u past_it
DrainsAfter t s holds prompted left u (Err stop.Over) = ⊥
DrainsAfter t s holds prompted left u (Err stop.Read) = ⊥

-- a reply was written, and then this holds
pub record Replied (said : Reply) (before : Option (List ℕ)) (P : Option (List ℕ) → Type 0) : Type 0 where
  pub middle : Option (List ℕ)
  pub written : Appends before middle (as_line (reply_text said))
  pub later : P middle

-- a reply, and the drain after it
abbrev pub RepliesAndDrains : Terms → State → (State → Type 0) → List Name → Reply → (Contents → Type 0) → Option (List ℕ) → Option (List ℕ) → Result (Unit {0}) Stop → Type 0
RepliesAndDrains t s holds prompted said left before now (Ok x) = Replied said before (λ middle. Came t (after_reply s prompted) holds middle now past_it)
RepliesAndDrains t s holds prompted said left before now (Err (stop.Fault f)) =
    ((f ≡ fault.NoMemory) × (now ≡ before) × left s.contents) ⊎ Replied said before (λ middle. Faulted t (after_reply s prompted) f left middle now)
RepliesAndDrains t s holds prompted said left before now (Err stop.Sink) = AppendsFront before now (as_line (reply_text said)) × left s.contents
RepliesAndDrains t s holds prompted said left before now (Err stop.End) = ⊥
RepliesAndDrains t s holds prompted said left before now (Err stop.Asked) = Replied said before (λ middle. Came t (after_reply s prompted) holds middle now past_it)
RepliesAndDrains t s holds prompted said left before now (Err stop.Over) = ⊥
RepliesAndDrains t s holds prompted said left before now (Err stop.Read) = ⊥

-- what one line leaves
abbrev pub AnswersLine : Terms → State → (State → Type 0) → Line → (Contents → Type 0) → Option (List ℕ) → Option (List ℕ) → Result (Unit {0}) Stop → Type 0
AnswersLine t s holds line left before now (Ok x) = Came t (at_line s line) holds before now past_it
AnswersLine t s holds line left before now (Err (stop.Fault f)) = Faulted t (at_line s line) f left before now
AnswersLine t s holds line left before now (Err stop.Sink) = CutInText t (at_line s line) left before now
AnswersLine t s holds line left before now (Err stop.Asked) = Came t (at_line s line) holds before now past_it
AnswersLine t s holds line left before now (Err stop.End) = ⊥
AnswersLine t s holds line left before now (Err stop.Over) = ⊥
AnswersLine t s holds line left before now (Err stop.Read) = ⊥

-- what comes of a line tells whether it asks to stop
abbrev pub TellsBy : Bool → Result (Unit {0}) Stop → Type 0
TellsBy asked (Ok x) = asked ≡ false
TellsBy asked (Err stop.Asked) = asked ≡ true
TellsBy asked (Err (stop.Fault f)) = Unit {0}
TellsBy asked (Err stop.Sink) = Unit {0}
TellsBy asked (Err stop.End) = Unit {0}
TellsBy asked (Err stop.Over) = Unit {0}
TellsBy asked (Err stop.Read) = Unit {0}

abbrev pub TellsStop : Rules → Line → Result (Unit {0}) Stop → Type 0
TellsStop rules line result = TellsBy (stops_lines rules line) result

-- the lines begin with one, of which this holds
pub record FirstOf (P : Line → Type 0) (lines : List Line) : Type 0 where
  pub line : Line
  pub rest : List Line
  pub parts : lines ≡ line ∷ rest
  pub of_it : P line

-- nothing was done
pub record Idle (s : State) (holds : State → Type 0) (before now : Option (List ℕ)) : Type 0 where
  pub held : holds s
  pub unwritten : now ≡ before

-- what the next line leaves, where these lines are to come, and then those
abbrev pub TakesTurn : Terms → State → (State → Type 0) → List Line → List Line → (Contents → Type 0) → Option (List ℕ) → Option (List ℕ) → Result (Unit {0}) Stop → Type 0
TakesTurn t s holds lines coming left before now (Ok x) = (line : Line) × (lines ≡ line ∷ coming) × (line ≡ over → ⊥) × (stops_lines t.rules line ≡ false) × Came t (at_line s line) holds before now past_it
TakesTurn t s holds lines coming left before now (Err stop.Asked) = (line : Line) × (lines ≡ line ∷ coming) × (line ≡ over → ⊥) × (stops_lines t.rules line ≡ true) × Came t (at_line s line) holds before now past_it
TakesTurn t s holds lines coming left before now (Err (stop.Fault f)) = ((f ≡ fault.NoMemory) × Idle s holds before now) ⊎ FirstOf (λ line. Faulted t (at_line s line) f left before now) lines
TakesTurn t s holds lines coming left before now (Err stop.Sink) = FirstOf (λ line. CutInText t (at_line s line) left before now) lines
TakesTurn t s holds lines coming left before now (Err stop.End) = (lines ≡ []) × Idle s holds before now
TakesTurn t s holds lines coming left before now (Err stop.Over) = (lines ≡ over ∷ []) × Idle s holds before now
TakesTurn t s holds lines coming left before now (Err stop.Read) = Idle s holds before now

-- a run over these lines, up to the first that asks to stop, and all leaders are prompted
abbrev pub whole : Terms → State → List Line → Places
whole t s lines = λ σ. stand s (leaders_in t.rules.pairs) [] (up_to_stop t.rules lines) 0

-- all lines but these were answered, and nothing is to be drained
abbrev pub served : List Line → ℕ → State → Places
served lines count s = λ σ. stand s [] [] lines count

-- none of these lines is over
abbrev pub NoneOver : List Line → Type 0
NoneOver [] = Unit {0}
NoneOver (line ∷ lines) = (line ≡ over → ⊥) × NoneOver lines

-- none of these lines asks to stop
abbrev pub NoneStops : Rules → List Line → Type 0
NoneStops rules [] = Unit {0}
NoneStops rules (line ∷ lines) = (stops_lines rules line ≡ false) × NoneStops rules lines

-- of some lines all but the rest were answered, whatever comes after them
pub record Answered (t : Terms) (s : State) (holds : State → Type 0) (lines rest : List Line) (count : ℕ) (before now : Option (List ℕ)) : Type 0 where
  pub taken : List Line
  pub parts : lines ≡ taken ++ rest
  pub counted : count ≡ length taken
  pub within : NoneOver taken
  pub going : NoneStops t.rules taken
  pub state : State
  pub steps : List Step
  pub held : holds state
  pub goes : (more : List Line) (openings : Histories) → Goes t.rules t.options openings (stand s (leaders_in t.rules.pairs) [] (taken ++ more) 0) (stand state [] [] more count) steps
  pub written : Appends before now (written_by steps)

-- the opening drain came from the first state to the second
pub record Begun (t : Terms) (s next : State) (before now : Option (List ℕ)) : Type 0 where
  pub steps : List Step
  pub goes : (more : List Line) (openings : Histories) → Goes t.rules t.options openings (stand s (leaders_in t.rules.pairs) [] more 0) (stand next [] [] more 0) steps
  pub written : Appends before now (written_by steps)

-- what serving all lines leaves, by why it stopped
abbrev pub Serves : Terms → State → (State → Type 0) → List Line → Stop → ℕ → (Contents → Type 0) → Option (List ℕ) → Option (List ℕ) → Type 0
Serves t s holds lines stop.End count left before now = Came t (whole t s lines) holds before now (served [] count)
Serves t s holds lines stop.Asked count left before now = Came t (whole t s lines) holds before now (served [] (count + 1))
Serves t s holds lines stop.Over count left before now = Ended t (whole t s lines) left before now end.Over
Serves t s holds lines (stop.Fault f) count left before now = Faulted t (whole t s lines) f left before now
Serves t s holds lines stop.Read count left before now = (rest : List Line) × Answered t s holds lines rest count before now
Serves t s holds lines stop.Sink count left before now = CutInText t (whole t s lines) left before now
