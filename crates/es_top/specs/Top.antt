-- What the top call promises.
use Rattle.std.specs.Prelude.{◌≡◌, ◌⊎◌, ◌≤◌, ℕ, List, [], ◌++◌, length, Contains, Option, Some, None, Ok}
use Rattle.std.specs.declared.alloc.Global.{Global}
use Rattle.std.specs.Prelude.{String}
use Rattle.std.specs.Io.KnownBytes.{Appends}
use Rattle.es_model.specs.declared.declaration.System.{System}
use Rattle.es_model.specs.declared.snapshot.Snapshot.{Snapshot}
use Rattle.es_model.specs.History.{Histories}
use Rattle.es_model.specs.Values.{Name}
use Rattle.es_io.specs.Documents.{NamedDocuments}
use Rattle.es_io.specs.Readings.{Readings}
use Rattle.es_lines.specs.declared.ends.End.{End}
use Rattle.es_lines.specs.declared.ends.End.TheVariants as end
use Rattle.es_lines.specs.Texts.{end_text}
use Rattle.es_process.specs.declared.ahead.Ahead.{Ahead}
use Rattle.es_process.specs.Consistent.{IsConsistent}
use Rattle.es_process.specs.Contents.{Contents}
use Rattle.es_process.specs.Reached.{IsReached, tracked_of, last_of}
use Rattle.es_process.specs.Session.{IsSession, writes_in}
use Rattle.es_process.specs.SingleThread.{Step, Run, added_counts, left_by, written_by, as_line}
use Rattle.es_process.specs.Standing.{IsFrontOf}
use Rattle.es_process.specs.SystemRules.{rules_of}
use Rattle.es_top.specs.Limits.{limits, terms_of, lines_for}
use Rattle.es_top.specs.Runs.{IsRunOf, ReadTo}
use Rattle.es_top.specs.declared.status.Status.{Status}
use Rattle.es_top.specs.declared.status.Status.TheVariants as status
use Rattle.es_top.specs.Declares.{declares}
use Rattle.es_top.specs.Sorts.{Sort, itself, stopped, in_lines, unbegun, sort_of}
use Rattle.es_top.specs.Ends.{ended, code_of, IsStopped}

-- the first steps of the run of an input were made, and then this tail was written; `left` says what is held
pub record Made (sys : System) (input : List ℕ) (readings : Readings) (opening : Contents) (left : Contents → Type 0) (before now : Option (List ℕ)) (tail : List ℕ) : Type 0 where
  pub run : Run
  pub done : List Step
  pub rest : List Step
  pub is : IsRunOf (terms_of sys) input readings opening run
  pub parts : run.steps ≡ done ++ rest
  pub held : left (left_by done opening)
  pub written : Appends before now (written_by done ++ tail)

-- after which steps of a run an end may come, of which bytes these are left, and by what had to fail in the lines, the stores or the document
module _ (lines stores document : Type 0) (sys : System) (input unread : List ℕ) (readings : Readings) (opening : Contents) (run : Run) (done rest : List Step) where
  -- a run's own end after all its steps; want of memory after any, and a recorder's failing likewise; a failed reading after all steps of the lines that were taken whole; that its document couldn't be read, after none
  abbrev pub FollowsBy : Sort → End → Type 0
  FollowsBy itself e = (rest ≡ []) × (run.end ≡ e)
  FollowsBy stopped e = e ≡ end.Recorder → stores
  FollowsBy in_lines e = lines × ReadTo (terms_of sys) input readings opening (Some unread) done
  FollowsBy unbegun e = (e ≡ end.System) × document × (done ≡ [])

  abbrev pub Follows : End → Type 0
  Follows e = FollowsBy (sort_of e) e

  -- the line of the end that a status tells comes last; of a failed sink it is a front of the one text that would have come next: the next of the run, or the line of an end
  abbrev pub Closes : List ℕ → Option End → Type 0
  Closes tail (Some e) = (tail ≡ as_line (end_text e)) × Follows e
  Closes tail None = IsFrontOf tail rest ⊎ ((e : End) × (more : List ℕ) × Follows e × (as_line (end_text e) ≡ tail ++ more))

-- a run that ended well: each follower has reached its leaders' last notifications, all lines were answered, up to the first that asks to stop, and the end line counts them and the recordings
pub record IsDone (sys : System) (input : List ℕ) (openings histories : Histories) (added : List (Name × ℕ)) (count : ℕ) : Type 0 where
  pub reached : IsReached (rules_of sys).pairs histories
  pub all : count ≡ length (lines_for (rules_of sys) input)
  pub counts : added ≡ added_counts (rules_of sys).names openings histories

-- the stores tell what the applications keep: their histories and their snapshots
pub record StoresTell (c : Contents) (held : Option Histories) (kept : Option (Name → List Snapshot)) : Type 0 where
  pub histories : held ≡ Some c.histories
  pub snapshots : kept ≡ Some c.snapshots

-- what a call leaves that runs a system over an input, readings and what the stores held: first steps of the run and what comes after them, by the status; a session over histories that are consistent over the opening ones; and all of the run where it ended well
pub record Ran (lines stores document : Type 0) (sys : System) (input unread : List ℕ) (readings : Readings) (opening : Contents) (held : Option Histories) (kept : Option (Name → List Snapshot)) (before now : Option (List ℕ)) (s : Status) : Type 0 where
  pub tail : List ℕ
  pub made : Made sys input readings opening (λ c. StoresTell c held kept) before now tail
  pub closes : Closes lines stores document sys input unread readings opening made.run made.done made.rest tail (ended s)
  pub consistent : IsConsistent (rules_of sys) opening.histories (left_by made.done opening).histories
  pub session : IsSession (rules_of sys) limits opening (left_by made.done opening).histories readings (lines_for (rules_of sys) input) (writes_in made.done) (written_by made.done) (code_of s)
  pub well : (added : List (Name × ℕ)) (count : ℕ) → s ≡ status.Ok added count → IsDone sys input opening.histories (left_by made.done opening).histories added count

-- where the words ask for a system, the sample or what a document declares that is told, and the stores are told
abbrev pub WhereDeclared : Option NamedDocuments → List (String Global) → Option Histories → Option (Name → List Snapshot) → (System → Contents → Type 0) → Type 0
WhereDeclared documents words held kept P = (sys : System) (opening : Contents) → declares documents words ≡ Some (Ok sys) → StoresTell opening held kept → P sys opening

-- the stores hold histories that are consistent over the openings: each recording follows from a line or from a leader's notification, each notification once and in order, and no two recordings cause each other
pub record LeavesConsistent (sys : System) (openings : Histories) (held : Option Histories) : Type 0 where
  pub histories : Histories
  pub stores : held ≡ Some histories
  pub consistent : IsConsistent (rules_of sys) openings histories

-- the follower of each pair tracks no more than what is stable of its leader has
abbrev pub AreWithin : List (Name × Name) → Histories → Histories → Type 0
AreWithin pairs histories stable = (p : Name × Name) → Contains pairs p → tracked_of histories p ≤ last_of stable p

-- the stores tell histories of which this holds, and what is stable of them
pub record LeaveWithin (pairs : List (Name × Name)) (held stable : Option Histories) : Type 0 where
  pub histories : Histories
  pub fronts : Histories
  pub stores : held ≡ Some histories
  pub surely : stable ≡ Some fronts
  pub within : AreWithin pairs histories fronts

-- where no follower tracked more than what was stable of its leader had, none does so now; stated of what the stores held, what of it was stable and their snapshots, and of what they hold now
abbrev pub Restarts : List (Name × Name) → Option Histories → Option Histories → Option (Name → List Snapshot) → Option Histories → Option Histories → Type 0
Restarts pairs held stable kept held_now stable_now = (opening : Contents) (fronts : Histories) → StoresTell opening held kept → stable ≡ Some fronts → AreWithin pairs opening.histories fronts → LeaveWithin pairs held_now stable_now

-- where a follower is ahead of its leader at the opening the status is that end, with this pair and both numbers, or that of want of memory, or of a document, a sink or a recorder that failed; and where none is ahead it isn't that end
abbrev pub AheadExactly : Option Ahead → Status → Type 0
AheadExactly (Some a) s = (s ≡ status.Ahead a.app a.leader a.tracked a.last) ⊎ (IsStopped s ⊎ (s ≡ status.Recorder))
AheadExactly None s = (a : Ahead) → s ≡ status.Ahead a.app a.leader a.tracked a.last → ⊥

-- what the stores hold at each name is as it was, where it is told
abbrev pub IsLeft : {A : Type 0} → Option (Name → A) → Option (Name → A) → Type 0
IsLeft None new = Unit {0}
IsLeft (Some h) new = new ≡ Some h
