-- The laws: of worlds and what they answer, of numbered recordings, of histories that are joined, and of images. Their proofs are in WorldLaws, AnswerLaws, RankLaws, JoinLaws and ImageLaws.
use Rattle.std.specs.Prelude.{◌≡◌, ◌≤◌, ◌<◌, ◌⊎◌, ℕ, suc, true, List, [], ◌∷◌, ◌++◌, length, take, slice_get, Contains, Some, None}
use Rattle.es_model.specs.declared.event.Recording.{Recording}
use Rattle.es_model.specs.declared.event.Cause.{Cause}
use Rattle.es_model.specs.declared.event.Cause.TheVariants.{Command, Notification}
use Rattle.es_model.specs.History.{Histories, log}
use Rattle.es_model.specs.Tracking.{tracked_in}
use Rattle.es_model.specs.Values.{Name}
use Rattle.es_model.specs.declared.declaration.System.{System}
use Rattle.es_recorder.specs.Stable.{IsPrefix}
use Rattle.es_process.specs.Consistent.{IsGrounded, IsConsistent}
use Rattle.es_process.specs.Decision.{Rules}
use Rattle.es_process.specs.Reached.{tracked_of, last_of, ahead}
use Rattle.es_process.specs.SystemRules.{rules_of}
use Rattle.es_process.specs.inner.Lawful.{IsLawful}
use Rattle.es_world.specs.Answers.{made}
use Rattle.es_world.specs.Steps.{left_after}
use Rattle.es_world.specs.World.{World, opened, Steps, Runs}
use Rattle.es_world.specs.declared.steps.WorldStep.{WorldStep}

-- ---- worlds

-- the doubtful recording of an application that is down is the last of its history and none of the opening; and where the openings aren't ahead, no follower tracks a notification of it
pub record IsInDoubt (rules : Rules) (openings : Histories) (w : World) (app : Name) : Type 0 where
  pub before : List Recording
  pub doubtful : Recording
  pub last : w.histories app ≡ before ++ doubtful ∷ []
  pub added : IsPrefix (openings app) before
  pub untracked : ahead rules.pairs openings ≡ None → (follower : Name) → Contains rules.pairs (app, follower) → tracked_in (w.histories follower) app ≤ length (log before)

-- a world is kept well from its openings: its histories are consistent, and who is down has such a doubtful recording
pub record IsKept (rules : Rules) (openings : Histories) (w : World) : Type 0 where
  pub consistent : IsConsistent rules openings w.histories
  pub doubts : (app : Name) → w.down app ≡ true → IsInDoubt rules openings w app

-- the world law: from any openings, every list of steps leads to a world that is kept well
abbrev pub WorldLaw : Type 0
WorldLaw = (rules : Rules) → IsLawful rules → (openings : Histories) (steps : List WorldStep) (w : World) → Runs rules (opened openings) steps w → IsKept rules openings w

-- what a step of a declared system answers leaves a world that the step makes
abbrev pub AnswerLaw : Type 0
AnswerLaw = (sys : System) (w : World) (s : WorldStep) → Steps (rules_of sys) w s (made sys w s).left

-- to what a list of steps leaves, the steps lead
abbrev pub RunLaw : Type 0
RunLaw = (sys : System) (w : World) (steps : List WorldStep) → Runs (rules_of sys) w steps (left_after sys w steps)

-- ---- numbered recordings

-- the recording at a place of a history holds a notification
abbrev pub IsHeldAt : List Recording → ℕ → ℕ → Type 0
IsHeldAt history id place = (length (log (take place history)) < id) × (id ≤ length (log (take (suc place) history)))

-- a notification that is a cause is there, and the recording that holds it is one of the opening, or has a number below that of the recording which it caused
abbrev pub IsCausedBelow : List Name → Histories → Histories → (Name → ℕ → ℕ) → ℕ → Cause → Type 0
IsCausedBelow names openings histories number caused (Command asked) = Unit {0}
IsCausedBelow names openings histories number caused (Notification leader id) =
    Contains names leader × (id ≤ length (log (histories leader)))
    × ((place : ℕ) → IsHeldAt (histories leader) id place → (place < length (openings leader)) ⊎ (number leader place < caused))

-- the recordings of each history after its opening are numbered by their places: the numbers rise, and each is above that of the recording which holds its cause
pub record AreNumbered (names : List Name) (openings histories : Histories) (number : Name → ℕ → ℕ) : Type 0 where
  pub begins : (app : Name) → Contains names app → IsPrefix (openings app) (histories app)
  pub rises : (app : Name) → Contains names app → (place later : ℕ) → length (openings app) ≤ place → place < later → later < length (histories app) → number app place < number app later
  pub causes : (app : Name) → Contains names app → (place : ℕ) (r : Recording) → length (openings app) ≤ place → slice_get (histories app) place ≡ Some r → IsCausedBelow names openings histories number (number app place) r.cause

-- the law on ranks: histories whose recordings are so numbered are grounded over their openings
abbrev pub RankLaw : Type 0
RankLaw = (names : List Name) (openings histories : Histories) (number : Name → ℕ → ℕ) → AreNumbered names openings histories number → IsGrounded names openings histories

-- ---- histories that are joined

-- each history lies between two others: it begins with the first, and the second begins with it
abbrev pub AreBetween : List Name → Histories → Histories → Histories → Type 0
AreBetween names first middle second = (app : Name) → Contains names app → IsPrefix (first app) (middle app) × IsPrefix (middle app) (second app)

-- the law on joins: what is consistent over an image that lies between openings and histories consistent over them, and isn't ahead, is consistent over the openings
abbrev pub JoinLaw : Type 0
JoinLaw = (rules : Rules) → IsLawful rules → (openings image histories later : Histories)
    → IsConsistent rules openings histories → ahead rules.pairs image ≡ None → AreBetween rules.names openings image histories
    → IsConsistent rules image later → IsConsistent rules openings later

-- ---- images

-- the law on images: where no follower tracks a notification past those of its leader that are stable, images that lie between what is stable and what is held aren't ahead
abbrev pub ImageLaw : Type 0
ImageLaw = (pairs : List (Name × Name)) (histories stable image : Histories)
    → ((p : Name × Name) → Contains pairs p → tracked_of histories p ≤ last_of stable p)
    → ((app : Name) → IsPrefix (stable app) (image app) × IsPrefix (image app) (histories app))
    → ahead pairs image ≡ None
