-- Whom a runner prompts.
use Rattle.std.specs.Prelude.{◌≡◌, ℕ, Bool, true, false, List, [], ◌∷◌, if◌then◌else◌, Option, Some, None, Result, Ok, Err, slice_get}
use Rattle.es_model.specs.declared.declaration.System.{System}
use Rattle.es_model.specs.Values.{Name}
use Rattle.es_lines.specs.Requests.{app_asked}
use Rattle.es_lines.specs.declared.replies.Reply.{Reply}
use Rattle.es_lines.specs.declared.replies.Reply.TheVariants as reply
use Rattle.es_lines.specs.declared.request.Request.{Request}
use Rattle.es_lines.specs.declared.request.Request.TheVariants.{Do, Get, Log, Tracking, Snapshot, Sync, Stop}
use Rattle.es_process.specs.declared.faults.RunFault.{RunFault}
use Rattle.es_process.specs.Drains.{ArePrompted}
use Rattle.es_process.specs.Standing.{State}
use Rattle.es_single.specs.declared.runner.SingleRunner.{SingleRunner}
use Rattle.es_single.specs.Answers.{IsAsked}
use Rattle.es_single.specs.Runner.{apps_of, system_of}

-- a reply accepts a command
abbrev pub is_accepted : Reply → Bool
is_accepted (reply.Accepted recording first last version) = true
is_accepted said = false

-- whom a reply prompts: an accepted command its application, and any other nobody
abbrev pub prompted_by : {A : Type 0} → Reply → A → List A
prompted_by said app = if is_accepted said then app ∷ [] else []

-- where the application at a place stands in the queue after its answer
abbrev pub places_after : Result Reply RunFault → ℕ → List ℕ
places_after (Ok said) place = prompted_by said place
places_after (Err f) place = []

-- the reply to a line of one word
abbrev pub word_reply : Request → Option Reply
word_reply Sync = Some reply.Sync
word_reply Stop = Some reply.Stop
word_reply (Do app c) = None
word_reply (Get app id version) = None
word_reply (Log app section) = None
word_reply (Tracking app leader) = None
word_reply (Snapshot app id) = None

-- some line asks this of the application at this place
pub record IsAskedAt (sys : System) (names : List Name) (place : ℕ) (r : Request) : Type 0 where
  pub app : Name
  pub about : app_asked r ≡ Some app
  pub there : slice_get names place ≡ Some app
  pub asked : IsAsked sys r

-- a state is held, and the leaders that are prompted stand at these places
pub record HoldsAfter (holds : State → Type 0) (names : List Name) (places : List ℕ) (s : State) (prompted : List Name) : Type 0 where
  pub held : holds s
  pub prompts : ArePrompted names places prompted

-- nothing but the queue was changed
pub record HasPrompted {R : Type 0} (old new : SingleRunner R) : Type 0 where
  pub system : system_of new ≡ system_of old
  pub applications : apps_of new ≡ apps_of old
  pub pairs : new.pairs.items ≡ old.pairs.items
