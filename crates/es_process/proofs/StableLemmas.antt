-- What followers track of what is stable of their leaders.
use Rattle.std.proofs.Common.{◌≡◌, ◌≤◌, ℕ, Bool, true, false, List, [], ◌∷◌, ◌++◌, length, Option, Some, None, Result, Ok, Err, if◌then◌else◌, refl, sym, ap, subst, length-append, arith}
use Rattle.std.specs.Str.{bytes_eq}
use Rattle.es_model.specs.declared.event.Recording.{Recording}
use Rattle.es_model.specs.declared.event.Cause.{Cause}
use Rattle.es_model.specs.declared.event.Cause.TheVariants.{Command, Notification}
use Rattle.es_model.specs.declared.memory.CallFault.{CallFault}
use Rattle.es_model.specs.declared.memory.CallFault.TheVariants as call
use Rattle.es_model.specs.History.{Histories, log}
use Rattle.es_model.specs.Tracking.{tracked_in, id_from}
use Rattle.es_model.specs.Values.{Name}
use Rattle.es_model.proofs.HistoryLemmas.{log-append}
use Rattle.es_recorder.specs.Held.{put}
use Rattle.es_recorder.specs.Stable.{IsPrefix, GrowsTold, KeepsStable}
use Rattle.es_process.specs.Standing.{TracksWithin, StayWithin, HasStable}
use Rattle.es_process.proofs.AmongLemmas.{same-name, put-cases}
use Rattle.es_process.proofs.FollowsLemmas.{Grows, tracked_in-push}

-- a log that goes on is no shorter
pub last-grows : (old new : List Recording) → IsPrefix old new → length (log old) ≤ length (log new)
last-grows old new so = omega (arith, ap (λ h. length (log h)) so.1, ap length (log-append old so.0), length-append (log old) (log so.0))

-- what is stable has as many notifications once it has grown
pub has-grown : (old new : Option (List Recording)) (id : ℕ) → GrowsTold old new → HasStable old id → HasStable new id
has-grown None new id grows has = absurd has
has-grown (Some h) None id grows has = absurd grows
has-grown (Some h) (Some k) id grows has = omega (arith, has, last-grows h k grows)

-- and after a call that adds nothing
pub has-kept : {T : Type 0} (old new : Option (List Recording)) (id : ℕ) (result : Result T CallFault) → KeepsStable old new result → HasStable old id → HasStable new id
has-kept old new id (Ok x) keeps has = subst (λ o. HasStable o id) (sym keeps) has
has-kept old new id (Err call.Failed) keeps has = has-grown old new id keeps has
has-kept old new id (Err call.NoMemory) keeps has = subst (λ o. HasStable o id) (sym keeps) has

-- whoever tracked no more than there was at the opening tracks in the second no more than the first has
abbrev pub TrackFrom : Histories → Histories → Histories → Type 0
TrackFrom openings old new = (leader follower : Name) → (leader ≡ follower → ⊥) → TracksWithin openings leader follower → tracked_in (new follower) leader ≤ length (log (old leader))

-- what a cause tracks of each leader is there
abbrev pub IsThere : Histories → Cause → Type 0
IsThere h cause = (leader : Name) → id_from cause leader ≤ length (log (h leader))

-- a command tracks nothing
pub command-there : (h : Histories) (cause : Cause) (text : List ℕ) → cause ≡ Command text → IsThere h cause
command-there h cause text is leader = omega (arith, ap (λ c. id_from c leader) is)

-- a notification tracks what is there
pub notification-there : (h : Histories) (cause : Cause) (leader : Name) (id : ℕ) → cause ≡ Notification leader id → id ≤ length (log (h leader)) → IsThere h cause
notification-there h cause leader id is there n = omega (arith, ap (λ c. id_from c n) is, by (bytes_eq leader n) (same-name leader n))
  where
    by : (b : Bool) → (b ≡ true → leader ≡ n) → (if b then id else 0) ≤ length (log (h n))
    by true same = subst (λ m. id ≤ length (log (h m))) (same refl) there
    by false same = omega arith

-- where somebody adds a recording whose cause tracks what is there
module _ (openings h : Histories) (app : Name) (r : Recording) (within : StayWithin openings h) (there : IsThere h r.cause) where
  pub track-added : TrackFrom openings h (put h app (h app ++ r ∷ []))
  track-added leader follower differ was =
      put-cases (λ n x. tracked_in (h n) leader ≤ length (log (h leader)) → tracked_in x leader ≤ length (log (h leader))) h app (h app ++ r ∷ []) follower
      (λ old. omega (arith, old, tracked_in-push (h app) r leader, there leader)) (λ other old. old) (within leader follower differ was)

-- nobody has come ahead where all logs went on
pub within-grown : (openings old new : Histories) → TrackFrom openings old new → Grows old new → StayWithin openings new
within-grown openings old new track grow leader follower differ was = omega (arith, track leader follower differ was, last-grows (old leader) (new leader) (grow leader))
