-- The law on images: what lies between what is stable and what is held isn't ahead.
use Rattle.std.proofs.Common.{◌≡◌, ◌≤◌, ◌<◌, ℕ, nat_lt, Bool, true, false, List, [], ◌∷◌, length, Contains, if◌then◌else◌, Option, Some, None, refl, ap, ltb-true, length-append, arith}
use Rattle.es_model.specs.declared.event.Recording.{Recording}
use Rattle.es_model.specs.History.{Histories, log}
use Rattle.es_model.specs.Tracking.{tracked_in}
use Rattle.es_model.specs.Values.{Name}
use Rattle.es_model.proofs.HistoryLemmas.{log-append}
use Rattle.es_recorder.specs.Stable.{IsPrefix}
use Rattle.es_process.specs.Reached.{tracked_of, last_of, ahead}
use Rattle.es_process.proofs.AmongLemmas.{contains-here, contains-later}
use Rattle.es_process.proofs.FollowsLemmas.{tracked_in-append}
use Rattle.es_world.specs.Laws.{ImageLaw}

-- a longer history has no shorter log
pub longer_log : (front whole : List Recording) → IsPrefix front whole → length (log front) ≤ length (log whole)
longer_log front whole goes = omega (arith, ap (λ h. length (log h)) goes.1, ap length (log-append front goes.0), length-append (log front) (log goes.0))

-- and tracks no leader less far
pub tracked_further : (front whole : List Recording) (leader : Name) → IsPrefix front whole → tracked_in front leader ≤ tracked_in whole leader
tracked_further front whole leader goes = omega (arith, ap (λ h. tracked_in h leader) goes.1, tracked_in-append front goes.0 leader)

-- a pair whose follower isn't past its leader's last notification is passed by
passed : {A : Type 0} (last tracked : ℕ) (past : Bool) (x : A) (o : Option A) → nat_lt last tracked ≡ past → tracked ≤ last → o ≡ None → (if past then Some x else o) ≡ None
passed last tracked true x o is within later = let less : last < tracked = ltb-true last tracked is in absurd (omega (arith, less, within))
passed last tracked false x o is within later = later

-- where no follower tracks past its leader's last notification, nothing is ahead
pub ahead_none : (pairs : List (Name × Name)) (h : Histories) → ((p : Name × Name) → Contains pairs p → tracked_of h p ≤ last_of h p) → ahead pairs h ≡ None
ahead_none [] h within = refl
ahead_none (p ∷ pairs) h within =
    passed (last_of h p) (tracked_of h p) (nat_lt (last_of h p) (tracked_of h p)) (record { app = p.1; leader = p.0; tracked = tracked_of h p; last = last_of h p }) (ahead pairs h) refl
    (within p (contains-here p pairs)) (ahead_none pairs h (λ q so. within q (contains-later p pairs q so)))

-- of each pair the leader's image has what is stable, and the follower's is a part of what is held
pub images_not_ahead : (pairs : List (Name × Name)) (histories stable image : Histories)
    → ((p : Name × Name) → Contains pairs p → tracked_of histories p ≤ last_of stable p)
    → ((p : Name × Name) → Contains pairs p → IsPrefix (stable p.0) (image p.0) × IsPrefix (image p.1) (histories p.1))
    → ahead pairs image ≡ None
images_not_ahead pairs histories stable image within between = ahead_none pairs image (λ p so.
    omega (arith, within p so, longer_log (stable p.0) (image p.0) (between p so).0, tracked_further (image p.1) (histories p.1) p.0 (between p so).1))

pub law_images : ImageLaw
law_images pairs histories stable image within between = images_not_ahead pairs histories stable image within (λ p so. ((between p.0).0, (between p.1).1))
