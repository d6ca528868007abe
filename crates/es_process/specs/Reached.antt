-- How far followers have come with their leaders' notifications.
use Rattle.std.specs.Prelude.{◌≡◌, ℕ, nat_lt, List, [], ◌∷◌, length, Contains, if◌then◌else◌, Option, Some, None}
use Rattle.es_model.specs.History.{Histories, log}
use Rattle.es_model.specs.Tracking.{tracked_in}
use Rattle.es_model.specs.Values.{Name}
use Rattle.es_process.specs.declared.ahead.Ahead.{Ahead}

-- the last notification of a leader that a follower tracks, and the last one that there is
abbrev pub tracked_of : Histories → Name × Name → ℕ
tracked_of histories p = tracked_in (histories p.1) p.0

abbrev pub last_of : Histories → Name × Name → ℕ
last_of histories p = length (log (histories p.0))

-- the follower of each pair has reached its leader's last notification
abbrev pub IsReached : List (Name × Name) → Histories → Type 0
IsReached pairs histories = (p : Name × Name) → Contains pairs p → tracked_of histories p ≡ last_of histories p

-- the first pair whose follower tracks a notification past its leader's last one, in the order of pairs, with both numbers
abbrev pub ahead : List (Name × Name) → Histories → Option Ahead
ahead [] histories = None
ahead (p ∷ pairs) histories =
    if nat_lt (last_of histories p) (tracked_of histories p)
    then Some (record { app = p.1; leader = p.0; tracked = tracked_of histories p; last = last_of histories p })
    else ahead pairs histories
