-- What the parts of a drain leave.
use Rattle.std.specs.Prelude.{◌≡◌, ◌≤◌, ◌+◌, ◌*◌, ◌-◌, ℕ, nat_eq, nat_le, nat_lt, if◌then◌else◌, not, ◌&&◌, Some, None, Bool, true, false, List, [], ◌∷◌, ◌++◌, map, length, Option, Result, Ok, Err}
use Rattle.std.specs.List.{list_any}
use Rattle.es_model.specs.declared.event.Notification.{Notification}
use Rattle.es_model.specs.History.{Histories, log}
use Rattle.es_model.specs.Tracking.{tracked_in}
use Rattle.es_model.specs.Values.{Name}
use Rattle.es_process.specs.declared.application.Application.{Application}
use Rattle.es_process.specs.declared.pairs.Pair.{Pair}
use Rattle.es_process.specs.declared.faults.RunFault.{RunFault}
use Rattle.es_process.specs.declared.ahead.Ahead.{Ahead}
use Rattle.es_process.specs.Contents.{Contents}
use Rattle.es_process.specs.Drains.{ArePrompted, names_of_pair}
use Rattle.es_process.specs.Reached.{tracked_of, last_of}
use Rattle.es_process.specs.SingleThread.{led_by}
use Rattle.es_process.specs.Standing.{State, Places, standing, Came, Faulted, IsNextAfter}
use Rattle.es_process.specs.Terms.{Terms}

-- how many notifications an application may still record in this run
abbrev pub left_in : {R : Type 0} → Application R → ℕ
left_in a = a.turns - a.used

-- how many all of them together may
abbrev pub all_left : {R : Type 0} → List (Application R) → ℕ
all_left [] = 0
all_left (a ∷ apps) = left_in a + all_left apps

-- each turn that was taken prompts one application at most
abbrev pub Spends : {R : Type 0} → List (Application R) → List (Application R) → List ℕ → List ℕ → Type 0
Spends old new queue later = all_left new * 2 + length later ≤ all_left old * 2 + length queue

-- a pair's follower, which leads another application, is put after the places that are prompted, unless it is there
abbrev pub with_follower : Pair → List ℕ → List ℕ
with_follower p queue = if p.leads_on && not (list_any (λ place. nat_eq place p.follower) queue) then queue ++ p.follower ∷ [] else queue

-- the same where a recording has an event, whose ids are these from the first to the last
abbrev pub prompted_after : Pair → List ℕ → ℕ → ℕ → List ℕ
prompted_after p queue first last = if nat_le first last then with_follower p queue else queue

-- the entry that comes next for a follower in its leader's log, with its id, or that there is none
abbrev pub FindsNext : State → Pair → Option Notification → Type 0
FindsNext s p found = IsNextAfter (log (s.contents.histories p.leader_name)) (tracked_in (s.contents.histories p.follower_name) p.leader_name) found

-- the follower is still to be tried after its leader, and then these pairs
abbrev pub trying : State → Pair → List Name → List (Name × Name) → Places
trying s p prompted rest = standing s prompted (names_of_pair p ∷ rest)

-- from a place the run came to where those at some places are prompted, and these pairs are to be tried
abbrev pub CameTo : Terms → Places → (State → Type 0) → List Name → List ℕ → Option (List ℕ) → (State → List Name → Places) → Type 0
CameTo t at holds names queue u next = (prompted : List Name) × ArePrompted names queue prompted × Came t at holds u u (λ s. next s prompted)

-- the run came to where the pair is tried again, or to where it is done with (that a notification was recorded is told by how many were)
abbrev pub FollowsOne : Terms → State → Pair → (State → Type 0) → (Contents → Type 0) → List Name → List Name → List ℕ → List (Name × Name) → Option (List ℕ) → Result Bool RunFault → Type 0
FollowsOne t s p holds left names prompted queue rest u (Ok true) = CameTo t (trying s p prompted rest) holds names queue u (λ next later. trying next p later rest)
FollowsOne t s p holds left names prompted queue rest u (Ok false) = CameTo t (trying s p prompted rest) holds names queue u (λ next later. standing next later rest)
FollowsOne t s p holds left names prompted queue rest u (Err f) = Faulted t (trying s p prompted rest) f left u u

-- the run came past this pair: no notification of the leader is left for the follower
abbrev pub FollowsAll : Terms → State → Pair → (State → Type 0) → (Contents → Type 0) → List Name → List Name → List ℕ → List (Name × Name) → Option (List ℕ) → Result (Unit {0}) RunFault → Type 0
FollowsAll t s p holds left names prompted queue rest u (Ok x) = CameTo t (trying s p prompted rest) holds names queue u (λ next later. standing next later rest)
FollowsAll t s p holds left names prompted queue rest u (Err f) = Faulted t (trying s p prompted rest) f left u u

-- the run came past this pair, if it is of the leader, to those of the leader after it
abbrev pub FollowsLed : Terms → State → Pair → Name → (State → Type 0) → (Contents → Type 0) → List Name → List Name → List ℕ → List (Name × Name) → Option (List ℕ) → Result (Unit {0}) RunFault → Type 0
FollowsLed t s p leader holds left names prompted queue rest u (Ok x) = CameTo t (standing s prompted (led_by (names_of_pair p ∷ rest) leader)) holds names queue u (λ next later. standing next later (led_by rest leader))
FollowsLed t s p leader holds left names prompted queue rest u (Err f) = Faulted t (standing s prompted (led_by (names_of_pair p ∷ rest) leader)) f left u u

-- of these pairs those of one leader are done with
abbrev pub FollowsEach : Terms → State → List Pair → Name → (State → Type 0) → (Contents → Type 0) → List Name → List Name → List ℕ → Option (List ℕ) → Result (Unit {0}) RunFault → Type 0
FollowsEach t s ps leader holds left names prompted queue u (Ok x) = CameTo t (standing s prompted (led_by (map names_of_pair ps) leader)) holds names queue u (λ next later. standing next later [])
FollowsEach t s ps leader holds left names prompted queue u (Err f) = Faulted t (standing s prompted (led_by (map names_of_pair ps) leader)) f left u u

-- how far the follower of a pair has come with its leader, and how far the leader has
abbrev pub AreNumbers : Histories → Name × Name → ℕ × ℕ → Type 0
AreNumbers histories p n = (n.0 ≡ tracked_of histories p) × (n.1 ≡ last_of histories p)

-- the follower of a pair is ahead, where it tracks more than there is
abbrev pub ahead_by : Name × Name → ℕ → ℕ → Option Ahead
ahead_by p tracked last = if nat_lt last tracked then Some (record { app = p.1; leader = p.0; tracked = tracked; last = last }) else None
