-- The pairs of a system at their places, and what a drain leaves.
use Rattle.std.specs.Prelude.{◌≡◌, ℕ, slice_get, map, Contains, Some, List, [], Option, Result, Ok, Err}
use Rattle.es_model.specs.declared.declaration.System.{System}
use Rattle.es_process.specs.Contents.{Contents}
use Rattle.es_model.specs.Values.{Name}
use Rattle.es_expr.specs.Checked.{IsCheckedSystem}
use Rattle.es_decl.specs.Pairs.{leaders_in, pairs_of}
use Rattle.es_process.specs.declared.pairs.Pair.{Pair}
use Rattle.es_process.specs.declared.faults.RunFault.{RunFault}
use Rattle.es_process.specs.SingleThread.{is_among}
use Rattle.es_process.specs.SystemRules.{app_names}
use Rattle.es_process.specs.Standing.{State, standing, Came, Faulted, AreDistinct}
use Rattle.es_process.specs.Terms.{Terms}

-- a leader and its follower stand at these places, and are not one
pub record IsPlaced (names : List Name) (p : Pair) : Type 0 where
  pub leader : slice_get names p.leader ≡ Some p.leader_name
  pub follower : slice_get names p.follower ≡ Some p.follower_name
  pub apart : p.leader_name ≡ p.follower_name → ⊥

-- the applications of these names are those of the system, in its order
pub record AreApps (sys : System) (names : List Name) : Type 0 where
  pub checked : IsCheckedSystem sys
  pub named : names ≡ app_names sys
  pub distinct : AreDistinct names

-- and this is one of its pairs, which says whether its follower leads another application
pub record IsPairOf (sys : System) (names : List Name) (p : Pair) : Type 0 where
  pub apps : AreApps sys names
  pub placed : IsPlaced names p
  pub pair : Contains (pairs_of sys.pipes) (p.leader_name, p.follower_name)
  pub leads_on : p.leads_on ≡ is_among p.follower_name (leaders_in (pairs_of sys.pipes))

abbrev pub names_of_pair : Pair → Name × Name
names_of_pair p = (p.leader_name, p.follower_name)

-- these are all its pairs, in their order
pub record ArePairs (sys : System) (names : List Name) (ps : List Pair) : Type 0 where
  pub apps : AreApps sys names
  pub all : map names_of_pair ps ≡ pairs_of sys.pipes
  pub each : (i : ℕ) (p : Pair) → slice_get ps i ≡ Some p → IsPairOf sys names p

-- the applications at these places are prompted, in this order
abbrev pub ArePrompted : List Name → List ℕ → List Name → Type 0
ArePrompted names places prompted = map (slice_get names) places ≡ map Some prompted

-- nobody is prompted any more
abbrev pub Drains : Terms → State → (State → Type 0) → (Contents → Type 0) → List Name → Option (List ℕ) → Result (Unit {0}) RunFault → Type 0
Drains t s holds left prompted u (Ok x) = Came t (standing s prompted []) holds u u (λ next. standing next [] [])
Drains t s holds left prompted u (Err f) = Faulted t (standing s prompted []) f left u u
