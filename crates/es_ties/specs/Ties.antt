-- The rule of the logs, which holds between any two steps.
use Rattle.std.specs.Prelude.{◌≡◌, ℕ, ◌<◌, Some, true, List, length, slice_index}
use mathlib.Core.Option.{some}
use mathlib.Core.List.{IsPrefix}
use lib.ListN.{get_elem?}
use Rattle.atomic_table.specs.Table.{State}
use Rattle.es_ties.specs.declared.view.Page.{Page}
use Rattle.es_ties.specs.declared.view.View.{View}
use Rattle.es_ties.specs.Views.{page_of, seen_at, number_at, owns_at}

module _ {I : Type 0} where
  -- Of one live view: what it has seen of each log is a prefix of the log. It is the one owner of each log that it has a number for, has seen all of this log, and the number is the word's. What was seen before a join is a prefix of what is seen now
  pub record Fits (words : List ℕ) (logs : ℕ → List I) (owner : ℕ → ℕ) (seat : ℕ) (v : View I) : Type 0 where
    pub seen : (j : ℕ) → IsPrefix (seen_at v j) (logs j)
    pub owned : (j k : ℕ) → number_at v j ≡ Some k → (owner j ≡ seat) × (seen_at v j ≡ logs j) × (slice_index words j ≡ k)
    pub earlier : (m : ℕ) (ps : List (Page I)) (j : ℕ) → get_elem? v.earlier m ≡ some ps → IsPrefix (page_of ps j).seen (seen_at v j)

  -- the seat has a live view, which owns the log j
  pub record IsOwner (views : List (View I)) (seat j : ℕ) : Type 0 where
    pub view : View I
    pub there : get_elem? views seat ≡ some view
    pub live : view.live ≡ true
    pub owns : owns_at view j ≡ true

  -- The state: a list for each log, and what each live view has seen of it. Each of the n logs has exactly one owner, a live view, which has seen all of the log. A view is spent once another has taken it in
  pub record IsTied (n : ℕ) (s : State (Unit {0}) (View I)) : Type 0 where
    pub logs : ℕ → List I
    pub owner : ℕ → ℕ
    pub wide : length s.words ≡ n
    pub fits : (seat : ℕ) (v : View I) → get_elem? s.views seat ≡ some v → v.live ≡ true → Fits s.words logs owner seat v
    pub held : (j : ℕ) → j < n → IsOwner s.views (owner j) j
