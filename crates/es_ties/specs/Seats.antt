-- What is true of the seat in each pen, reader and note.
use Rattle.std.specs.Prelude.{◌≡◌, ◌≢◌, ℕ, ◌<◌, ◌≤◌, true, false, List, [], length}
use Rattle.atomic_table.specs.Seated.{TableId}
use Rattle.atomic_table.specs.declared.shared.Seat.{Seat}
use Rattle.es_ties.specs.declared.view.View.{View}
use Rattle.es_ties.specs.Views.{seen_of, owns_at}

module _ {I : Type 0} where
  -- its view is live, and has nothing left to tell
  pub record IsLive (s : Seat (Unit {0}) (View I)) : Type 0 where
    pub live : s.me.0.live ≡ true
    pub earlier : s.me.0.earlier ≡ []
    pub slots : s.me.1 ≡ []

  -- it owns the one log
  pub record IsPenSeat (log : ℕ) (s : Seat (Unit {0}) (View I)) : Type 0 where
    pub live : IsLive s
    pub owns : owns_at s.me.0 log ≡ true
    pub only : (j : ℕ) → j ≢ log → owns_at s.me.0 j ≡ false
    pub within : log < s.table_id.words

  -- it owns none
  pub record IsReaderSeat (s : Seat (Unit {0}) (View I)) : Type 0 where
    pub live : IsLive s
    pub none : (j : ℕ) → owns_at s.me.0 j ≡ false

  -- it has seen all starts, and owns the logs from the k-th on
  pub record IsDealer (ties : TableId) (starts : List (List I)) (k : ℕ) (s : Seat (Unit {0}) (View I)) : Type 0 where
    pub live : IsLive s
    pub table : s.table_id ≡ ties
    pub dealt : s.me.0.dealt ≡ k
    pub owns : (j : ℕ) → k ≤ j → j < length starts → owns_at s.me.0 j ≡ true
    pub seen : seen_of s.me.0 ≡ starts
