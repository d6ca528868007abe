-- What contracts see of logs and of those who write and read them. The logs of one `Ties` have the numbers from 0 on.
use Rattle.std.specs.Prelude.{◌≡◌, ℕ, ◌<◌, Some, List, [], refl, slice_get, slice_index_or}
use Rattle.std.specs.Coded.{Coded, code_by, coded×, coded_ℕ, coded_list}
use mathlib.Core.List.{IsPrefix}
use Rattle.atomic_table.specs.Seated.{TableId, table_id_coded}

-- a pen: whose it is, the log that it writes, and what it has seen of each log
pub record Writer (I : Type 0) : Type 0 where
  pub ties : TableId
  pub log : ℕ
  pub seen : List (List I)

-- a reader or a note: whose it is, and what it has seen of each log
pub record Witness (I : Type 0) : Type 0 where
  pub ties : TableId
  pub seen : List (List I)

abbrev pub writer_code : {I : Type 0} → Coded I → Coded (Writer I)
writer_code {I} item = code_by (TableId × (ℕ × List (List I))) (coded× table_id_coded (coded× coded_ℕ (coded_list (coded_list item)))) (λ w. (w.ties, (w.log, w.seen))) (λ p. record { ties = p.0; log = p.1.0; seen = p.1.1 }) (λ _. refl)

abbrev pub witness_code : {I : Type 0} → Coded I → Coded (Witness I)
witness_code {I} item = code_by (TableId × List (List I)) (coded× table_id_coded (coded_list (coded_list item))) (λ w. (w.ties, w.seen)) (λ p. record { ties = p.0; seen = p.1 }) (λ _. refl)

-- how many logs these ties have
abbrev pub log_count : TableId → ℕ
log_count ties = ties.words

module _ {I : Type 0} where
  -- what was seen of one log
  abbrev pub of_log : List (List I) → ℕ → List I
  of_log seen log = slice_index_or seen log []

  -- the second has seen of each log at least what the first has
  abbrev pub IsWithin : List (List I) → List (List I) → Type 0
  IsWithin less more = (log : ℕ) → IsPrefix (of_log less log) (of_log more log)

  -- the pens of new logs: one for each start, in order, and each has seen all starts
  abbrev pub AreFirstPens : TableId → List (List I) → List (Writer I) → Type 0
  AreFirstPens ties starts pens = (log : ℕ) (p : Writer I) → slice_get pens log ≡ Some p → p ≡ record { ties = ties; log = log; seen = starts }

  -- they belong to these ties
  abbrev pub ArePensOf : TableId → List (Writer I) → Type 0
  ArePensOf ties pens = (k : ℕ) (p : Writer I) → slice_get pens k ≡ Some p → p.ties ≡ ties

  abbrev pub AreReadersOf : TableId → List (Witness I) → Type 0
  AreReadersOf ties readers = (k : ℕ) (r : Witness I) → slice_get readers k ≡ Some r → r.ties ≡ ties

  -- the pen of each log is among them
  abbrev pub HaveEachLog : TableId → List (Writer I) → Type 0
  HaveEachLog ties pens = (log : ℕ) → log < log_count ties → (k : ℕ) × (p : Writer I) × (slice_get pens k ≡ Some p) × (p.log ≡ log)

  -- what was seen of the log of each of these pens is a prefix of what the pen has seen of it
  abbrev pub IsBehindPens : List (List I) → List (Writer I) → Type 0
  IsBehindPens seen pens = (k : ℕ) (p : Writer I) → slice_get pens k ≡ Some p → IsPrefix (of_log seen p.log) (of_log p.seen p.log)
