-- The sections that are asked for one after the other have the whole log, each notification once.
use Rattle.std.proofs.Common.{◌≡◌, ◌∙◌, ◌≤◌, ◌<◌, ◌+◌, ◌-◌, ◌==◌, ◌⊎◌, ℕ, zero, suc, min, true, false, List, [], ◌∷◌, ◌++◌, length, take, drop, slice_get, Some, None, if◌then◌else◌, refl, sym, ap, inl, inr, arith}
use Rattle.std.specs.Prelude.{option_map}
use Rattle.std.proofs.lemmas.Bool.{cases_lt}
use Rattle.std.proofs.lemmas.Bool.Decides.{nat_tests}
use Rattle.std.proofs.lemmas.List.{append-nil, take-append-drop, length-take, length-drop, take_all, drop-drop}
use Rattle.es_model.specs.declared.event.Notification.{Notification}
use Rattle.es_model.specs.declared.event.StoredEvent.{StoredEvent}
use Rattle.es_recorder.specs.Selections.{numbered_from, notifications}
use Rattle.es_recorder.proofs.SelectionLemmas.{notification, select-drop}
use Rattle.es_section.specs.Answers.{section_with, section_of, section_asked, rest_after, with_rest, all_from}
use Rattle.es_section.specs.Section.{text_of, start_of, limit_of, items_of, last_of, next_of}
use Rattle.es_model.specs.declared.limits.TheConstants.{MOST_ASKED}
use Rattle.es_section.proofs.TextLemmas.{bounds-text}

-- ---- numbered events

drop-numbered : (k first : ℕ) (es : List StoredEvent) → drop k (numbered_from first es) ≡ numbered_from (first + k) (drop k es)
drop-numbered zero first es = let same : first ≡ first + zero = omega arith in λ i. numbered_from (same i) es
drop-numbered (suc k) first [] = refl
drop-numbered (suc k) first (e ∷ es) = let same : first + 1 + k ≡ first + suc k = omega arith in drop-numbered k (first + 1) es ∙ (λ i. numbered_from (same i) (drop k es))

length-numbered : (first : ℕ) (es : List StoredEvent) → length (numbered_from first es) ≡ length es
length-numbered first [] = refl
length-numbered first (e ∷ es) = let rest = length-numbered (first + 1) es in omega (arith, rest)

-- the last of the first so many
last-numbered : (k first : ℕ) (es : List StoredEvent) → k < length es → (e : StoredEvent) × (slice_get (take (suc k) (numbered_from first es)) k ≡ Some (notification (first + k) e))
last-numbered k first [] within = let none : ⊥ = omega arith in absurd none
last-numbered zero first (e ∷ es) within = let same : first ≡ first + zero = omega arith in (e, λ i. Some (notification (same i) e))
last-numbered (suc k) first (e ∷ es) within =
    let rest = last-numbered k (first + 1) es (omega arith) in
    let same : first + 1 + k ≡ first + suc k = omega arith in
    (rest.0, rest.1 ∙ (λ i. Some (notification (same i) rest.0)))

-- ---- what a section of a log has

-- what it says comes next, where it has as many as it may
next-full : (first c : ℕ) (es : List StoredEvent) → 0 < c → c ≤ length es → next_of c (take c (numbered_from first es)) ≡ Some (first + c, first + c - 1 + c)
next-full first zero es some enough = let none : ⊥ = omega arith in absurd none
next-full first (suc k) es some enough =
    let ns : List Notification = numbered_from first es in
    let size : length (take (suc k) ns) ≡ suc k = omega (arith, length-take (suc k) ns, length-numbered first es) in
    let before : length (take (suc k) ns) - 1 ≡ k = omega (arith, size) in
    let last = last-numbered k first es (omega arith) in
    let full : (length (take (suc k) ns) == suc k) ≡ true = grind (arith, nat_tests, size) in
    let at : last_of (take (suc k) ns) ≡ Some (notification (first + k) last.0) = ap (slice_get (take (suc k) ns)) before ∙ last.1 in
    let from : first + k + 1 ≡ first + suc k = omega arith in
    let to : first + k + suc k ≡ first + suc k - 1 + suc k = omega arith in
    (λ i. if full i then option_map (λ (n : Notification). (n.id + 1, n.id + suc k)) (at i) else None) ∙ (λ i. Some (from i, to i))

next-short : (c : ℕ) (ns : List Notification) → length ns < c → next_of c ns ≡ None
next-short c ns short =
    let less : (length ns == c) ≡ false = grind (arith, nat_tests, short) in
    λ i. if less i then option_map (λ (n : Notification). (n.id + 1, n.id + c)) (last_of ns) else None

module _ (events : List StoredEvent) (size : ℕ) where
  abbrev log : List Notification
  log = notifications events

  -- where it begins after so many notifications, and how many it may have
  section-at : (m last c : ℕ) → min (last - m) size ≡ c → m < last → section_of log (m + 1) last size ≡ section_with c (take c (numbered_from (m + 1) (drop m events)))
  section-at m last c most some =
      let start : start_of (m + 1) ≡ m + 1 = omega arith in
      let limit : limit_of (m + 1) last size ≡ c = ap (λ k. min k size) (let same : last + 1 - start_of (m + 1) ≡ last - m = omega arith in same) ∙ most in
      (λ i. section_with (limit i) (items_of log (start i) (limit i))) ∙ ap (section_with c) (select-drop events m c)

  -- what the text of it asks for
  asked-at : (m last c : ℕ) → min (last - m) size ≡ c → m < last → last ≤ MOST_ASKED → section_asked log (text_of (m + 1, last)) size ≡ Some (section_with c (take c (numbered_from (m + 1) (drop m events))))
  asked-at m last c most some few =
      ap (option_map (λ b. section_of log b.0 b.1 size)) (bounds-text (m + 1) last (omega arith) few) ∙ ap Some (section-at m last c most some)

  -- ---- the sections from there on

  rest-short : (m c turns : ℕ) → length (drop m events) < c → with_rest (Some (section_with c (take c (numbered_from (m + 1) (drop m events))))) (all_from turns log size) ≡ numbered_from (m + 1) (drop m events)
  rest-short m c turns short =
      let ns : List Notification = numbered_from (m + 1) (drop m events) in
      let count : length ns ≡ length (drop m events) = length-numbered (m + 1) (drop m events) in
      let all : take c ns ≡ ns = take_all c ns (omega arith) in
      (λ i. all i ++ rest_after (next_of c (all i)) (all_from turns log size))
      ∙ (λ i. ns ++ rest_after (next-short c ns (omega arith) i) (all_from turns log size))
      ∙ append-nil ns

  rest-full : (m c turns : ℕ) → 0 < c → c ≤ length (drop m events) → all_from turns log size (text_of (m + c + 1, m + c + c)) ≡ numbered_from (m + c + 1) (drop (m + c) events)
      → with_rest (Some (section_with c (take c (numbered_from (m + 1) (drop m events))))) (all_from turns log size) ≡ numbered_from (m + 1) (drop m events)
  rest-full m c turns some enough rest =
      let ns : List Notification = numbered_from (m + 1) (drop m events) in
      let from : m + 1 + c ≡ m + c + 1 = omega arith in
      let to : m + 1 + c - 1 + c ≡ m + c + c = omega arith in
      let later : drop c ns ≡ numbered_from (m + c + 1) (drop (m + c) events) =
      drop-numbered c (m + 1) (drop m events) ∙ (λ i. numbered_from (from i) (drop c (drop m events))) ∙ ap (numbered_from (m + c + 1)) (drop-drop c m events) in
      (λ i. take c ns ++ rest_after (next-full (m + 1) c (drop m events) some enough i) (all_from turns log size))
      ∙ (λ i. take c ns ++ all_from turns log size (text_of (from i, to i)))
      ∙ ap (λ xs. take c ns ++ xs) (rest ∙ sym later)
      ∙ take-append-drop c ns

  all-after : 1 ≤ size → length events + size ≤ MOST_ASKED → (turns m last : ℕ) → m ≤ length events → m < last → last ≤ MOST_ASKED → length events < m + turns → all_from turns log size (text_of (m + 1, last)) ≡ numbered_from (m + 1) (drop m events)
  all-after one few zero m last within some small enough = let none : ⊥ = omega arith in absurd none
  all-after one few (suc turns) m last within some small enough =
      let c : ℕ = min (last - m) size in
      ap (λ o. with_rest o (all_from turns log size)) (asked-at m last c refl some small) ∙ by-count c (omega arith) (omega arith) (cases_lt (length (drop m events)) c) (λ k positive most reach. all-after one few turns (m + k) (m + k + k) (omega arith) (omega arith) (omega arith) (omega arith))
    where
      by-count : (k : ℕ) → 0 < k → k ≤ size → (length (drop m events) < k) ⊎ (k ≤ length (drop m events))
          → ((j : ℕ) → 0 < j → j ≤ size → m + j ≤ length events → all_from turns log size (text_of (m + j + 1, m + j + j)) ≡ numbered_from (m + j + 1) (drop (m + j) events))
          → with_rest (Some (section_with k (take k (numbered_from (m + 1) (drop m events))))) (all_from turns log size) ≡ numbered_from (m + 1) (drop m events)
      by-count k positive most (inl short) rest = rest-short m k turns short
      by-count k positive most (inr full) rest = rest-full m k turns positive full (rest k positive most (omega (arith, length-drop m events)))

-- from `1,n` on they have the whole log once
pub all-from-first : (events : List StoredEvent) (size n turns : ℕ) → 1 ≤ size → length events + size ≤ MOST_ASKED → 1 ≤ n → n ≤ MOST_ASKED → length events < turns → all_from turns (notifications events) size (text_of (1, n)) ≡ notifications events
all-from-first events size n turns one few some small enough = all-after events size one few turns 0 n (omega arith) (omega arith) small (omega arith)
