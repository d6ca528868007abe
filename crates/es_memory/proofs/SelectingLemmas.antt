-- Selections that are made recording by recording.
use Rattle.std.proofs.Common.{◌≡◌, ◌<◌, ℕ, zero, suc, ◌+◌, Bool, true, false, List, [], ◌∷◌, ◌++◌, length, take, drop, get_or, if◌then◌else◌, Some, None, refl, sym, ap, ◌∙◌, append_assoc, arith}
use Rattle.std.specs.List.{position_from}
use Rattle.es_model.specs.declared.event.Notification.{Notification}
use Rattle.es_model.specs.declared.event.Recording.{Recording}
use Rattle.es_model.specs.declared.event.StoredEvent.{StoredEvent}
use Rattle.es_model.specs.History.{log}
use Rattle.es_model.proofs.HistoryLemmas.{at_place}
use Rattle.es_recorder.specs.Selections.{ids_from, numbered_from}
use Rattle.es_recorder.proofs.SelectionLemmas.{ids_from-append}

take-append_take : {X : Type 0} (n : ℕ) (xs ys : List X) → take n (take n xs ++ ys) ≡ take n (xs ++ ys)
take-append_take zero xs ys = refl
take-append_take (suc n) [] ys = refl
take-append_take (suc n) (x ∷ xs) ys = ap (λ t. x ∷ t) (take-append_take n xs ys)

-- the events of one recording more
pub add-recording : (found : List Notification) (start limit before : ℕ) (h : List Recording) (i : ℕ) (r : Recording) → i < length h → r ≡ get_or h i r
    → take limit (take limit (found ++ ids_from start (numbered_from (before + 1) r.events)) ++ ids_from start (numbered_from (before + length r.events + 1) (log (drop (i + 1) h))))
    ≡ take limit (found ++ ids_from start (numbered_from (before + 1) (log (drop i h))))
add-recording found start limit before h i r within is =
    let same : before + length r.events + 1 ≡ before + 1 + length r.events = omega arith in
    let rest = log (drop (i + 1) h) in
    take-append_take limit (found ++ ids_from start (numbered_from (before + 1) r.events)) (ids_from start (numbered_from (before + length r.events + 1) rest))
    ∙ ap (take limit)
    (append_assoc found (ids_from start (numbered_from (before + 1) r.events)) (ids_from start (numbered_from (before + length r.events + 1) rest))
    ∙ ap (λ ns. found ++ ns) ((λ k. ids_from start (numbered_from (before + 1) r.events) ++ ids_from start (numbered_from (same k) rest)) ∙ sym (ids_from-append start (before + 1) r.events rest))
    ∙ sym (at_place (λ t. found ++ ids_from start (numbered_from (before + 1) (log t))) h i r within is))

-- the first place that passes, where it is in the first of two lists
pub position-in : {A : Type 0} (p : A → Bool) (xs ys : List A) (i m k : ℕ) → position_from p i xs ≡ Some k → position_from p (m + i) (xs ++ ys) ≡ Some (m + k)
position-in p [] ys i m k = λ is. absurd (cc is)
position-in p (x ∷ xs) ys i m k =
    let next : m + (i + 1) ≡ m + i + 1 = omega arith in
    elim (p x) as (λ b. (if b then Some i else position_from p (i + 1) xs) ≡ Some k → (if b then Some (m + i) else position_from p (m + i + 1) (xs ++ ys)) ≡ Some (m + k)) [
      | true ↦ λ is. let same : i ≡ k = cc is in ap (λ n. Some (m + n)) same
      | false ↦ λ is. (λ j. position_from p (sym next j) (xs ++ ys)) ∙ position-in p xs ys (i + 1) m k is
    ]

-- the same where none of the first list passes
pub position-past : {A : Type 0} (p : A → Bool) (xs ys : List A) (i m : ℕ) → position_from p i xs ≡ None → position_from p m (xs ++ ys) ≡ position_from p (m + length xs) ys
position-past p [] ys i m = λ is. let same : m ≡ m + 0 = omega arith in λ j. position_from p (same j) ys
position-past p (x ∷ xs) ys i m =
    let next : m + 1 + length xs ≡ m + length (x ∷ xs) = omega arith in
    elim (p x) as (λ b. (if b then Some i else position_from p (i + 1) xs) ≡ None → (if b then Some m else position_from p (m + 1) (xs ++ ys)) ≡ position_from p (m + length (x ∷ xs)) ys) [
      | true ↦ λ is. absurd (cc is)
      | false ↦ λ is. position-past p xs ys (i + 1) (m + 1) is ∙ (λ j. position_from p (next j) ys)
    ]

-- the place of what is in one recording, and of what isn't
pub place-in : (p : StoredEvent → Bool) (h : List Recording) (i m k : ℕ) (r : Recording) → i < length h → r ≡ get_or h i r → position_from p 0 r.events ≡ Some k
    → position_from p m (log (drop i h)) ≡ Some (m + k)
place-in p h i m k r within is found =
    let same : m ≡ m + 0 = omega arith in
    at_place (λ t. position_from p m (log t)) h i r within is ∙ (λ j. position_from p (same j) (r.events ++ log (drop (i + 1) h))) ∙ position-in p r.events (log (drop (i + 1) h)) 0 m k found

pub place-past : (p : StoredEvent → Bool) (h : List Recording) (i m : ℕ) (r : Recording) → i < length h → r ≡ get_or h i r → position_from p 0 r.events ≡ None
    → position_from p m (log (drop i h)) ≡ position_from p (m + length r.events) (log (drop (i + 1) h))
place-past p h i m r within is missed = at_place (λ t. position_from p m (log t)) h i r within is ∙ position-past p r.events (log (drop (i + 1) h)) 0 m missed
