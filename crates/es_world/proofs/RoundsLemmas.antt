-- Laws of rounds: two histories whose fronts grow beside each other, and histories that are grounded one over the other.
use Rattle.std.proofs.Common.{◌≡◌, ◌<◌, ◌≤◌, ℕ, zero, suc, ◌+◌, ◌-◌, min, Bool, true, false, List, [], ◌∷◌, ◌++◌, length, take, slice_get, Contains, if◌then◌else◌, Option, Some, None, inl, inr, refl, sym, ap, subst, length-append, arith}
use Rattle.std.proofs.lemmas.Bool.{leb-true, le-leb, cases_lt}
use Rattle.es_model.specs.declared.event.Recording.{Recording}
use Rattle.es_model.specs.declared.event.Cause.{Cause}
use Rattle.es_model.specs.declared.event.Cause.TheVariants.{Command, Notification}
use Rattle.es_model.specs.History.{Histories, log}
use Rattle.es_model.specs.Values.{Name}
use Rattle.es_process.specs.Consistent.{Fronts, may_take, next_front, round, rounds}
use Rattle.es_process.proofs.ConsistentLemmas.{front_up, front_step}

-- the log of a front that isn't longer, or has the whole history, is no longer
pub log_taken : (g rest : List Recording) (n m : ℕ) → min n (length g) ≤ m → length (log (take n g)) ≤ length (log (take m (g ++ rest)))
log_taken g rest zero m le = omega arith
log_taken [] rest (suc n) m le = omega arith
log_taken (r ∷ g) rest (suc n) zero le = absurd (omega arith)
log_taken (r ∷ g) rest (suc n) (suc m) le = omega (arith, length-append r.events (log (take n g)), length-append r.events (log (take m (g ++ rest))), log_taken g rest n m (omega arith))

-- what is in the log of a front of a longer history, and in that of the history, is in that of the front of the history
pub log_capped : (g rest : List Recording) (n id : ℕ) → id ≤ length (log (take n (g ++ rest))) → id ≤ length (log g) → id ≤ length (log (take n g))
log_capped g rest zero id taken there = taken
log_capped [] rest (suc n) id taken there = there
log_capped (r ∷ g) rest (suc n) id taken there =
    omega (arith, length-append r.events (log (take n g)), log_capped g rest n (id - length r.events) (omega (arith, length-append r.events (log (take n (g ++ rest))))) (omega (arith, length-append r.events (log g))))

-- rounds after rounds are rounds
pub rounds_after : (h : Histories) (fronts : Fronts) (m n : ℕ) → (count : ℕ) × (rounds count h fronts ≡ rounds m h (rounds n h fronts))
unfolding rounds
rounds_after h fronts zero n = (n, refl)
rounds_after h fronts (suc m) n =
    let before : (count : ℕ) × (rounds count h fronts ≡ rounds m h (rounds n h fronts)) = rounds_after h fronts m n in
    (suc before.0, ap (round h) before.1)

module _ (names : List Name) (h k : Histories) (low cap : Fronts) where
  -- a cause that may be taken in the one may be taken in the other, where its fronts aren't behind, up to a cap
  abbrev pub IsTakenToo : Cause → Type 0
  IsTakenToo (Command asked) = Unit {0}
  IsTakenToo (Notification leader id) = Contains names leader × ((front later : ℕ) → min front (cap leader) ≤ later → id ≤ length (log (take front (h leader))) → id ≤ length (log (take later (k leader))))

  -- so may each recording from a low place up to the cap, and it is at the same place of the other
  abbrev pub Carries : Type 0
  Carries = (app : Name) → Contains names app → (i : ℕ) (r : Recording) → low app ≤ i → i < cap app → slice_get (h app) i ≡ Some r → (slice_get (k app) i ≡ Some r) × IsTakenToo r.cause

  -- the fronts of the one are past the low places, and up to the cap those of the other aren't behind
  abbrev pub AreBeside : Fronts → Fronts → Type 0
  AreBeside fronts later = (app : Name) → Contains names app → (low app ≤ fronts app) × (min (fronts app) (cap app) ≤ later app)

  module _ (carries : Carries) where
    module _ (fronts later : Fronts) (beside : AreBeside fronts later) where
      take_too : (cause : Cause) → IsTakenToo cause → may_take h fronts cause ≡ true → may_take k later cause ≡ true
      take_too (Command asked) too may = refl
      take_too (Notification leader id) too may =
          le-leb id (length (log (take (later leader) (k leader))))
          (too.1 (fronts leader) (later leader) (beside leader too.0).1 (leb-true id (length (log (take (fronts leader) (h leader)))) may))

      both_take : (front : ℕ) (a b : Bool) → (a ≡ true → b ≡ true) → (if a then front + 1 else front) ≤ (if b then front + 1 else front)
      both_take front true true both = omega arith
      both_take front true false both = absurd (cc (both refl))
      both_take front false b both = elim b as (λ c. front ≤ (if c then front + 1 else front)) [ true ↦ omega arith | false ↦ omega arith ]

      same_front : (app : Name) → Contains names app → fronts app < cap app → round h fronts app ≤ next_front k later (fronts app) (slice_get (k app) (fronts app))
      same_front app declared within = here (slice_get (h app) (fronts app)) refl
        where
          here : (o : Option Recording) → slice_get (h app) (fronts app) ≡ o → next_front h fronts (fronts app) o ≤ next_front k later (fronts app) (slice_get (k app) (fronts app))
          here None is = front_up k later (fronts app) (slice_get (k app) (fronts app))
          here (Some r) is =
              let too : (slice_get (k app) (fronts app) ≡ Some r) × IsTakenToo r.cause = carries app declared (fronts app) r (beside app declared).0 within is in
              subst (λ o. next_front h fronts (fronts app) (Some r) ≤ next_front k later (fronts app) o) (sym too.0)
              (both_take (fronts app) (may_take h fronts r.cause) (may_take k later r.cause) (take_too r.cause too.1))

      round_beside : (app : Name) → Contains names app → min (round h fronts app) (cap app) ≤ round k later app
      round_beside app declared = elim (cases_lt (later app) (cap app)) [
        | inr past ↦ omega (arith, past, front_up k later (later app) (slice_get (k app) (later app)))
        | inl below ↦ elim (cases_lt (fronts app) (later app)) [
          | inl less ↦ omega (arith, less, front_step h fronts (fronts app) (slice_get (h app) (fronts app)), front_up k later (later app) (slice_get (k app) (later app)))
          | inr more ↦ let same : fronts app ≡ later app = omega (arith, more, below, (beside app declared).1) in
              subst (λ front. min (round h fronts app) (cap app) ≤ next_front k later front (slice_get (k app) front)) same
              (omega (arith, same_front app declared (omega (arith, below, same))))
        ]
      ]

      round_up : AreBeside (round h fronts) (round k later)
      round_up app declared = (omega (arith, (beside app declared).0, front_up h fronts (fronts app) (slice_get (h app) (fronts app))), round_beside app declared)

    -- so they stay, round by round
    pub rounds_beside : (fronts later : Fronts) → AreBeside fronts later → (n : ℕ) → AreBeside (rounds n h fronts) (rounds n k later)
    unfolding rounds
    rounds_beside fronts later beside zero = beside
    rounds_beside fronts later beside (suc n) = round_up (rounds n h fronts) (rounds n k later) (rounds_beside fronts later beside n)
