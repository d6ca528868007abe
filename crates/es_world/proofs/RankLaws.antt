-- The law on ranks: histories whose recordings are numbered above their causes are grounded.
use Rattle.std.proofs.Common.{◌≡◌, ◌<◌, ◌≤◌, ◌⊎◌, inl, inr, ℕ, zero, suc, ◌+◌, ◌-◌, true, List, [], ◌∷◌, length, take, slice_get, Contains, if◌then◌else◌, Some, refl, sym, ap, ◌∙◌, subst, length-append, append-nil, arith}
use Rattle.std.proofs.lemmas.Bool.{le-leb, cases_lt}
use Rattle.std.proofs.lemmas.Option.{slice_get_cases}
use Rattle.es_model.specs.declared.event.Recording.{Recording}
use Rattle.es_model.specs.declared.event.Cause.{Cause}
use Rattle.es_model.specs.declared.event.Cause.TheVariants.{Command, Notification}
use Rattle.es_model.specs.History.{Histories, log}
use Rattle.es_model.specs.Values.{Name}
use Rattle.es_process.specs.Consistent.{Fronts, may_take, next_front, round, rounds, lengths_of}
use Rattle.es_process.proofs.AmongLemmas.{contains-none, contains-cases}
use Rattle.es_process.proofs.ConsistentLemmas.{log_front, front_up, rounds_within}
use Rattle.es_world.specs.Laws.{IsHeldAt, IsCausedBelow, AreNumbered, RankLaw}

-- a notification that is there is held at a place
held_at : (g : List Recording) (id : ℕ) → 0 < id → id ≤ length (log g) → (place : ℕ) × (place < length g) × IsHeldAt g id place
held_at [] id is there = absurd (omega arith)
held_at (r ∷ g) id is there = elim (cases_lt (length r.events) id) [
  | inl past ↦
      let behind : (place : ℕ) × (place < length g) × IsHeldAt g (id - length r.events) place = held_at g (id - length r.events) (omega arith) (omega (arith, length-append r.events (log g))) in
      (suc behind.0, omega (arith, behind.1), (omega (arith, behind.2.0, length-append r.events (log (take behind.0 g))), omega (arith, behind.2.1, length-append r.events (log (take (suc behind.0) g)))))
  | inr here ↦ (0, omega arith, (omega arith, omega (arith, length-append r.events (log (take 0 g)))))
]

-- a list of numbers has one above all of them
above_all : (f : ℕ → ℕ) (n : ℕ) → (bound : ℕ) × ((i : ℕ) → i < n → f i < bound)
above_all f zero = (0, λ i within. absurd (omega arith))
above_all f (suc n) =
    let before : (bound : ℕ) × ((i : ℕ) → i < n → f i < bound) = above_all f n in (
      before.0 + f n + 1,
      λ i within. elim (cases_lt i n) [
        | inl less ↦ omega (arith, before.1 i less)
        | inr more ↦ let same : n ≡ i = omega arith in subst (λ j. f j < before.0 + f n + 1) same (omega arith)
      ],
    )

module _ (names : List Name) (openings histories : Histories) (number : Name → ℕ → ℕ) where
  -- so have the recordings of all names
  greatest : (ns : List Name) → (bound : ℕ) × ((app : Name) → Contains ns app → (i : ℕ) → i < length (histories app) → number app i < bound)
  greatest [] = (0, λ app so. contains-none app so)
  greatest (n ∷ ns) =
      let here : (bound : ℕ) × ((i : ℕ) → i < length (histories n) → number n i < bound) = above_all (number n) (length (histories n)) in
      let behind : (bound : ℕ) × ((app : Name) → Contains ns app → (i : ℕ) → i < length (histories app) → number app i < bound) = greatest ns in (
        here.0 + behind.0,
        λ app so. elim (contains-cases n ns app so) [
          | inl same ↦ subst (λ m. (i : ℕ) → i < length (histories m) → number m i < here.0 + behind.0) same (λ i within. omega (arith, here.1 i within))
          | inr later ↦ λ i within. omega (arith, behind.1 app later i within)
        ],
      )

  module _ (so : AreNumbered names openings histories number) where
    abbrev front_after : ℕ → Fronts
    front_after n = rounds n histories (lengths_of openings)

    -- after so many rounds the openings are taken, and all recordings with a smaller number
    abbrev HasPassed : ℕ → Type 0
    HasPassed n = (app : Name) → Contains names app → (i : ℕ) → i < length (histories app) → (i < length (openings app)) ⊎ (number app i < n) → i < front_after n app

    module _ (n : ℕ) (passed : HasPassed n) where
      -- so the next one may be taken, if its number isn't greater
      may : (caused : ℕ) (cause : Cause) → caused ≤ n → IsCausedBelow names openings histories number caused cause → may_take histories (front_after n) cause ≡ true
      may caused (Command asked) le below = refl
      may caused (Notification leader id) le below =
          le-leb id (length (log (take (front_after n leader) (histories leader)))) (elim (cases_lt (length (log (take (front_after n leader) (histories leader)))) id) [
            | inl less ↦ absurd (clash less)
            | inr more ↦ more
          ])
        where
          clash : length (log (take (front_after n leader) (histories leader))) < id → ⊥
          clash less =
              let held : (place : ℕ) × (place < length (histories leader)) × IsHeldAt (histories leader) id place = held_at (histories leader) id (omega arith) below.1 in
              let taken : held.0 < front_after n leader = passed leader below.0 held.0 held.1 (elim (below.2 held.0 held.2) [ inl opening ↦ inl opening | inr smaller ↦ inr (omega arith) ]) in
              omega (arith, less, taken, held.2.1, log_front (histories leader) [] (suc held.0) (front_after n leader) (omega arith), ap (λ g. length (log (take (front_after n leader) g))) (append-nil (histories leader)))

      -- a round takes the recording at a front
      takes : (app : Name) (i : ℕ) (r : Recording) → front_after n app ≡ i → slice_get (histories app) i ≡ Some r → may_take histories (front_after n) r.cause ≡ true → round histories (front_after n) app ≡ i + 1
      takes app i r at is so = subst (λ front. next_front histories (front_after n) front (slice_get (histories app) front) ≡ i + 1) (sym at)
          ((λ k. next_front histories (front_after n) i (is k)) ∙ (λ k. if so k then i + 1 else i))

      -- the recordings before one with the next number are taken
      reached : (app : Name) → Contains names app → (i : ℕ) → i < length (histories app) → length (openings app) ≤ i → number app i ≤ n → i ≤ front_after n app
      reached app declared zero within later le = omega arith
      reached app declared (suc j) within later le = elim (cases_lt j (length (openings app))) [
        | inl opening ↦ omega (arith, passed app declared j (omega arith) (inl opening))
        | inr added ↦ omega (arith, passed app declared j (omega arith) (inr (omega (arith, so.rises app declared j (suc j) added (omega arith) within))))
      ]

      numbered : (app : Name) → Contains names app → (i : ℕ) → i < length (histories app) → length (openings app) ≤ i → number app i ≤ n → front_after n app ≤ i → i < round histories (front_after n) app
      numbered app declared i within later le behind = elim (slice_get_cases (histories app) i).1 [
        | inl found ↦ omega (arith, takes app i found.0 (omega (arith, reached app declared i within later le)) found.2 (may (number app i) found.0.cause le (so.causes app declared i found.0 later found.2)))
        | inr past ↦ absurd (omega (arith, past.0))
      ]

      passes : (app : Name) → Contains names app → (i : ℕ) → i < length (histories app) → (i < length (openings app)) ⊎ (number app i < suc n) → i < round histories (front_after n) app
      passes app declared i within so = elim (cases_lt i (front_after n app)) [
        | inl taken ↦ omega (arith, taken, front_up histories (front_after n) (front_after n app) (slice_get (histories app) (front_after n app)))
        | inr behind ↦ elim (cases_lt i (length (openings app))) [
          | inl opening ↦ absurd (omega (arith, behind, passed app declared i within (inl opening)))
          | inr added ↦ numbered app declared i within added (elim so [ inl opening ↦ absurd (omega arith) | inr smaller ↦ omega arith ]) behind
        ]
      ]

    has_passed : (n : ℕ) → HasPassed n
    unfolding rounds
    has_passed zero app declared i within so = elim so [ inl opening ↦ opening | inr smaller ↦ absurd (omega arith) ]
    has_passed (suc n) app declared i within so = passes n (has_passed n) app declared i within so

    all_taken : (count : ℕ) (app : Name) → Contains names app → ((i : ℕ) → i < length (histories app) → number app i < count) → length (histories app) ≤ front_after count app
    all_taken count app declared small = here (length (histories app)) refl
      where
        here : (size : ℕ) → length (histories app) ≡ size → size ≤ front_after count app
        here zero is = omega arith
        here (suc m) is = omega (arith, has_passed count app declared m (omega (arith, is)) (inr (small m (omega (arith, is)))))

pub law_ranked : RankLaw
law_ranked names openings histories number so = record {
  count = (greatest names openings histories number names).0;
  all = λ app declared.
      let bound : ℕ = (greatest names openings histories number names).0 in
      omega (
        arith,
        all_taken names openings histories number so bound app declared ((greatest names openings histories number names).1 app declared),
        rounds_within histories openings app (omega (arith, ap length (so.begins app declared).1, length-append (openings app) (so.begins app declared).0)) bound,
      );
}
