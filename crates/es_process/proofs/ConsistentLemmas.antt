-- Laws of consistent histories: the openings are, and one recording more keeps them so.
use Rattle.std.proofs.Common.{◌≡◌, ◌<◌, ◌≤◌, ℕ, zero, suc, ◌+◌, Bool, true, false, List, [], ◌∷◌, ◌++◌, length, take, slice_get, Contains, if◌then◌else◌, Option, Some, None, inl, inr, refl, sym, ap, ◌∙◌, subst, length-append, take_all, le_refl, arith}
use Rattle.std.proofs.lemmas.Bool.{leb-true, le-leb, cases_lt}
use Rattle.std.proofs.lemmas.Option.{slice_get_within, slice_get_cases}
use Rattle.es_model.specs.declared.event.Recording.{Recording}
use Rattle.es_model.specs.declared.event.Cause.{Cause}
use Rattle.es_model.specs.declared.event.Cause.TheVariants.{Command, Notification}
use Rattle.es_model.specs.History.{Histories, log}
use Rattle.es_model.specs.Values.{Name}
use Rattle.es_recorder.specs.Held.{put}
use Rattle.es_process.specs.Consistent.{Fronts, may_take, next_front, round, rounds, lengths_of, IsGrounded, IsConsistent}
use Rattle.es_process.specs.Decision.{Rules, logs_of}
use Rattle.es_process.specs.Follows.{MayCome, ComesNext, Follows}
use Rattle.es_process.specs.inner.Lawful.{IsLawful}
use Rattle.es_process.proofs.AmongLemmas.{put-each}
use Rattle.es_process.proofs.FollowsLemmas.{Grows, Grows-put, logs-grow, slice_get-front, Follows-grows, Follows-opening, Follows-push, Follows-longer}

-- the log of a front of a history is no longer than that of a longer front of a later one
pub log_front : (g rest : List Recording) (n m : ℕ) → n ≤ m → length (log (take n g)) ≤ length (log (take m (g ++ rest)))
log_front g rest zero m le = omega arith
log_front g rest (suc n) zero le = absurd (omega arith)
log_front [] rest (suc n) (suc m) le = omega arith
log_front (r ∷ g) rest (suc n) (suc m) le = omega (arith, length-append r.events (log (take n g)), length-append r.events (log (take m (g ++ rest))), log_front g rest n m (omega arith))

pub front_up : (h : Histories) (fronts : Fronts) (front : ℕ) (o : Option Recording) → front ≤ next_front h fronts front o
front_up h fronts front None = omega arith
front_up h fronts front (Some r) = elim (may_take h fronts r.cause) as (λ b. front ≤ (if b then front + 1 else front)) [ true ↦ omega arith | false ↦ omega arith ]

pub front_step : (h : Histories) (fronts : Fronts) (front : ℕ) (o : Option Recording) → next_front h fronts front o ≤ front + 1
front_step h fronts front None = omega arith
front_step h fronts front (Some r) = elim (may_take h fronts r.cause) as (λ b. (if b then front + 1 else front) ≤ front + 1) [ true ↦ omega arith | false ↦ omega arith ]

-- a front passes no recording that isn't there
pub front_within : (h : Histories) (fronts : Fronts) (x : List Recording) (front : ℕ) → front ≤ length x → next_front h fronts front (slice_get x front) ≤ length x
front_within h fronts x front le = here (slice_get x front) refl
  where
    here : (o : Option Recording) → slice_get x front ≡ o → next_front h fronts front o ≤ length x
    here None is = le
    here (Some r) is = omega (arith, slice_get_within x front r is, front_step h fronts front (Some r))

pub rounds_within : (h openings : Histories) (app : Name) → length (openings app) ≤ length (h app) → (n : ℕ) → rounds n h (lengths_of openings) app ≤ length (h app)
unfolding rounds
rounds_within h openings app le zero = le
rounds_within h openings app le (suc n) = front_within h (rounds n h (lengths_of openings)) (h app) (rounds n h (lengths_of openings) app) (rounds_within h openings app le n)

-- where fronts and histories have grown, what could be taken can still be
module _ (h k : Histories) (grow : Grows h k) (fronts later : Fronts) (le : (app : Name) → fronts app ≤ later app) where
  take_still : (cause : Cause) → may_take h fronts cause ≡ true → may_take k later cause ≡ true
  take_still (Command asked) may = refl
  take_still (Notification leader id) may =
      le-leb id (length (log (take (later leader) (k leader))))
      (omega (arith, leb-true id (length (log (take (fronts leader) (h leader)))) may, log_front (h leader) (grow leader).0 (fronts leader) (later leader) (le leader), ap (λ g. length (log (take (later leader) g))) (grow leader).1))

  taken_still : (front : ℕ) (r : Recording) (o : Option Recording) → o ≡ Some r → next_front h fronts front (Some r) ≤ next_front k later front o
  taken_still front r o is = rw is (same (may_take h fronts r.cause) (may_take k later r.cause) (take_still r.cause))
    where
      same : (a b : Bool) → (a ≡ true → b ≡ true) → (if a then front + 1 else front) ≤ (if b then front + 1 else front)
      same true true both = omega arith
      same true false both = absurd (cc (both refl))
      same false b both = elim b as (λ c. front ≤ (if c then front + 1 else front)) [ true ↦ omega arith | false ↦ omega arith ]

  same_front : (app : Name) (front : ℕ) → next_front h fronts front (slice_get (h app) front) ≤ next_front k later front (slice_get (k app) front)
  same_front app front = here (slice_get (h app) front) refl
    where
      here : (o : Option Recording) → slice_get (h app) front ≡ o → next_front h fronts front o ≤ next_front k later front (slice_get (k app) front)
      here None is = front_up k later front (slice_get (k app) front)
      here (Some r) is =
          taken_still front r (slice_get (k app) front)
          (ap (λ (g : List Recording). slice_get g front) (grow app).1 ∙ slice_get-front (h app) (grow app).0 front (slice_get_within (h app) front r is) ∙ is)

  round_up : (app : Name) → round h fronts app ≤ round k later app
  round_up app = elim (cases_lt (fronts app) (later app)) [
    | inl less ↦ omega (arith, less, front_step h fronts (fronts app) (slice_get (h app) (fronts app)), front_up k later (later app) (slice_get (k app) (later app)))
    | inr more ↦ let same : fronts app ≡ later app = omega (arith, more, le app) in
        subst (λ front. round h fronts app ≤ next_front k later front (slice_get (k app) front)) same (same_front app (fronts app))
  ]

rounds_up : (h k openings : Histories) → Grows h k → (n : ℕ) (app : Name) → rounds n h (lengths_of openings) app ≤ rounds n k (lengths_of openings) app
unfolding rounds
rounds_up h k openings grow zero app = omega arith
rounds_up h k openings grow (suc n) app = round_up h k grow (rounds n h (lengths_of openings)) (rounds n k (lengths_of openings)) (rounds_up h k openings grow n) app

-- the last round takes the one recording that is left
last_round : (k : Histories) (fronts : Fronts) (x : List Recording) (front : ℕ) → front ≤ length x → length x ≤ front + 1 → ((r : Recording) → slice_get x front ≡ Some r → may_take k fronts r.cause ≡ true) → next_front k fronts front (slice_get x front) ≡ length x
last_round k fronts x front le ge may = here (slice_get x front) refl
  where
    past : slice_get x front ≡ None → length x ≤ front
    past is = elim (slice_get_cases x front).1 [ inl within ↦ let clash : None ≡ Some within.0 = sym is ∙ within.2 in cc clash | inr after ↦ after.0 ]

    here : (o : Option Recording) → slice_get x front ≡ o → next_front k fronts front o ≡ length x
    here None is = omega (arith, past is)
    here (Some r) is =
        let within : front < length x = slice_get_within x front r is in
        (λ i. if may r is i then front + 1 else front) ∙ omega arith

last_at : {A : Type 0} (xs : List A) (y : A) (i : ℕ) (z : A) → length xs ≤ i → slice_get (xs ++ y ∷ []) i ≡ Some z → y ≡ z
last_at [] y zero z le is = cc is
last_at [] y (suc i) z le is = absurd (cc is)
last_at (x ∷ xs) y zero z le is = absurd (omega arith)
last_at (x ∷ xs) y (suc i) z le is = last_at xs y i z (omega arith) is

-- at a name, no recording is left to be taken but one whose cause may be taken
abbrev LastMay : Histories → Histories → Fronts → Name → List Recording → Type 0
LastMay h k fronts b x = (length x ≤ length (h b) + 1) × ((front : ℕ) (r : Recording) → length (h b) ≤ front → slice_get x front ≡ Some r → may_take k fronts r.cause ≡ true)

module _ (rules : Rules) (lawful : IsLawful rules) (openings : Histories) where
  -- a cause that may come may be taken, once the histories before are
  cause_taken : (h k : Histories) (fronts : Fronts) → Grows h k → ((b : Name) → Contains rules.names b → length (h b) ≤ fronts b) → (app : Name) (cause : Cause) → MayCome rules app (h app) (logs_of h) cause → may_take k fronts cause ≡ true
  cause_taken h k fronts grow taken app (Command asked) may = refl
  cause_taken h k fronts grow taken app (Notification leader id) may =
      le-leb id (length (log (take (fronts leader) (k leader))))
      (omega (arith, may.there, log_front (h leader) (grow leader).0 (length (h leader)) (fronts leader) (taken leader (lawful.paired (leader, app) may.leads).0), ap (λ g. length (log g)) (take_all (length (h leader)) (h leader) (le_refl (length (h leader)))), ap (λ g. length (log (take (fronts leader) g))) (grow leader).1))

  module _ (h : Histories) (app : Name) (r : Recording) (next : ComesNext rules app (h app) (logs_of h) r) where
    abbrev more : Histories
    more = put h app (h app ++ r ∷ [])

    last_may : (fronts : Fronts) → ((b : Name) → Contains rules.names b → length (h b) ≤ fronts b) → (b : Name) → LastMay h more fronts b (more b)
    last_may fronts taken b =
        put-each (LastMay h more fronts) h app (h app ++ r ∷ []) b (
          omega (arith, length-append (h app) (r ∷ [])),
          λ front q le is. subst (λ s. may_take more fronts s.cause ≡ true) (last_at (h app) r front q le is) (cause_taken h more fronts (Grows-put h app r) taken app r.cause next.cause),
        )
        (omega arith, λ front q le is. absurd (omega (arith, slice_get_within (h b) front q is)))

    pub IsGrounded-push : ((b : Name) → Contains rules.names b → length (openings b) ≤ length (h b)) → IsGrounded rules.names openings h → IsGrounded rules.names openings more
    unfolding rounds
    IsGrounded-push from so = record {
      count = suc so.count;
      all = λ b declared.
          let fronts : Fronts = rounds so.count more (lengths_of openings) in
          let may : LastMay h more fronts b (more b) = last_may fronts taken b in
          last_round more fronts (more b) (fronts b)
          (rounds_within more openings b (omega (arith, from b declared, ap length (Grows-put h app r b).1, length-append (h b) (Grows-put h app r b).0)) so.count)
          (omega (arith, may.0, taken b declared))
          (λ q is. may.1 (fronts b) q (taken b declared) is);
    }
      where
        taken : (b : Name) → Contains rules.names b → length (h b) ≤ rounds so.count more (lengths_of openings) b
        taken b declared = omega (arith, so.all b declared, rounds_up h more openings (Grows-put h app r) so.count b)

    -- one recording more that may come next
    pub IsConsistent-push : IsConsistent rules openings h → IsConsistent rules openings more
    IsConsistent-push so = record {
      follow = λ b declared.
          put-each (λ n x. Contains rules.names n → Follows rules n (openings n) x (logs_of more)) h app (h app ++ r ∷ []) b
          (λ named. Follows-grows rules lawful.local app (logs_of h) (logs_of more) (logs-grow h more (Grows-put h app r)) (openings app) (h app ++ r ∷ []) (Follows-push rules app (logs_of h) (openings app) (h app) r (so.follow app named) next))
          (λ named. Follows-grows rules lawful.local b (logs_of h) (logs_of more) (logs-grow h more (Grows-put h app r)) (openings b) (h b) (so.follow b named))
          declared;
      grounded = IsGrounded-push (λ b declared. Follows-longer rules b (openings b) (h b) (logs_of h) (so.follow b declared)) so.grounded;
    }

  pub IsConsistent-opening : IsConsistent rules openings openings
  unfolding rounds
  IsConsistent-opening = record {
    follow = λ b declared. Follows-opening rules b (logs_of openings) (openings b);
    grounded = record { count = 0; all = λ b declared. refl };
  }
