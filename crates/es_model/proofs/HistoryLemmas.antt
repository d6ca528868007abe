-- Laws of logs, versions and causes.
use Rattle.std.proofs.Common.{◌≡◌, ◌≤◌, ◌<◌, ◌+◌, ◌^◌, ◌==◌, ℕ, Bool, true, false, ◌&&◌, max, List, [], ◌∷◌, ◌++◌, length, take, drop, get_or, if◌then◌else◌, refl, sym, ap, ◌∙◌, append-nil, append_assoc, length-append, take-append-drop, drop-cons, add-one, arith}
use Rattle.std.proofs.Math.Seq.{take-suc}
use Rattle.std.proofs.lemmas.Bool.Decides.{nat_tests}
use Rattle.std.specs.Str.{bytes_eq}
use Rattle.es_model.specs.declared.event.Cause.{Cause}
use Rattle.es_model.specs.declared.event.Cause.TheVariants.{Command, Notification}
use Rattle.es_model.specs.declared.event.StoredEvent.{StoredEvent}
use Rattle.es_model.specs.declared.event.Recording.{Recording}
use Rattle.es_model.specs.Values.{Name, Id}
use Rattle.es_model.specs.History.{log, own, latest, versions_follow, causes_follow, cause_follows}
use Rattle.es_model.specs.Tracking.{tracked_in, id_from}

-- the events of two histories
pub log-append : (g h : List Recording) → log (g ++ h) ≡ log g ++ log h
log-append [] h = refl
log-append (r ∷ g) h = ap (λ (t : List StoredEvent). r.events ++ t) (log-append g h) ∙ sym (append_assoc r.events (log g) (log h))

-- the events of a history with one more recording
pub log-push : (h : List Recording) (r : Recording) → log (h ++ r ∷ []) ≡ log h ++ r.events
log-push h r = log-append h (r ∷ []) ∙ ap (λ (t : List StoredEvent). log h ++ t) (append-nil r.events)

-- what of an originator two lists have
pub own-append : (a b : List StoredEvent) (id : Id) → own (a ++ b) id ≡ own a id ++ own b id
own-append [] b id = refl
own-append (e ∷ a) b id = elim (bytes_eq e.originator_id id) as (λ v. (if v then e ∷ own (a ++ b) id else own (a ++ b) id) ≡ (if v then e ∷ own a id else own a id) ++ own b id) [
  | true ↦ ap (λ (t : List StoredEvent). e ∷ t) (own-append a b id)
  | false ↦ own-append a b id
]

pub latest-append : (a b : List StoredEvent) (id : Id) → latest (a ++ b) id ≡ latest a id + latest b id
latest-append a b id = ap length (own-append a b id) ∙ length-append (own a id) (own b id)

pub latest-length : (a : List StoredEvent) (id : Id) → latest a id ≤ length a
latest-length [] id = omega arith
latest-length (e ∷ a) id = elim (bytes_eq e.originator_id id) as (λ v. length (if v then e ∷ own a id else own a id) ≤ length (e ∷ a)) [
  | true ↦ omega (arith, latest-length a id)
  | false ↦ omega (arith, latest-length a id)
]

-- what a function of the recordings from a place on is, by the recording there
pub at_place : {A : Type 0} (f : List Recording → A) (h : List Recording) (i : ℕ) (r : Recording) → i < length h → r ≡ get_or h i r → f (drop i h) ≡ f (r ∷ drop (i + 1) h)
at_place f h i r within is = ap f (drop-cons h i r within) ∙ (λ k. f (sym is k ∷ drop (sym (add-one i) k) h))

-- the recordings up to a place, with the one there
pub take-place : (h : List Recording) (i : ℕ) (r : Recording) → i < length h → r ≡ get_or h i r → take (i + 1) h ≡ take i h ++ r ∷ []
take-place h i r within is = ap (λ n. take n h) (add-one i) ∙ take-suc h i r within ∙ (λ k. take i h ++ sym is k ∷ [])

pub latest-drop : (h : List Recording) (i : ℕ) (r : Recording) (id : Id) → i < length h → r ≡ get_or h i r → latest (log (drop i h)) id ≡ latest r.events id + latest (log (drop (i + 1) h)) id
latest-drop h i r id within is = at_place (λ t. latest (log t) id) h i r within is ∙ latest-append r.events (log (drop (i + 1) h)) id

pub size-drop : (h : List Recording) (i : ℕ) (r : Recording) → i < length h → r ≡ get_or h i r → length (log (drop i h)) ≡ length r.events + length (log (drop (i + 1) h))
size-drop h i r within is = at_place (λ t. length (log t)) h i r within is ∙ length-append r.events (log (drop (i + 1) h))

pub tracked_in-drop : (h : List Recording) (i : ℕ) (r : Recording) (leader : Name) → i < length h → r ≡ get_or h i r → tracked_in (drop i h) leader ≡ max (id_from r.cause leader) (tracked_in (drop (i + 1) h) leader)
tracked_in-drop h i r leader within is = at_place (λ t. tracked_in t leader) h i r within is

-- how many events there are with one more recording
pub size-push : (h : List Recording) (r : Recording) → length (log (h ++ r ∷ [])) ≡ length (log h) + length r.events
size-push h r = ap length (log-push h r) ∙ length-append (log h) r.events

pub both_true : (a b : Bool) → (a && b) ≡ true → (a ≡ true) × (b ≡ true)
both_true true b is = (refl, is)
both_true false b is = absurd (cc is)

and_assoc : (a b c : Bool) → (a && (b && c)) ≡ ((a && b) && c)
and_assoc true b c = refl
and_assoc false b c = refl

-- versions over two lists
pub versions_follow-append : (before xs ys : List StoredEvent) → versions_follow before (xs ++ ys) ≡ (versions_follow before xs && versions_follow (before ++ xs) ys)
versions_follow-append before [] ys = λ i. versions_follow (sym (append-nil before) i) ys
versions_follow-append before (x ∷ xs) ys =
    ap (λ b. (x.originator_version == latest before x.originator_id + 1) && b) (versions_follow-append (before ++ x ∷ []) xs ys ∙ (λ i. versions_follow (before ++ x ∷ []) xs && versions_follow (append_assoc before (x ∷ []) xs i) ys))
    ∙ and_assoc (x.originator_version == latest before x.originator_id + 1) (versions_follow (before ++ x ∷ []) xs) (versions_follow (before ++ x ∷ xs) ys)

-- causes over two lists
pub causes_follow-append : (before g h : List Recording) → causes_follow before (g ++ h) ≡ (causes_follow before g && causes_follow (before ++ g) h)
causes_follow-append before [] h = λ i. causes_follow (sym (append-nil before) i) h
causes_follow-append before (r ∷ g) h =
    ap (λ b. cause_follows before r.cause && b) (causes_follow-append (before ++ r ∷ []) g h ∙ (λ i. causes_follow (before ++ r ∷ []) g && causes_follow (append_assoc before (r ∷ []) g i) h))
    ∙ and_assoc (cause_follows before r.cause) (causes_follow (before ++ r ∷ []) g) (causes_follow (before ++ r ∷ g) h)

-- versions from a place on
pub versions_follow-place : (h : List Recording) (i : ℕ) (r : Recording) → i < length h → r ≡ get_or h i r
    → versions_follow (log (take i h)) (log (drop i h)) ≡ (versions_follow (log (take i h)) r.events && versions_follow (log (take (i + 1) h)) (log (drop (i + 1) h)))
versions_follow-place h i r within is =
    at_place (λ t. versions_follow (log (take i h)) (log t)) h i r within is
    ∙ versions_follow-append (log (take i h)) r.events (log (drop (i + 1) h))
    ∙ (λ k. versions_follow (log (take i h)) r.events && versions_follow ((sym (log-push (take i h) r) ∙ ap log (sym (take-place h i r within is))) k) (log (drop (i + 1) h)))

-- causes from a place on
pub causes_follow-place : (h : List Recording) (i : ℕ) (r : Recording) → i < length h → r ≡ get_or h i r
    → causes_follow (take i h) (drop i h) ≡ (cause_follows (take i h) r.cause && causes_follow (take (i + 1) h) (drop (i + 1) h))
causes_follow-place h i r within is =
    at_place (λ t. causes_follow (take i h) t) h i r within is
    ∙ (λ k. cause_follows (take i h) r.cause && causes_follow (sym (take-place h i r within is) k) (drop (i + 1) h))

-- a front of a history has no more events
pub log-take : (h : List Recording) (n : ℕ) → length (log (take n h)) ≤ length (log h)
log-take h n = omega (arith, ap (λ t. length (log t)) (take-append-drop n h), ap length (log-append (take n h) (drop n h)), length-append (log (take n h)) (log (drop n h)))

-- how far a history with one more recording tracks a leader
pub tracked_in-push : (h : List Recording) (r : Recording) (leader : Name) → tracked_in (h ++ r ∷ []) leader ≡ max (tracked_in h leader) (id_from r.cause leader)
tracked_in-push [] r leader = omega arith
tracked_in-push (x ∷ h) r leader = omega (arith, tracked_in-push h r leader)

small_id : (before : List Recording) (cause : Cause) (leader : Name) → cause_follows before cause ≡ true → id_from cause leader < 2 ^ 62
small_id before (Command text) leader follows = omega arith
small_id before (Notification from id) leader follows =
    let small : id < 2 ^ 62 = grind (arith, nat_tests, follows) in
    elim (bytes_eq from leader) as (λ b. (if b then id else 0) < 2 ^ 62) [
      | true ↦ small
      | false ↦ omega arith
    ]

-- what a formed history tracks is small
pub tracked_in-small : (before h : List Recording) (leader : Name) → causes_follow before h ≡ true → tracked_in h leader < 2 ^ 62
tracked_in-small before [] leader follow = omega arith
tracked_in-small before (r ∷ h) leader follow =
    let parts = both_true (cause_follows before r.cause) (causes_follow (before ++ r ∷ []) h) follow in
    omega (arith, small_id before r.cause leader parts.0, tracked_in-small (before ++ r ∷ []) h leader parts.1)
