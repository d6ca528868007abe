-- Laws of recordings that come one after another: over other logs, a part of them, and two parts joined.
use Rattle.std.proofs.Common.{◌≡◌, ◌<◌, ◌≤◌, inl, inr, ℕ, ℤ, zero, suc, ◌-◌, List, [], ◌∷◌, ◌++◌, length, slice_get, Contains, if◌then◌else◌, Some, refl, sym, ap, ◌∙◌, subst, append-nil, append_assoc, length-append, drop, drop_at, arith}
use Rattle.std.proofs.lemmas.Bool.{cases_lt}
use Rattle.std.proofs.lemmas.Option.{slice_get_within}
use Rattle.es_model.specs.declared.event.Recording.{Recording}
use Rattle.es_model.specs.declared.event.Cause.{Cause}
use Rattle.es_model.specs.declared.event.Cause.TheVariants.{Command, Notification}
use Rattle.es_model.specs.Tracking.{tracked_in, id_from}
use Rattle.es_model.specs.Values.{Name}
use Rattle.es_recorder.specs.Stable.{IsPrefix}
use Rattle.es_process.specs.Decision.{Rules, Logs}
use Rattle.es_process.specs.Follows.{MayCome, ComesNext, EachComes, Follows}
use Rattle.es_process.specs.inner.Lawful.{IsLocal}
use Rattle.es_process.proofs.AmongLemmas.{is-same}
use Rattle.es_process.proofs.FollowsLemmas.{tracked_in-append}

-- the id that a notification has of its own leader
pub id_from-own : (leader : Name) (id : ℕ) → id_from (Notification leader id) leader ≡ id
id_from-own leader id = λ i. if is-same leader leader refl i then id else 0

-- what is a cause among some recordings is tracked by them
pub tracked_at : (h : List Recording) (i : ℕ) (r : Recording) (leader : Name) → slice_get h i ≡ Some r → id_from r.cause leader ≤ tracked_in h leader
tracked_at [] i r leader is = absurd (omega (arith, slice_get_within [] i r is))
tracked_at (x ∷ h) zero r leader is = let same : x ≡ r = cc is in subst (λ y. id_from y.cause leader ≤ tracked_in (x ∷ h) leader) same (omega arith)
tracked_at (x ∷ h) (suc i) r leader is = omega (arith, tracked_at h i r leader is)

-- two lists with the same front have the same rest
pub same_rest : {A : Type 0} (front xs ys : List A) → front ++ xs ≡ front ++ ys → xs ≡ ys
same_rest front xs ys is = sym (drop_at front xs (length front) refl) ∙ ap (drop (length front)) is ∙ drop_at front ys (length front) refl

module _ (rules : Rules) (app : Name) (logs : Logs) where
  -- the front of what comes one after another
  EachComes-front : (before xs ys : List Recording) → EachComes rules app before logs (xs ++ ys) → EachComes rules app before logs xs
  EachComes-front before [] ys so = tt
  EachComes-front before (r ∷ xs) ys so = (so.0, EachComes-front (before ++ r ∷ []) xs ys so.1)

  EachComes-append : (before xs ys : List Recording) → EachComes rules app before logs xs → EachComes rules app (before ++ xs) logs ys → EachComes rules app before logs (xs ++ ys)
  EachComes-append before [] ys so later = subst (λ h. EachComes rules app h logs ys) (append-nil before) later
  EachComes-append before (r ∷ xs) ys so later =
      (so.0, EachComes-append (before ++ r ∷ []) xs ys so.1 (subst (λ h. EachComes rules app h logs ys) (sym (append_assoc before (r ∷ []) xs)) later))

  -- a history that lies between an opening and one that follows it
  pub Follows-front : (opening middle history : List Recording) → IsPrefix opening middle → IsPrefix middle history → Follows rules app opening history logs → Follows rules app opening middle logs
  Follows-front opening middle history begins goes so = record {
    added = begins.0;
    parts = begins.1;
    each = EachComes-front opening begins.0 goes.0 (subst (EachComes rules app opening logs) parted so.each);
  }
    where
      parted : so.added ≡ begins.0 ++ goes.0
      parted = same_rest opening so.added (begins.0 ++ goes.0)
          (sym so.parts ∙ goes.1 ∙ ap (λ (h : List Recording). h ++ goes.0) begins.1 ∙ append_assoc opening begins.0 goes.0)

  pub Follows-join : (opening middle history : List Recording) → Follows rules app opening middle logs → Follows rules app middle history logs → Follows rules app opening history logs
  Follows-join opening middle history first second = record {
    added = first.added ++ second.added;
    parts = second.parts ∙ ap (λ (h : List Recording). h ++ second.added) first.parts ∙ append_assoc opening first.added second.added;
    each = EachComes-append opening first.added second.added first.each (subst (λ h. EachComes rules app h logs second.added) first.parts second.each);
  }

  EachComes-at : (before added whole : List Recording) → before ++ added ≡ whole → EachComes rules app before logs added → (i : ℕ) (r : Recording) → length before ≤ i → slice_get whole i ≡ Some r
      → (earlier : List Recording) × MayCome rules app earlier logs r.cause
  EachComes-at before [] whole is so i r later found = absurd (omega (arith, slice_get_within whole i r found, ap length is, length-append before []))
  EachComes-at before (x ∷ added) whole is so i r later found = elim (cases_lt (length before) i) [
    | inl less ↦ EachComes-at (before ++ x ∷ []) added whole (append_assoc before (x ∷ []) added ∙ is) so.1 i r (omega (arith, length-append before (x ∷ []))) found
    | inr more ↦ (before, subst (λ y. MayCome rules app before logs y.cause) (same (omega arith)) so.0.cause)
  ]
    where
      there : (front : List Recording) (j : ℕ) → length front ≡ j → slice_get (front ++ x ∷ added) j ≡ Some x
      there [] zero at = refl
      there [] (suc j) at = absurd (omega arith)
      there (y ∷ front) zero at = absurd (omega arith)
      there (y ∷ front) (suc j) at = there front j (omega arith)

      same : length before ≡ i → x ≡ r
      same at = let both : Some x ≡ Some r = sym (there before i at) ∙ ap (λ (h : List Recording). slice_get h i) is ∙ found in cc both

  -- the cause of a recording after the opening is one that might come
  pub caused_at : (opening history : List Recording) → Follows rules app opening history logs → (i : ℕ) (r : Recording) → length opening ≤ i → slice_get history i ≡ Some r → (earlier : List Recording) × MayCome rules app earlier logs r.cause
  caused_at opening history so i r later found = EachComes-at opening so.added history (sym so.parts) so.each i r later found

module _ (rules : Rules) (local : IsLocal rules) (app : Name) (logs others : Logs) where
  -- where a notification is the cause, it is in other logs too, and the same
  abbrev pub IsSameFor : Cause → Type 0
  IsSameFor (Command asked) = Unit {0}
  IsSameFor (Notification leader id) = (id ≤ length (others leader)) × (slice_get (logs leader) (id - 1) ≡ slice_get (others leader) (id - 1))

  may_over : (before : List Recording) (cause : Cause) → IsSameFor cause → MayCome rules app before logs cause → MayCome rules app before others cause
  may_over before (Command asked) same may = may
  may_over before (Notification leader id) same may = record { leads = may.leads; next = may.next; there = same.0 }

  decided_over : (before : List Recording) (cause : Cause) (at : ℤ) → IsSameFor cause → rules.decide app before logs cause at ≡ rules.decide app before others cause at
  decided_over before (Command asked) at same = local.commands app before logs others asked at
  decided_over before (Notification leader id) at same = local.notifications app before logs others leader id at same.1

  -- so what comes next over the ones does over the others
  pub ComesNext-over : (before : List Recording) (r : Recording) → IsSameFor r.cause → ComesNext rules app before logs r → ComesNext rules app before others r
  ComesNext-over before r same so = record { cause = may_over before r.cause same so.cause; decided = sym (decided_over before r.cause r.at same) ∙ so.decided }

  -- each notification that a history tracks is in the other logs too, and the same
  abbrev pub AreSameFor : List Recording → Type 0
  AreSameFor whole = (leader : Name) (id : ℕ) → Contains rules.pairs (leader, app) → 0 < id → id ≤ length (logs leader) → id ≤ tracked_in whole leader → IsSameFor (Notification leader id)

  cause_same : (whole before : List Recording) → AreSameFor whole → (cause : Cause) → ((leader : Name) → id_from cause leader ≤ tracked_in whole leader) → MayCome rules app before logs cause → IsSameFor cause
  cause_same whole before same (Command asked) tracked may = tt
  cause_same whole before same (Notification leader id) tracked may =
      same leader id may.leads (omega (arith, may.next)) may.there (omega (arith, tracked leader, id_from-own leader id))

  EachComes-over : (whole before added : List Recording) → AreSameFor whole → before ++ added ≡ whole → EachComes rules app before logs added → EachComes rules app before others added
  EachComes-over whole before [] same is so = tt
  EachComes-over whole before (r ∷ added) same is so = (
    ComesNext-over before r (cause_same whole before same r.cause tracked so.0.cause) so.0,
    EachComes-over whole (before ++ r ∷ []) added same (append_assoc before (r ∷ []) added ∙ is) so.1,
  )
    where
      tracked : (leader : Name) → id_from r.cause leader ≤ tracked_in whole leader
      tracked leader = omega (arith, tracked_in-append before (r ∷ added) leader, ap (λ (h : List Recording). tracked_in h leader) is)

  pub Follows-over : (opening history : List Recording) → AreSameFor history → Follows rules app opening history logs → Follows rules app opening history others
  Follows-over opening history same so = record { added = so.added; parts = so.parts; each = EachComes-over history opening so.added same (sym so.parts) so.each }
