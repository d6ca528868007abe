-- Refusals, and formed histories with one recording more.
use Rattle.std.proofs.Common.{◌≡◌, ◌⊎◌, inl, inr, ◌<◌, ◌^◌, ◌==◌, ℕ, ◌+◌, Bool, true, false, ◌&&◌, not, nat_lt, nat_le, List, [], ◌∷◌, ◌++◌, length, if◌then◌else◌, Option, Some, None, Err, refl, sym, ap, ◌∙◌, subst, length-append, arith}
use Rattle.std.specs.Option.{option_or, is_some}
use Rattle.std.proofs.lemmas.Bool.{cases_lt}
use Rattle.std.proofs.lemmas.Bool.Decides.{nat_tests}
use Rattle.es_model.specs.declared.event.Recording.{Recording}
use Rattle.es_model.specs.declared.event.StoredEvent.{StoredEvent}
use Rattle.es_model.specs.declared.event.Cause.{Cause}
use Rattle.es_model.specs.declared.event.Cause.TheVariants.{Command, Notification}
use Rattle.es_model.specs.History.{log, latest, versions_follow, cause_follows, IsFormed}
use Rattle.es_model.specs.Tracking.{tracked_in}
use Rattle.es_model.proofs.HistoryLemmas.{log-push, versions_follow-append, causes_follow-append, size-push}
use Rattle.es_recorder.specs.declared.recorder.InsertFault.{InsertFault}
use Rattle.es_recorder.specs.declared.recorder.InsertFault.TheVariants.{Conflict, Tracking, Full, Failed, NoMemory}
use Rattle.es_recorder.specs.Insert.{first_conflict, repeated, too_many, refusal, IdIsSmall, IsInsertable, IsSmall, PassesCapacity, InsertHasCause}

-- a conflict is where the versions don't follow
pub conflict-is : (before es : List StoredEvent) → is_some (first_conflict before es) ≡ not (versions_follow before es)
conflict-is before [] = refl
conflict-is before (e ∷ es) =
    elim (e.originator_version == latest before e.originator_id + 1) as (λ b. is_some (if b then first_conflict (before ++ e ∷ []) es else Some (Conflict e.originator_id e.originator_version (latest before e.originator_id))) ≡ not (b && versions_follow (before ++ e ∷ []) es)) [
      | true ↦ conflict-is (before ++ e ∷ []) es
      | false ↦ refl
    ]

not_false : (b : Bool) → false ≡ not b → b ≡ true
not_false true is = refl
not_false false is = absurd (cc is)

not_true : (b : Bool) → true ≡ not b → b ≡ false
not_true true is = absurd (cc is)
not_true false is = refl

pub conflict-none : (before es : List StoredEvent) → is_some (first_conflict before es) ≡ false → versions_follow before es ≡ true
conflict-none before es none = not_false (versions_follow before es) (sym none ∙ conflict-is before es)

pub conflict-some : (before es : List StoredEvent) → is_some (first_conflict before es) ≡ true → versions_follow before es ≡ false
conflict-some before es some = not_true (versions_follow before es) (sym some ∙ conflict-is before es)

-- what a refusal may be
abbrev pub IsRefusal : ℕ → List Recording → Recording → InsertFault → Type 0
IsRefusal capacity h r (Conflict id version newest) = Unit {0}
IsRefusal capacity h r (Tracking leader id tracked) = Unit {0}
IsRefusal capacity h r (Full last most) = (most ≡ capacity) × (last ≡ length (log h)) × (0 < length r.events) × (capacity < last + length r.events)
IsRefusal capacity h r Failed = ⊥
IsRefusal capacity h r NoMemory = ⊥

or_some : {A : Type 0} (a b : Option A) (x : A) → option_or a b ≡ Some x → (a ≡ Some x) ⊎ (b ≡ Some x)
or_some None b x is = inr is
or_some (Some y) b x is = inl is

or_none : {A : Type 0} (a b : Option A) → option_or a b ≡ None → (a ≡ None) × (b ≡ None)
or_none None b is = (refl, is)
or_none (Some y) b is = absurd (cc is)

some_is : {A : Type 0} (P : A → Type 0) (x y : A) → Some x ≡ Some y → P x → P y
some_is P x y is p = let same : x ≡ y = cc in subst P same p

conflict_refusal : (capacity : ℕ) (h : List Recording) (r : Recording) (before es : List StoredEvent) (f : InsertFault) → first_conflict before es ≡ Some f → IsRefusal capacity h r f
conflict_refusal capacity h r before [] f = λ is. absurd (cc is)
conflict_refusal capacity h r before (e ∷ es) f =
    elim (e.originator_version == latest before e.originator_id + 1) as (λ b. (if b then first_conflict (before ++ e ∷ []) es else Some (Conflict e.originator_id e.originator_version (latest before e.originator_id))) ≡ Some f → IsRefusal capacity h r f) [
      | true ↦ λ is. conflict_refusal capacity h r (before ++ e ∷ []) es f is
      | false ↦ λ is. some_is (IsRefusal capacity h r) (Conflict e.originator_id e.originator_version (latest before e.originator_id)) f is tt
    ]

repeat_refusal : (capacity : ℕ) (h : List Recording) (r : Recording) (cause : Cause) (f : InsertFault) → repeated h cause ≡ Some f → IsRefusal capacity h r f
repeat_refusal capacity h r (Command text) f = λ is. absurd (cc is)
repeat_refusal capacity h r (Notification leader id) f =
    elim (nat_le id (tracked_in h leader)) as (λ b. (if b then Some (Tracking leader id (tracked_in h leader)) else None) ≡ Some f → IsRefusal capacity h r f) [
      | true ↦ λ is. some_is (IsRefusal capacity h r) (Tracking leader id (tracked_in h leader)) f is tt
      | false ↦ λ is. absurd (cc is)
    ]

full_refusal : (capacity : ℕ) (h : List Recording) (r : Recording) (es : List StoredEvent) (f : InsertFault) → es ≡ r.events → too_many capacity (length (log h)) es ≡ Some f → IsRefusal capacity h r f
full_refusal capacity h r [] f same is = absurd (cc is)
full_refusal capacity h r (e ∷ es) f same is = elim (cases_lt capacity (length (log h) + length (e ∷ es))) [
  | inl past ↦
      let full : Some (Full (length (log h)) capacity) ≡ Some f = (let t : nat_lt capacity (length (log h) + length (e ∷ es)) ≡ true = grind (arith, nat_tests) in λ i. if sym t i then Some (Full (length (log h)) capacity) else None) ∙ is in
      some_is (IsRefusal capacity h r) (Full (length (log h)) capacity) f full (refl, refl, omega (arith, ap length same), omega (arith, ap length same))
  | inr fits ↦
      let none : None ≡ Some f = (let t : nat_lt capacity (length (log h) + length (e ∷ es)) ≡ false = grind (arith, nat_tests) in λ i. if sym t i then Some (Full (length (log h)) capacity) else None) ∙ is in
      absurd (cc none)
]

pub refusal-is : (capacity : ℕ) (h : List Recording) (r : Recording) (f : InsertFault) → refusal capacity h r ≡ Some f → IsRefusal capacity h r f
refusal-is capacity h r f is = elim (or_some (first_conflict (log h) r.events) _ f is) [
  | inl conflict ↦ conflict_refusal capacity h r (log h) r.events f conflict
  | inr other ↦ elim (or_some (repeated h r.cause) (too_many capacity (length (log h)) r.events) f other) [
    | inl repeat ↦ repeat_refusal capacity h r r.cause f repeat
    | inr full ↦ full_refusal capacity h r r.events f refl full
  ]
]

-- a refusal, or want of memory
abbrev pub MayRefuse : ℕ → List Recording → Recording → InsertFault → Type 0
MayRefuse capacity h r f = (f ≡ NoMemory) ⊎ (refusal capacity h r ≡ Some f)

by_fault : (P : InsertFault → Type 0) (capacity : ℕ) (h : List Recording) (r : Recording) (f : InsertFault) → MayRefuse capacity h r f → P NoMemory → (IsRefusal capacity h r f → P f) → P f
by_fault P capacity h r f (inl none) p q = subst P (sym none) p
by_fault P capacity h r f (inr is) p q = q (refusal-is capacity h r f is)

small_refusal : (capacity : ℕ) (h : List Recording) (r : Recording) (f : InsertFault) → length (log h) < 2 ^ 62 → IsRefusal capacity h r f → IsSmall (Err f)
small_refusal capacity h r (Conflict id version newest) few is = tt
small_refusal capacity h r (Tracking leader id tracked) few is = tt
small_refusal capacity h r (Full last most) few is = omega (arith, is.1)
small_refusal capacity h r Failed few is = absurd is
small_refusal capacity h r NoMemory few is = absurd is

pub refused-small : (capacity : ℕ) (h : List Recording) (r : Recording) (f : InsertFault) → IsFormed h → MayRefuse capacity h r f → IsSmall (Err f)
refused-small capacity h r f formed may = by_fault (λ x. IsSmall (Err x)) capacity h r f may tt (small_refusal capacity h r f formed.few_events)

full_passes : (capacity : ℕ) (h : List Recording) (r : Recording) (f : InsertFault) → IsRefusal capacity h r f → PassesCapacity capacity r (Err f)
full_passes capacity h r (Conflict id version newest) is = tt
full_passes capacity h r (Tracking leader id tracked) is = tt
full_passes capacity h r (Full last most) is = (is.0, is.2, is.3)
full_passes capacity h r Failed is = absurd is
full_passes capacity h r NoMemory is = absurd is

pub refused-full : (capacity : ℕ) (h : List Recording) (r : Recording) (f : InsertFault) → MayRefuse capacity h r f → PassesCapacity capacity r (Err f)
refused-full capacity h r f may = by_fault (λ x. PassesCapacity capacity r (Err x)) capacity h r f may tt (full_passes capacity h r f)

no_failure : (capacity : ℕ) (h : List Recording) (r : Recording) (f : InsertFault) → IsRefusal capacity h r f → InsertHasCause 0 0 (Err f)
no_failure capacity h r (Conflict id version newest) is = record { later = omega arith; failed = λ e. absurd (cc e) }
no_failure capacity h r (Tracking leader id tracked) is = record { later = omega arith; failed = λ e. absurd (cc e) }
no_failure capacity h r (Full last most) is = record { later = omega arith; failed = λ e. absurd (cc e) }
no_failure capacity h r Failed is = absurd is
no_failure capacity h r NoMemory is = absurd is

pub refused-cause : (capacity : ℕ) (h : List Recording) (r : Recording) (f : InsertFault) → MayRefuse capacity h r f → InsertHasCause 0 0 (Err f)
refused-cause capacity h r f may = by_fault (λ x. InsertHasCause 0 0 (Err x)) capacity h r f may (record { later = omega arith; failed = λ e. absurd (cc e) }) (no_failure capacity h r f)

-- the cause of what isn't refused follows
cause_new : (h : List Recording) (cause : Cause) → IdIsSmall cause → repeated h cause ≡ None → cause_follows h cause ≡ true
cause_new h (Command text) small none = refl
cause_new h (Notification leader id) small none = elim (cases_lt (tracked_in h leader) id) [
  | inl new ↦ grind (arith, nat_tests)
  | inr known ↦
      let clash : Some (Tracking leader id (tracked_in h leader)) ≡ None = (let t : nat_le id (tracked_in h leader) ≡ true = grind (arith, nat_tests) in λ i. if sym t i then Some (Tracking leader id (tracked_in h leader)) else None) ∙ none in
      absurd (cc clash)
]

fits_none : (capacity last : ℕ) (es : List StoredEvent) → capacity < 2 ^ 62 → last < 2 ^ 62 → too_many capacity last es ≡ None → last + length es < 2 ^ 62
fits_none capacity last [] small few none = omega arith
fits_none capacity last (e ∷ es) small few none = elim (cases_lt capacity (last + length (e ∷ es))) [
  | inl past ↦
      let clash : Some (Full last capacity) ≡ None = (let t : nat_lt capacity (last + length (e ∷ es)) ≡ true = grind (arith, nat_tests) in λ i. if sym t i then Some (Full last capacity) else None) ∙ none in
      absurd (cc clash)
  | inr fits ↦ omega arith
]

conflict_not : (o : Option InsertFault) → o ≡ None → is_some o ≡ false
conflict_not o none = ap is_some none

pub fits-insert : (capacity : ℕ) (h : List Recording) (r : Recording) → IsFormed h → refusal capacity h r ≡ None → capacity < 2 ^ 62 → length (log h) + length r.events < 2 ^ 62
fits-insert capacity h r formed none small =
    let first = or_none (first_conflict (log h) r.events) _ none in
    let second = or_none (repeated h r.cause) _ first.1 in
    fits_none capacity (length (log h)) r.events small formed.few_events second.1

-- what isn't refused leaves a formed history
pub IsFormed-push : (capacity : ℕ) (h : List Recording) (r : Recording) → IsFormed h → IsInsertable r → refusal capacity h r ≡ None → capacity < 2 ^ 62 → length h + 1 < 2 ^ 62 → IsFormed (h ++ r ∷ [])
IsFormed-push capacity h r formed may none small room =
    let first = or_none (first_conflict (log h) r.events) _ none in
    let second = or_none (repeated h r.cause) _ first.1 in
    record {
      versions = ap (versions_follow []) (log-push h r) ∙ versions_follow-append [] (log h) r.events ∙ (λ i. formed.versions i && conflict-none (log h) r.events (conflict_not (first_conflict (log h) r.events) first.0) i);
      causes = causes_follow-append [] h (r ∷ []) ∙ (λ i. formed.causes i && (cause_new h r.cause may.cause second.0 i && true));
      few = omega (arith, length-append h (r ∷ []));
      few_events = omega (arith, size-push h r, fits_none capacity (length (log h)) r.events small formed.few_events second.1);
    }
