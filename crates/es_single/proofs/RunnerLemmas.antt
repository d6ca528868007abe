-- The leaders of a system, and what a runner holds.
use Rattle.std.proofs.Common.{◌≡◌, inl, inr, ℕ, Bool, true, false, List, [], ◌∷◌, ◌++◌, length, map, take, drop, slice_get, slice_index_or, if◌then◌else◌, All, Contains, Option, Some, Result, Ok, Err, OnOk, refl, sym, ap, ◌∙◌, subst}
use Rattle.std.specs.List.{list_any}
use Rattle.std.specs.Str.{bytes_eq}
use Rattle.std.proofs.Math.Seq.{take-append_seam}
use Rattle.std.proofs.lemmas.List.Elements.{All-contains_itself}
use Rattle.es_model.specs.declared.declaration.System.{System}
use Rattle.es_model.specs.declared.event.Recording.{Recording}
use Rattle.es_model.specs.declared.snapshot.Snapshot.{Snapshot}
use Rattle.es_model.specs.Values.{Name}
use Rattle.es_io.specs.Readings.{Readings}
use Rattle.es_lines.specs.declared.replies.Reply.{Reply}
use Rattle.es_lines.specs.declared.request.Request.{Request}
use Rattle.es_decl.specs.Pairs.{Pair, gathered, leaders_in, pairs_of, with_new}
use Rattle.es_decl.proofs.CheckedSystemLemmas.{pair-declared}
use Rattle.es_process.specs.declared.application.Application.{Application}
use Rattle.es_process.specs.declared.faults.RunFault.{RunFault}
use Rattle.es_process.specs.declared.faults.RunFault.TheVariants as fault
use Rattle.es_process.specs.Answer.{Options}
use Rattle.es_process.specs.Contents.{Contents}
use Rattle.es_process.specs.Drains.{AreApps, ArePrompted, Drains}
use Rattle.es_process.specs.Standing.{State, Holds, HoldContents, names_in}
use Rattle.es_process.specs.Terms.{Terms}
use Rattle.es_process.proofs.AmongLemmas.{contains-cases, contains-here, contains-later, contains-none}
use Rattle.es_process.proofs.StandingLemmas.{cut_here}
use Rattle.es_single.specs.declared.runner.SingleRunner.{SingleRunner}
use Rattle.es_single.specs.Answers.{Replies}
use Rattle.es_single.specs.Runner.{HoldsPrompted, apps_of, names_of}
use Rattle.es_single.specs.inner.Prompts.{HoldsAfter, is_accepted, prompted_by}

-- what holds of all items of some, and of one more, holds of all of them
module _ {A : Type 0} (P : A → Type 0) where
  behind : (xs : List A) (y : A) → ((x : A) → Contains xs x → P x) → P y → (x : A) → Contains (xs ++ y ∷ []) x → P x
  behind [] y all one x there = elim (contains-cases y [] x there) [ inl is ↦ subst P is one | inr none ↦ contains-none x none ]
  behind (z ∷ xs) y all one x there = elim (contains-cases z (xs ++ y ∷ []) x there) [
    | inl is ↦ subst P is (all z (contains-here z xs))
    | inr later ↦ behind xs y (λ w so. all w (contains-later z xs w so)) one x later
  ]

  new-behind : (b : Bool) (xs : List A) (y : A) → ((x : A) → Contains xs x → P x) → P y → (x : A) → Contains (if b then xs else xs ++ y ∷ []) x → P x
  new-behind true xs y all one = all
  new-behind false xs y all one = behind xs y all one

  of-gathered : (same : A → A → Bool) (xs ys : List A) → ((x : A) → Contains xs x → P x) → ((y : A) → Contains ys y → P y) → (x : A) → Contains (gathered same xs ys) x → P x
  of-gathered same xs [] all more = all
  of-gathered same xs (y ∷ ys) all more =
      of-gathered same (with_new same xs y) ys (new-behind (list_any (same y) xs) xs y all (more y (contains-here y ys))) (λ z so. more z (contains-later y ys z so))

-- the leaders of some pairs
leaders-of : (P : Name → Type 0) (ps : List Pair) → ((p : Pair) → Contains ps p → P p.0) → (n : Name) → Contains (map (λ (p : Pair). p.0) ps) n → P n
leaders-of P [] each n there = contains-none n there
leaders-of P (p ∷ ps) each n there = elim (contains-cases p.0 (map (λ (q : Pair). q.0) ps) n there) [
  | inl is ↦ subst P is (each p (contains-here p ps))
  | inr later ↦ leaders-of P ps (λ q so. each q (contains-later p ps q so)) n later
]

-- the leaders of a system are applications
pub leaders-declared : (sys : System) (names : List Name) → AreApps sys names → All (Contains names) (leaders_in (pairs_of sys.pipes))
leaders-declared sys names are k d within =
    let ps : List Pair = pairs_of sys.pipes in
    let ns : List Name = leaders_in ps in
    of-gathered (Contains names) bytes_eq [] (map (λ (p : Pair). p.0) ps) (λ x none. contains-none x none)
    (leaders-of (Contains names) ps (λ p so. subst (λ (ms : List Name). Contains ms p.0) (sym are.named) (pair-declared sys p are.checked so).0)) (slice_index_or ns k d) (All-contains_itself ns k d within)

-- what a vector holds after all of it was lent
pub written_back : {A : Type 0} (len : ℕ) (new lent items : List A) → length new ≡ length lent → lent ≡ items → len ≡ length items → take len (new ++ drop (length new) items) ≡ new
written_back len new lent items kept is size =
    let same : len ≡ length new = size ∙ ap length (sym is) ∙ sym kept in
    ap (λ k. take k (new ++ drop (length new) items)) same ∙ take-append_seam new (drop (length new) items)

-- nobody is prompted where no name is
pub none-prompted : {A B : Type 0} (f : A → B) (xs : List A) → map f xs ≡ [] → xs ≡ []
none-prompted f [] is = refl
none-prompted f (x ∷ xs) is = absurd (cc is)

-- the application at a place is prompted where the reply accepts its command
accepted-placed : (names : List Name) (place : ℕ) (name : Name) (b : Bool) → slice_get names place ≡ Some name → ArePrompted names (if b then place ∷ [] else []) (if b then name ∷ [] else [])
accepted-placed names place name true there = ap (λ (x : Option Name). x ∷ []) there
accepted-placed names place name false there = refl

pub prompted-placed : (names : List Name) (place : ℕ) (name : Name) (told : Reply) → slice_get names place ≡ Some name → ArePrompted names (prompted_by told place) (prompted_by told name)
prompted-placed names place name told there = accepted-placed names place name (is_accepted told) there

-- memory ran out before a drain began
pub starved_drain : (t : Terms) (s : State) (H : State → Type 0) (L : Contents → Type 0) (prompted : List Name) (u : Option (List ℕ)) (result : Result (Unit {0}) RunFault) → result ≡ Err fault.NoMemory → L s.contents → Drains t s H L prompted u result
starved_drain t s H L prompted u result is held = subst (λ x. Drains t s H L prompted u x) (sym is) (cut_here t s prompted [] L u held)

-- what holds of the applications that a runner lent holds of those that it has again
module _ {R : Type 0} (history stable : R → Option (List Recording)) (settled : R → Bool) (snapshots : R → Option (List Snapshot)) (capacity : R → ℕ) (base : Contents) (o : Options) (t : Terms) (s : State) (runner : SingleRunner R) (lent : List (Application R)) (readings : Option Readings)
    (written : apps_of runner ≡ lent) where
  holds-back : (next : State) → Holds history settled snapshots capacity base o lent readings next → Holds history settled snapshots capacity base o (apps_of runner) readings next
  holds-back next held = subst (λ (xs : List (Application R)). Holds history settled snapshots capacity base o xs readings next) (sym written) held

  drained-as : (prompted : List Name) (u : Option (List ℕ)) (L : Contents → Type 0) (result : Result (Unit {0}) RunFault) → OnOk result (runner.prompted.items ≡ []) → Drains t s (Holds history settled snapshots capacity base o lent readings) L prompted u result
      → Drains t s (λ next. HoldsPrompted history settled snapshots capacity base o runner readings next []) L prompted u result
  drained-as prompted u L (Ok y) none x = record {
    state = x.state;
    steps = x.steps;
    held = record { holds = holds-back x.state x.held; prompts = ap (map (slice_get (names_of runner))) none };
    goes = x.goes;
    written = x.written;
  }
  drained-as prompted u L (Err f) none x = x

  pub drained_back : (prompted : List Name) (u : Option (List ℕ)) (result : Result (Unit {0}) RunFault) → OnOk result (runner.prompted.items ≡ [])
      → Drains t s (Holds history settled snapshots capacity base o lent readings) (HoldContents history stable snapshots base lent) prompted u result
      → Drains t s (λ next. HoldsPrompted history settled snapshots capacity base o runner readings next []) (HoldContents history stable snapshots base (apps_of runner)) prompted u result
  drained_back prompted u result none x =
      subst (λ (xs : List (Application R)). Drains t s (λ next. HoldsPrompted history settled snapshots capacity base o runner readings next []) (HoldContents history stable snapshots base xs) prompted u result) (sym written)
      (drained-as prompted u (HoldContents history stable snapshots base lent) result none x)

  pub replied_back : (r : Request) (told : Reply) (names : List Name) (place : ℕ) → names_in lent ≡ names → runner.prompted.items ≡ prompted_by told place
      → Replies t s r told (HoldsAfter (Holds history settled snapshots capacity base o lent readings) names (prompted_by told place)) → Replies t s r told (HoldsPrompted history settled snapshots capacity base o runner readings)
  replied_back r told names place same queue x =
      let named : names_of runner ≡ names = ap (λ (xs : List (Application R)). names_in xs) written ∙ same in
      record {
        changes = x.changes;
        state = x.state;
        prompted = x.prompted;
        held = record { holds = holds-back x.state x.held.held; prompts = (λ i. map (slice_get (named i)) (queue i)) ∙ x.held.prompts };
        turn = x.turn;
      }
