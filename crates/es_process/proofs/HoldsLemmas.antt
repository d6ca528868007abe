-- What applications hold after one of them changed.
use Rattle.std.proofs.Common.{◌≡◌, ◌≤◌, inl, inr, ℕ, Bool, zero, suc, true, false, List, [], ◌∷◌, ◌++◌, Option, Some, None, Contains, length, slice_get, slice_set, option_map, refl, sym, ap, ◌∙◌, subst, arith}
use Rattle.std.proofs.lemmas.Option.{slice_get-map}
use Rattle.es_model.specs.Causes.{Rose}
use Rattle.es_model.specs.History.{log}
use Rattle.es_model.specs.Tracking.{tracked_in}
use Rattle.es_model.specs.Values.{Name}
use Rattle.es_model.specs.declared.event.Recording.{Recording}
use Rattle.es_model.specs.declared.snapshot.Snapshot.{Snapshot}
use Rattle.es_model.specs.Snapshots.{put_snapshot}
use Rattle.es_io.specs.Readings.{Readings}
use Rattle.es_recorder.specs.Stable.{GrowsTold}
use Rattle.es_model.specs.declared.memory.CallFault.{CallFault}
use Rattle.es_model.specs.declared.memory.CallFault.TheVariants as call
use Rattle.es_process.specs.declared.application.Application.{Application}
use Rattle.es_process.specs.declared.faults.RunFault.{RunFault}
use Rattle.es_process.specs.declared.faults.RunFault.TheVariants as fault
use Rattle.es_process.specs.Faults.{of_call}
use Rattle.es_process.specs.Answer.{Options, put_each}
use Rattle.es_process.specs.Contents.{Contents, added, snapped}
use Rattle.es_process.specs.Leaves.{Tells}
use Rattle.es_process.specs.SingleThread.{is_among}
use Rattle.es_process.specs.Standing.{State, HoldsOne, Holds, TracksWithin, StayWithin, HasStable, TellsContents, HoldContents, AreElsewhere, IsKeptElsewhere, AreDistinct, Stays, IsSame, AllStay, names_in, faults_at, count_of, Later, SomeRose}
use Rattle.es_process.proofs.AmongLemmas.{contains-here, contains-cases, contains-none, contains-later, contains-among, put-other}
use Rattle.es_process.proofs.SetLemmas.{get-same, get-cases, map-set}
use Rattle.es_process.proofs.StableLemmas.{TrackFrom, has-grown}

pub contains-at : {A : Type 0} (xs : List A) (i : ℕ) (x : A) → slice_get xs i ≡ Some x → Contains xs x
contains-at [] i x at = absurd (cc at)
contains-at (y ∷ ys) zero x at = let is : y ≡ x = cc in subst (Contains (y ∷ ys)) is (contains-here y ys)
contains-at (y ∷ ys) (suc i) x at = contains-later y ys x (contains-at ys i x at)

pub at-contains : {A : Type 0} (xs : List A) (x : A) → Contains xs x → (i : ℕ) × (slice_get xs i ≡ Some x)
at-contains [] x so = contains-none x so
at-contains (y ∷ ys) x so = elim (contains-cases y ys x so) [
  | inl is ↦ (0, ap Some is)
  | inr behind ↦ (let at = at-contains ys x behind in (suc at.0, at.1))
]

-- two contents are the same but at one application
pub record AreAlikeBut (name : Name) (c d : Contents) : Type 0 where
  pub histories : (n : Name) → (n ≡ name → ⊥) → d.histories n ≡ c.histories n
  pub snapshots : (n : Name) → (n ≡ name → ⊥) → d.snapshots n ≡ c.snapshots n

pub alike-same : (name : Name) (c : Contents) → AreAlikeBut name c c
alike-same name c = record { histories = λ n other. refl; snapshots = λ n other. refl }

pub alike-added : (name : Name) (c : Contents) (r : Recording) (ss : List Snapshot) → AreAlikeBut name c (added c name r ss)
alike-added name c r ss = record {
  histories = put-other c.histories name (c.histories name ++ r ∷ []);
  snapshots = put-other c.snapshots name (put_each (c.snapshots name) ss);
}

pub alike-snapped : (name : Name) (c : Contents) (s : Snapshot) → AreAlikeBut name c (snapped c name s)
alike-snapped name c s = record { histories = λ n other. refl; snapshots = put-other c.snapshots name (put_snapshot (c.snapshots name) s) }

module _ {R : Type 0} where
  -- the name of an application at its place
  pub name-at : (apps : List (Application R)) (i : ℕ) (a : Application R) → slice_get apps i ≡ Some a → slice_get (names_in apps) i ≡ Some a.name
  name-at apps i a at = slice_get-map (λ x. x.name) apps i ∙ ap (option_map (λ x. x.name)) at

  -- an application at the place of a name
  pub app-at : (apps : List (Application R)) (i : ℕ) (n : Name) → slice_get (names_in apps) i ≡ Some n → (a : Application R) × (slice_get apps i ≡ Some a) × (a.name ≡ n)
  app-at apps i n at = by (slice_get apps i) refl
    where
      by : (o : Option (Application R)) → slice_get apps i ≡ o → (a : Application R) × (slice_get apps i ≡ Some a) × (a.name ≡ n)
      by None is = absurd (let e : None ≡ Some n = sym (slice_get-map (λ x. x.name) apps i ∙ ap (option_map (λ x. x.name)) is) ∙ at in cc e)
      by (Some a) is = (a, is, let e : Some a.name ≡ Some n = sym (slice_get-map (λ x. x.name) apps i ∙ ap (option_map (λ x. x.name)) is) ∙ at in (let f : a.name ≡ n = cc in f))

  -- a name that is elsewhere is not that of an application
  pub other-name : (apps : List (Application R)) (i : ℕ) (a : Application R) (n : Name) → slice_get apps i ≡ Some a → is_among n (names_in apps) ≡ false → n ≡ a.name → ⊥
  other-name apps i a n at none is =
      let here : is_among n (names_in apps) ≡ true = ap (λ m. is_among m (names_in apps)) is ∙ contains-among a.name (names_in apps) (contains-at (names_in apps) i a.name (name-at apps i a at)) in
      let clash : false ≡ true = sym none ∙ here in absurd (cc clash)

  -- what an application that holds the state tells is stable
  one-stable : (history stable : R → Option (List Recording)) (settled : R → Bool) (whole : (r : R) → settled r ≡ true → stable r ≡ history r) (snapshots : R → Option (List Snapshot)) (capacity : R → ℕ) (o : Options) (a : Application R) (s : State) (id : ℕ)
      → HoldsOne history settled snapshots capacity o a s → id ≤ length (log (s.contents.histories a.name)) → HasStable (stable a.recorder) id
  one-stable history stable settled whole snapshots capacity o a s id one less = subst (λ h. HasStable h id) (sym (whole a.recorder one.whole ∙ one.told)) less

  module _ (apps : List (Application R)) (distinct : AreDistinct (names_in apps)) (i : ℕ) (a b : Application R) (at : slice_get apps i ≡ Some a) (named : b.name ≡ a.name) where
    pub names-kept : names_in (slice_set apps i b) ≡ names_in apps
    names-kept = map-set (λ x. x.name) apps i b a at named

    -- the name of another application is another
    apart : (j : ℕ) (c : Application R) → (j ≡ i → ⊥) → slice_get apps j ≡ Some c → c.name ≡ a.name → ⊥
    apart j c other there is = other (distinct j i a.name (name-at apps j c there ∙ ap Some is) (name-at apps i a at))

    elsewhere-kept : {A : Type 0} (base h k : Name → A) → ((n : Name) → (n ≡ a.name → ⊥) → k n ≡ h n) → AreElsewhere base apps h → AreElsewhere base (slice_set apps i b) k
    elsewhere-kept base h k same away = λ n none.
        let was : is_among n (names_in apps) ≡ false = ap (is_among n) (sym names-kept) ∙ none in
        same n (other-name apps i a n at was) ∙ away n was

    all-elsewhere : (base c d : Contents) → AreAlikeBut a.name c d → IsKeptElsewhere base apps c → IsKeptElsewhere base (slice_set apps i b) d
    all-elsewhere base c d alike kept = record {
      histories = elsewhere-kept base.histories c.histories d.histories alike.histories kept.histories;
      snapshots = elsewhere-kept base.snapshots c.snapshots d.snapshots alike.snapshots kept.snapshots;
    }

    -- what is kept, where one changed after all was settled: what it told then is stable still, and nobody tracks more
    pub contents-set : (history stable : R → Option (List Recording)) (settled : R → Bool) (whole : (r : R) → settled r ≡ true → stable r ≡ history r) (snapshots : R → Option (List Snapshot)) (capacity : R → ℕ) (base : Contents) (o : Options) (readings : Option Readings) (s : State) (d : Contents)
        → Holds history settled snapshots capacity base o apps readings s → Tells (d.histories a.name) (d.snapshots a.name) (history b.recorder) (snapshots b.recorder) → AreAlikeBut a.name s.contents d
        → (settled a.recorder ≡ true → GrowsTold (history a.recorder) (stable b.recorder)) → TrackFrom base.histories s.contents.histories d.histories → HoldContents history stable snapshots base (slice_set apps i b) d
    contents-set history stable settled whole snapshots capacity base o readings s d held tells alike grows track = record {
      each = λ j x there. get-cases (λ (y : Application R). TellsContents history snapshots y d) apps i j b a x at there
          (record { told = tells.recordings ∙ ap (λ n. Some (d.histories n)) (sym named); told_snapshots = tells.snapshots ∙ ap (λ n. Some (d.snapshots n)) (sym named) })
          (λ other was. let h = held.each j x was in record {
            told = h.told ∙ ap Some (sym (alike.histories x.name (apart j x other was)));
            told_snapshots = h.told_snapshots ∙ ap Some (sym (alike.snapshots x.name (apart j x other was)));
          });
      within = λ j x there. get-cases (λ (y : Application R). (follower : Name) → (y.name ≡ follower → ⊥) → TracksWithin base.histories y.name follower → HasStable (stable y.recorder) (tracked_in (d.histories follower) y.name)) apps i j b a x at there
          (λ follower. subst (λ n. (n ≡ follower → ⊥) → TracksWithin base.histories n follower → HasStable (stable b.recorder) (tracked_in (d.histories follower) n)) (sym named) (still follower))
          (λ other was follower differ before. one-stable history stable settled whole snapshots capacity o x s (tracked_in (d.histories follower) x.name) (held.each j x was) (track x.name follower differ before));
      elsewhere = all-elsewhere base s.contents d alike held.elsewhere;
    }
      where
        still : (follower : Name) → (a.name ≡ follower → ⊥) → TracksWithin base.histories a.name follower → HasStable (stable b.recorder) (tracked_in (d.histories follower) a.name)
        still follower differ before =
            let one = held.each i a at in
            has-grown (Some (s.contents.histories a.name)) (stable b.recorder) (tracked_in (d.histories follower) a.name) (subst (λ h. GrowsTold h (stable b.recorder)) one.told (grows one.whole)) (track a.name follower differ before)

    -- what is kept, where one changed in nothing that it tells, and as much is stable of it
    pub contents-same : (history stable : R → Option (List Recording)) (snapshots : R → Option (List Snapshot)) (base c : Contents) → HoldContents history stable snapshots base apps c → history b.recorder ≡ history a.recorder → snapshots b.recorder ≡ snapshots a.recorder
        → ((id : ℕ) → HasStable (stable a.recorder) id → HasStable (stable b.recorder) id) → HoldContents history stable snapshots base (slice_set apps i b) c
    contents-same history stable snapshots base c held told kept has = record {
      each = λ j x there. get-cases (λ (y : Application R). TellsContents history snapshots y c) apps i j b a x at there
          (let h = held.each i a at in record { told = told ∙ h.told ∙ ap (λ n. Some (c.histories n)) (sym named); told_snapshots = kept ∙ h.told_snapshots ∙ ap (λ n. Some (c.snapshots n)) (sym named) })
          (λ other was. held.each j x was);
      within = λ j x there. get-cases (λ (y : Application R). (follower : Name) → (y.name ≡ follower → ⊥) → TracksWithin base.histories y.name follower → HasStable (stable y.recorder) (tracked_in (c.histories follower) y.name)) apps i j b a x at there
          (λ follower. subst (λ n. (n ≡ follower → ⊥) → TracksWithin base.histories n follower → HasStable (stable b.recorder) (tracked_in (c.histories follower) n)) (sym named) (λ differ before. has (tracked_in (c.histories follower) a.name) (held.within i a at follower differ before)))
          (λ other was. held.within j x was);
      elsewhere = all-elsewhere base c c (alike-same a.name c) held.elsewhere;
    }

    -- the state, where one changed
    pub holds-set : (history : R → Option (List Recording)) (settled : R → Bool) (snapshots : R → Option (List Snapshot)) (capacity : R → ℕ) (base : Contents) (o : Options) (readings now : Option Readings) (s t : State) → Holds history settled snapshots capacity base o apps readings s
        → HoldsOne history settled snapshots capacity o b t → AreAlikeBut a.name s.contents t.contents → ((n : Name) → (n ≡ a.name → ⊥) → t.used n ≡ s.used n) → now ≡ Some t.readings → StayWithin base.histories t.contents.histories → Holds history settled snapshots capacity base o (slice_set apps i b) now t
    holds-set history settled snapshots capacity base o readings now s t held one alike counts read within = record {
      each = λ j c there. get-cases (λ (x : Application R). HoldsOne history settled snapshots capacity o x t) apps i j b a c at there one
          (λ other was. let h = held.each j c was in record {
            told = h.told ∙ ap Some (sym (alike.histories c.name (apart j c other was)));
            told_snapshots = h.told_snapshots ∙ ap Some (sym (alike.snapshots c.name (apart j c other was)));
            whole = h.whole;
            room = h.room;
            turns = h.turns;
            counted = h.counted ∙ sym (counts c.name (apart j c other was));
          });
      clock = read;
      within = within;
      elsewhere = all-elsewhere base s.contents t.contents alike held.elsewhere;
    }

  -- an application that is the same
  pub same-one : (history : R → Option (List Recording)) (settled : R → Bool) (snapshots : R → Option (List Snapshot)) (capacity : R → ℕ) {faults : R → ℕ} (o : Options) (a b : Application R) (s : State) → IsSame history settled capacity snapshots faults a b
      → HoldsOne history settled snapshots capacity o a s → HoldsOne history settled snapshots capacity o b s
  same-one history settled snapshots capacity o a b s same held = record {
    told = same.told ∙ held.told ∙ ap (λ n. Some (s.contents.histories n)) (sym same.stays.name);
    told_snapshots = same.kept ∙ held.told_snapshots ∙ ap (λ n. Some (s.contents.snapshots n)) (sym same.stays.name);
    whole = same.settled_is ∙ held.whole;
    room = same.stays.room ∙ held.room;
    turns = same.stays.turns ∙ held.turns;
    counted = same.used ∙ held.counted ∙ ap s.used (sym same.stays.name);
  }

  pub holds-same : (apps : List (Application R)) → AreDistinct (names_in apps) → (i : ℕ) (a b : Application R) → slice_get apps i ≡ Some a → (history : R → Option (List Recording)) (settled : R → Bool) (snapshots : R → Option (List Snapshot)) (capacity : R → ℕ) {faults : R → ℕ}
      → IsSame history settled capacity snapshots faults a b → (base : Contents) (o : Options) (readings : Option Readings) (s : State) → Holds history settled snapshots capacity base o apps readings s → Holds history settled snapshots capacity base o (slice_set apps i b) readings s
  holds-same apps distinct i a b at history settled snapshots capacity same base o readings s held =
      holds-set apps distinct i a b at same.stays.name history settled snapshots capacity base o readings readings s s held (same-one history settled snapshots capacity o a b s same (held.each i a at)) (alike-same a.name s.contents) (λ n other. refl) held.clock held.within

  -- the state tells what is kept
  pub held-contents : (history stable : R → Option (List Recording)) (settled : R → Bool) (whole : (r : R) → settled r ≡ true → stable r ≡ history r) (snapshots : R → Option (List Snapshot)) (capacity : R → ℕ) (base : Contents) (o : Options) (apps : List (Application R)) (readings : Option Readings) (s : State)
      → Holds history settled snapshots capacity base o apps readings s → HoldContents history stable snapshots base apps s.contents
  held-contents history stable settled whole snapshots capacity base o apps readings s held = record {
    each = λ i a at. let one = held.each i a at in record { told = one.told; told_snapshots = one.told_snapshots };
    within = λ i a at follower differ before. one-stable history stable settled whole snapshots capacity o a s (tracked_in (s.contents.histories follower) a.name) (held.each i a at) (held.within a.name follower differ before);
    elsewhere = held.elsewhere;
  }

  -- counts of faults
  pub later-none : (faults : R → ℕ) (apps : List (Application R)) → Later faults apps apps
  later-none faults apps i = omega arith

  pub later-then : (faults : R → ℕ) (a b c : List (Application R)) → Later faults a b → Later faults b c → Later faults a c
  later-then faults a b c x y i = omega (arith, x i, y i)

  pub rose-then : (faults : R → ℕ) (a b c : List (Application R)) → Later faults a b → SomeRose faults b c → SomeRose faults a c
  rose-then faults a b c x (i, y) = (i, omega (arith, x i, y))

  count-at : (faults : R → ℕ) (apps : List (Application R)) (i : ℕ) (a : Application R) → slice_get apps i ≡ Some a → faults_at faults apps i ≡ faults a.recorder
  count-at faults apps i a at = ap (count_of faults) at

  pub later-set : (faults : R → ℕ) (apps : List (Application R)) (i : ℕ) (a b : Application R) → slice_get apps i ≡ Some a → faults a.recorder ≤ faults b.recorder → Later faults apps (slice_set apps i b)
  later-set faults [] i a b at less j = absurd (cc at)
  later-set faults (c ∷ cs) zero a b at less zero = let is : c ≡ a = cc in omega (arith, ap (λ (x : Application R). faults x.recorder) is, less)
  later-set faults (c ∷ cs) zero a b at less (suc j) = omega arith
  later-set faults (c ∷ cs) (suc i) a b at less zero = omega arith
  later-set faults (c ∷ cs) (suc i) a b at less (suc j) = later-set faults cs i a b at less j

  -- what stays of all applications: none changed, or some after others, or one
  pub all-none : (faults : R → ℕ) (apps : List (Application R)) → AllStay faults apps apps
  all-none faults apps = record { names = refl; later = later-none faults apps }

  pub all-then : {faults : R → ℕ} {a b c : List (Application R)} → AllStay faults a b → AllStay faults b c → AllStay faults a c
  all-then {faults} {a} {b} {c} x y = record { names = y.names ∙ x.names; later = later-then faults a b c x.later y.later }

  pub all-set : {capacity : R → ℕ} {faults : R → ℕ} (apps : List (Application R)) → AreDistinct (names_in apps) → (i : ℕ) (a b : Application R) → slice_get apps i ≡ Some a → Stays capacity faults a b → AllStay faults apps (slice_set apps i b)
  all-set {capacity} {faults} apps distinct i a b at stays = record {
    names = names-kept apps distinct i a b at stays.name;
    later = later-set faults apps i a b at stays.later;
  }

  pub rose-set : (faults : R → ℕ) (apps : List (Application R)) (i : ℕ) (a b : Application R) → slice_get apps i ≡ Some a → Rose (faults a.recorder) (faults b.recorder) → SomeRose faults apps (slice_set apps i b)
  rose-set faults apps i a b at rose = (i, omega (arith, count-at faults apps i a at, count-at faults (slice_set apps i b) i b (get-same apps i b a at), rose))

-- a call failed where the fault that it is does
pub call-failed : (f : CallFault) (e : RunFault) → e ≡ of_call f → e ≡ fault.Recorder → f ≡ call.Failed
call-failed call.Failed e is recorder = refl
call-failed call.NoMemory e is recorder = let clash : fault.NoMemory ≡ fault.Recorder = sym is ∙ recorder in absurd (cc clash)
