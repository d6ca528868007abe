-- From a run over opened applications to one over the stores.
use Rattle.std.proofs.Common.{◌≡◌, ◌≤◌, pos, ℕ, Bool, true, false, List, [], ◌++◌, length, take, drop, Option, Some, None, IfOk, Result, Ok, Err, if◌then◌else◌, refl, sym, ap, ◌∙◌, subst, append-nil, arith}
use Rattle.std.proofs.Math.Seq.{take-append_seam}
use Rattle.std.specs.Io.KnownBytes.{Appends}
use Rattle.es_model.specs.Causes.{Rose}
use Rattle.es_model.specs.declared.declaration.System.{System}
use Rattle.es_model.specs.declared.event.Recording.{Recording}
use Rattle.es_model.specs.declared.memory.Failed.{Failed}
use Rattle.es_model.specs.declared.snapshot.Snapshot.{Snapshot}
use Rattle.es_model.specs.History.{Histories}
use Rattle.es_model.specs.Values.{Name}
use Rattle.es_io.specs.Readings.{Readings}
use Rattle.es_lines.specs.declared.ends.End.{End}
use Rattle.es_lines.specs.declared.ends.End.TheVariants as end
use Rattle.es_io.specs.Remains.{MayHold}
use Rattle.es_process.specs.Answer.{Options}
use Rattle.es_process.specs.Contents.{Contents}
use Rattle.es_process.specs.declared.application.Application.{Application}
use Rattle.es_process.specs.SingleThread.{is_among, left_by, written_by}
use Rattle.es_process.specs.Standing.{AllStay, AreDistinct, Holds, SomeRose, State, faults_at, names_in}
use Rattle.es_process.specs.SystemRules.{rules_of}
use Rattle.es_process.proofs.RunOverLemmas.{one_run_over}
use Rattle.es_process.proofs.StandingLemmas.{appends_nothing}
use Rattle.es_top.specs.Limits.{limits, terms_of, lines_for}
use Rattle.es_top.specs.Runs.{IsRunning, PartRun, Runs, WholeRun}
use Rattle.es_top.specs.Traced.{OfInput}
use Rattle.es_top.specs.Sorts.{itself, sort_of, unbegun}
use Rattle.es_top.specs.Opened.{marked, AreFresh, ClosesEach, HoldElsewhere, TellEach, SomeFailed}
use Rattle.es_top.specs.inner.Ran.{IsOfSystem, Stands}
use Rattle.es_top.specs.Top.{FollowsBy, IsLeft, Made, StoresTell}

-- something that an object may hold
may_hold : {A : Type 0} (told : Option A) → A → (a : A) × MayHold told a
may_hold None a = (a, tt)
may_hold (Some told) a = (told, refl)

-- an input and readings, of which none was taken
pub of_input : (left : Option (List ℕ)) (clock : Option Readings) (P : List ℕ → List ℕ → Readings → Type 0) → ((i : List ℕ) (r : Readings) → P i i r) → OfInput left left clock P
of_input left clock P holds =
    let i = may_hold left [] in
    let r = may_hold clock (record { next = []; after = pos 0 }) in
    record { input = i.0; rest = i.0; readings = r.0; held = i.1; left = i.1; told = r.1; holds = holds i.0 r.0 }

-- what follows of them
pub of_then : {old new : Option (List ℕ)} {clock : Option Readings} {P Q : List ℕ → List ℕ → Readings → Type 0} → OfInput old new clock P → ((i rest : List ℕ) (r : Readings) → P i rest r → Q i rest r) → OfInput old new clock Q
of_then x f = record { input = x.input; rest = x.rest; readings = x.readings; held = x.held; left = x.left; told = x.told; holds = f x.input x.rest x.readings x.holds }

-- nothing was run; all steps are still to be made
abbrev pub made_none : (sys : System) (i : List ℕ) (r : Readings) (h : Contents) (left : Contents → Type 0) (u w : Option (List ℕ)) → left h → w ≡ u → Made sys i r h left u w []
made_none sys i r h left u w held still =
    let one = one_run_over (rules_of sys) limits h r (lines_for (rules_of sys) i) in
    record { run = one.run; done = []; rest = one.run.steps; is = one.is; parts = refl; held = held; written = subst (λ x. Appends u x []) (sym still) (appends_nothing u) }

-- a run over applications
module _ (sys : System) (h : Contents) (r : Readings) (i : List ℕ) (left : Contents → Type 0) (u w : Option (List ℕ)) (rest_of : List ℕ) where
  abbrev made_part : (front : List ℕ) → PartRun (terms_of sys) h r i left u w front → Made sys i r h left u w front
  made_part front x = record { run = x.run; done = x.done; rest = x.rest; is = x.is; parts = x.parts; held = x.held; written = x.written }

  abbrev made_whole : (e : End) → WholeRun (terms_of sys) h r i left u w e → (x : Made sys i r h left u w []) × FollowsBy (Unit {0}) (Unit {0}) ⊥ sys i rest_of r h x.run x.done x.rest itself e
  made_whole e x = (
    record {
      run = record { steps = x.steps; end = e };
      done = x.steps;
      rest = [];
      is = x.is;
      parts = sym (append-nil x.steps);
      held = x.held;
      written = subst (Appends u w) (sym (append-nil (written_by x.steps))) x.written;
    },
    (refl, refl),
  )

  pub run_stands : (result : Result End Failed) → Runs (terms_of sys) h r i (Some rest_of) left u w result → Stands sys i rest_of r h left u w result
  run_stands (Err f) x = (x.0, made_part x.0 x.1, x.1.next)
  run_stands (Ok end.Memory) x = (made_part [] x, λ is. tt)
  run_stands (Ok end.Recorder) x = (made_part [] x, λ is. tt)
  run_stands (Ok end.Input) x = (made_part [] x.0, (tt, x.1))
  run_stands (Ok end.Usage) x = absurd x
  run_stands (Ok (end.Declaration code path)) x = absurd x
  run_stands (Ok end.System) x = absurd x
  run_stands (Ok e) x = made_whole e x

-- an end of a run comes after the system was read
running_sort : (e : End) → IsRunning e → sort_of e ≡ unbegun → ⊥
running_sort end.Usage so = absurd so
running_sort (end.Declaration code path) so = absurd so
running_sort end.System so = absurd so
running_sort e so = λ is. cc is

pub running_result : (result : Result End Failed) → IfOk result IsRunning → IfOk result IsOfSystem
running_result (Ok e) so = running_sort e so
running_result (Err f) so = tt

-- what is held of a state tells the histories
pub held_histories : {R : Type 0} (history : R → Option (List Recording)) (settled : R → Bool) (snapshots : R → Option (List Snapshot)) (capacity : R → ℕ) (base : Contents) (o : Options) (apps : List (Application R)) (readings : Option Readings) (s : State)
    → Holds history settled snapshots capacity base o apps readings s → TellEach history s.contents.histories apps
held_histories history settled snapshots capacity base o apps readings s held = λ i a at. (held.each i a at).told

-- what is held, in other words
abbrev made_held : (sys : System) (i : List ℕ) (r : Readings) (h : Contents) (left now : Contents → Type 0) (u w : Option (List ℕ)) → ((k : Contents) → left k → now k) → (tail : List ℕ) → Made sys i r h left u w tail → Made sys i r h now u w tail
made_held sys i r h left now u w closed tail x = record { run = x.run; done = x.done; rest = x.rest; is = x.is; parts = x.parts; held = closed (left_by x.done h) x.held; written = x.written }

pub stands_held : (sys : System) (i : List ℕ) (rest_of : List ℕ) (r : Readings) (h : Contents) (left now : Contents → Type 0) (u w : Option (List ℕ)) → ((k : Contents) → left k → now k) → (result : Result End Failed)
    → Stands sys i rest_of r h left u w result → Stands sys i rest_of r h now u w result
stands_held sys i rest_of r h left now u w closed (Ok e) x = (made_held sys i r h left now u w closed [] x.0, x.1)
stands_held sys i rest_of r h left now u w closed (Err f) x = (x.0, made_held sys i r h left now u w closed x.0 x.1, x.2)

-- something is held
pub stands_some : (sys : System) (i rest_of : List ℕ) (r : Readings) (h : Contents) (left : Contents → Type 0) (u w : Option (List ℕ)) (result : Result End Failed) → Stands sys i rest_of r h left u w result → (c : Contents) × left c
stands_some sys i rest_of r h left u w (Ok e) x = (left_by x.0.done h, x.0.held)
stands_some sys i rest_of r h left u w (Err f) x = (left_by x.1.done h, x.1.held)

left_is : {A : Type 0} (h : Name → A) (held new : Option (Name → A)) → held ≡ Some h → IsLeft held new → new ≡ Some h
left_is h held new told left = subst (λ o. IsLeft o new) told left

-- stores that were left as they were tell the same
pub still_told : (opening : Contents) (held new : Option Histories) (kept now : Option (Name → List Snapshot)) → StoresTell opening held kept → IsLeft held new → IsLeft kept now → StoresTell opening new now
still_told opening held new kept now told left still = record { histories = left_is opening.histories held new told.histories left; snapshots = left_is opening.snapshots kept now told.snapshots still }

pub marked_out : (names : List Name) (before out : Name → Bool) (n : Name) → out n ≡ marked before names true n → is_among n names ≡ true → out n ≡ true
marked_out names before out n is there = is ∙ (λ i. if there i then true else before n)

-- what applications tell that were opened, and are closed, is what the stores hold then
pub closed_told : {A R : Type 0} (tell : R → Option A) (apps : List (Application R)) (names : List Name) (before out : Name → Bool) (base q : Name → A) (held new : Option (Name → A)) → ClosesEach tell apps out held new → names_in apps ≡ names → AreDistinct names
    → ((n : Name) → out n ≡ marked before names true n) → HoldElsewhere names base held → TellEach tell q apps → ((n : Name) → is_among n (names_in apps) ≡ false → q n ≡ base n) → new ≡ Some q
closed_told tell apps names before out base q held new closes named distinct are elsewhere tells others =
    closes base q (subst AreDistinct (sym named) distinct) (λ n there. marked_out names before out n (are n) (ap (is_among n) (sym named) ∙ there)) (subst (λ ns. HoldElsewhere ns base held) (sym named) elsewhere) tells others

-- all are in again, as before
in_again_at : (names : List Name) (before opened : Name → Bool) (n : Name) (v : Bool) → is_among n names ≡ v → opened n ≡ marked before names true n → (is_among n names ≡ true → before n ≡ false) → marked opened names false n ≡ before n
in_again_at names before opened n true there is was = (λ i. if there i then false else opened n) ∙ sym (was there)
in_again_at names before opened n false there is was = (λ i. if there i then false else opened n) ∙ is ∙ (λ i. if there i then true else before n)

pub in_again : (names now : List Name) (before opened after : Name → Bool) → now ≡ names → ((n : Name) → opened n ≡ marked before names true n) → ((n : Name) → is_among n names ≡ true → before n ≡ false) → ((n : Name) → after n ≡ marked opened now false n) → (n : Name) → after n ≡ before n
in_again names now before opened after same first was last n = last n ∙ ap (λ ns. marked opened ns false n) same ∙ in_again_at names before opened n (is_among n names) refl (first n) (was n)

-- what a vector holds after its slice was lent
pub written_back : {A : Type 0} (len : ℕ) (new lent items : List A) → length new ≡ length lent → lent ≡ items → len ≡ length items → take len (new ++ drop (length new) items) ≡ new
written_back len new lent items kept is size =
    let same : len ≡ length new = size ∙ ap length (sym is) ∙ sym kept in
    ap (λ k. take k (new ++ drop (length new) items)) same ∙ take-append_seam new (drop (length new) items)

-- what holds of what was written back holds of the vector
pub written_keeps : {A : Type 0} (P : List A → Type 0) (len : ℕ) (new lent items : List A) → length new ≡ length lent → lent ≡ items → len ≡ length items → P new → P (take len (new ++ drop (length new) items))
written_keeps P len new lent items kept is size so = subst P (sym (written_back len new lent items kept is size)) so

-- and its applications stay
pub written_stay : {R : Type 0} (faults : R → ℕ) (len : ℕ) (new lent items : List (Application R)) → length new ≡ length lent → lent ≡ items → len ≡ length items → AllStay faults lent new → AllStay faults items (take len (new ++ drop (length new) items))
written_stay faults len new lent items kept is size stay = written_keeps (AllStay faults items) len new lent items kept is size (subst (λ xs. AllStay faults xs new) is stay)

-- a recorder whose count of faults rose in the run has failed
pub some_failed : {R : Type 0} (faults : R → ℕ) (old new : List (Application R)) → AreFresh faults old → SomeRose faults old new → SomeFailed faults new
some_failed faults old new fresh rose =
    let risen : Rose 0 (faults_at faults new rose.0) = subst (λ k. Rose k (faults_at faults new rose.0)) (fresh rose.0) rose.1 in
    (rose.0, risen)

pub rose_later : (before opened now : ℕ) → before ≤ opened → Rose opened now → Rose before now
rose_later before opened now later rose = omega arith
