-- What answering a line leaves of the applications.
use Rattle.std.proofs.Common.{◌≡◌, ◌<◌, ◌+◌, ◌++◌, ℕ, zero, suc, Bool, IsTrue, true, false, not, ◌||◌, List, [], ◌∷◌, length, get_or, slice_get, slice_set, if◌then◌else◌, Contains, Option, Some, None, is_some, Result, Ok, Err, refl, sym, ap, ◌∙◌, subst, arith}
use Rattle.std.specs.List.{position_or_len}
use Rattle.std.specs.Str.{bytes_eq}
use Rattle.es_model.specs.declared.declaration.App.{App}
use Rattle.es_model.specs.declared.declaration.System.{System}
use Rattle.es_model.specs.declared.event.Recording.{Recording}
use Rattle.es_model.specs.declared.snapshot.Snapshot.{Snapshot as SnapshotOf}
use Rattle.es_model.specs.Declaration.{app_named}
use Rattle.es_model.specs.Snapshots.{put_snapshot}
use Rattle.es_model.specs.Values.{Name}
use Rattle.es_io.specs.Readings.{Readings, first_reading}
use Rattle.es_recorder.specs.Stable.{GrowsTold}
use Rattle.es_decl.proofs.CheckedSystemLemmas.{declared-name}
use Rattle.es_domain.specs.declared.command.Command.{Command}
use Rattle.es_lines.specs.CommandText.{command_text}
use Rattle.es_lines.specs.Requests.{asks, request_in, app_asked, has_class, IsApp, IsDeclared, IsOfSystem}
use Rattle.es_lines.specs.declared.request.Request.{Request}
use Rattle.es_lines.specs.declared.request.Request.TheVariants.{Do, Get, Log, Tracking, Snapshot, Sync, Stop as StopOf}
use Rattle.es_lines.specs.declared.replies.Reply.{Reply}
use Rattle.es_lines.proofs.CanonicalLemmas.{canonical}
use Rattle.es_lines.proofs.RequestLemmas.{of-system}
use Rattle.es_process.specs.declared.application.Application.{Application}
use Rattle.es_process.specs.declared.faults.RunFault.{RunFault}
use Rattle.es_process.specs.Answer.{Options, Answer, put_each, request_answer, takes_reading}
use Rattle.es_process.specs.Contents.{Contents, added, snapped}
use Rattle.es_process.specs.Decision.{logs_of}
use Rattle.es_process.specs.Drains.{AreApps}
use Rattle.es_process.specs.Leaves.{MayAsk, Tells, Leaves}
use Rattle.es_process.specs.SingleThread.{is_among, readings_after}
use Rattle.es_process.specs.Standing.{State, HoldsOne, Holds, HoldContents, AreDistinct, names_in}
use Rattle.es_process.specs.SystemRules.{rules_of}
use Rattle.es_process.specs.Terms.{terms}
use Rattle.es_process.proofs.AmongLemmas.{contains-among, put-here, same-name}
use Rattle.es_process.proofs.HoldsLemmas.{AreAlikeBut, alike-same, alike-added, alike-snapped, app-at, contents-set, holds-set}
use Rattle.es_process.proofs.StableLemmas.{TrackFrom}
use Rattle.es_single.specs.Answers.{Answers, Replies, IsAsked}
use Rattle.es_single.specs.inner.Prompts.{prompted_by}
use Rattle.es_single.proofs.AnswerLemmas.{line_answered, line_failed, track-commanded}

-- the item at a place of a list
get-below : {A : Type 0} (xs : List A) (i : ℕ) (x : A) → slice_get xs i ≡ Some x → i < length xs
get-below [] i x there = absurd (cc there)
get-below (y ∷ ys) zero x there = omega arith
get-below (y ∷ ys) (suc i) x there = omega (arith, get-below ys i x there)

get-at : {A : Type 0} (xs : List A) (i : ℕ) (x d : A) → slice_get xs i ≡ Some x → get_or xs i d ≡ x
get-at [] i x d there = absurd (cc there)
get-at (y ∷ ys) zero x d there = let is : y ≡ x = cc in is
get-at (y ∷ ys) (suc i) x d there = get-at ys i x d there

-- the place of a name that is among the applications'
position-step : (b : Bool) (name n : Name) (ns : List Name) (place : ℕ) → (b ≡ true → n ≡ name) → (is_among name ns ≡ true → slice_get ns place ≡ Some name) → (b || is_among name ns) ≡ true
    → slice_get (n ∷ ns) (if not b then 1 + place else 0) ≡ Some name
position-step true name n ns place same later is = ap Some (same refl)
position-step false name n ns place same later is = let next : 1 + place ≡ suc place = omega arith in ap (slice_get (n ∷ ns)) next ∙ later is

position-there : {R : Type 0} (apps : List (Application R)) (name : Name) → is_among name (names_in apps) ≡ true → slice_get (names_in apps) (position_or_len (λ a. bytes_eq a.name name) apps) ≡ Some name
position-there [] name is = absurd (cc is)
position-there (a ∷ apps) name is =
    position-step (bytes_eq a.name name) name a.name (names_in apps) (position_or_len (λ b. bytes_eq b.name name) apps) (same-name a.name name) (position-there apps name) is

-- a declared application stands at its place
pub place-there : {R : Type 0} (sys : System) (apps : List (Application R)) (name : Name) (place : ℕ) → AreApps sys (names_in apps) → IsApp sys name → place ≡ position_or_len (λ a. bytes_eq a.name name) apps
    → slice_get (names_in apps) place ≡ Some name
place-there sys apps name place are declared is =
    ap (slice_get (names_in apps)) is
    ∙ position-there apps name (contains-among name (names_in apps) (subst (λ (ns : List Name). Contains ns name) (sym are.named) (declared-name sys.apps name declared)))

pub found-below : {R : Type 0} (apps : List (Application R)) (i : ℕ) (name : Name) → slice_get (names_in apps) i ≡ Some name → i < length apps
found-below apps i name there = let a = app-at apps i name there in get-below apps i a.0 a.1

-- the application at the place of a name
module _ {R : Type 0} (apps : List (Application R)) (i : ℕ) (d : Application R) (name : Name) (there : slice_get (names_in apps) i ≡ Some name) where
  pub found-at : slice_get apps i ≡ Some (get_or apps i d)
  found-at = let a = app-at apps i name there in a.1 ∙ ap Some (sym (get-at apps i a.0 d a.1))

  pub found-name : (get_or apps i d).name ≡ name
  found-name = let a = app-at apps i name there in ap (λ (x : Application R). x.name) (get-at apps i a.0 d a.1) ∙ a.2

-- the application at a place became another by answering what a line asks of it
module _ {R : Type 0} (history stable : R → Option (List Recording)) (settled : R → Bool) (law : (r : R) → settled r ≡ true → stable r ≡ history r) (snapshots : R → Option (List SnapshotOf)) (capacity : R → ℕ) (apps : List (Application R)) (distinct : AreDistinct (names_in apps)) (i : ℕ) (a b : Application R) (at : slice_get apps i ≡ Some a) (named : b.name ≡ a.name)
    (sys : System) (base : Contents) (o : Options) (readings : Option Readings) (s : State) (held : Holds history settled snapshots capacity base o apps readings s) (line : List ℕ) (u : Option (List ℕ)) where
  abbrev one : HoldsOne history settled snapshots capacity o a s
  one = held.each i a at

  -- what it answers, where it may hold so many events
  abbrev answer_within : ℕ → Request → Answer
  answer_within room r = request_answer (rules_of sys) room a.name (s.contents.histories a.name) (s.contents.snapshots a.name) (logs_of s.contents.histories) r (first_reading s.readings)

  -- what it leaves, and which readings, whatever it kept
  abbrev Left : Request → Result Reply RunFault → Type 0
  Left r result =
      (h : List Recording) (q : List SnapshotOf) (rs : Readings) → history a.recorder ≡ Some h → snapshots a.recorder ≡ Some q → readings ≡ Some rs
      → Leaves (request_answer (rules_of sys) (capacity a.recorder) a.name h q (logs_of s.contents.histories) r (first_reading rs)) h q result (history b.recorder) (snapshots b.recorder)

  abbrev Read : Request → Option Readings → Type 0
  Read r now = (h : List Recording) (q : List SnapshotOf) (rs : Readings) → history a.recorder ≡ Some h → snapshots a.recorder ≡ Some q → readings ≡ Some rs → now ≡ Some (readings_after (takes_reading h r) rs)

  answered-as : (r : Request) (result : Result Reply RunFault) → Left r result → Leaves (answer_within o.capacity r) (s.contents.histories a.name) (s.contents.snapshots a.name) result (history b.recorder) (snapshots b.recorder)
  answered-as r result so =
      subst (λ k. Leaves (answer_within k r) (s.contents.histories a.name) (s.contents.snapshots a.name) result (history b.recorder) (snapshots b.recorder)) one.room
      (so (s.contents.histories a.name) (s.contents.snapshots a.name) s.readings one.told one.told_snapshots held.clock)

  -- it gave a reply
  pub request_replied : (r : Request) (now : Option Readings) (told : Reply) (H : State → List Name → Type 0)
      → app_asked r ≡ Some a.name → b.turns ≡ a.turns → b.used ≡ a.used → capacity b.recorder ≡ capacity a.recorder → (settled a.recorder ≡ true → settled b.recorder ≡ true) → Left r (Ok told) → Read r now
      → ((next : State) → Holds history settled snapshots capacity base o (slice_set apps i b) now next → H next (prompted_by told a.name)) → Replies (terms (rules_of sys) o) s r told H
  request_replied r now told H about turns used room settles leaves reading replied =
      line_answered sys o s a.name r about H told (history b.recorder) (snapshots b.recorder) (answered-as r (Ok told) leaves)
      (λ next tells alike stay rs n. replied next (holds-set apps distinct i a b at named history settled snapshots capacity base o readings now s next held
      (record {
        told = tells.recordings ∙ ap (λ m. Some (next.contents.histories m)) (sym named);
        told_snapshots = tells.snapshots ∙ ap (λ m. Some (next.contents.snapshots m)) (sym named);
        whole = settles one.whole;
        room = room ∙ one.room;
        turns = turns ∙ one.turns;
        counted = used ∙ one.counted ∙ ap (λ (f : Name → ℕ). f a.name) (sym n) ∙ ap next.used (sym named);
      })
      alike (λ m other. ap (λ (f : Name → ℕ). f m) n) (reading (s.contents.histories a.name) (s.contents.snapshots a.name) s.readings one.told one.told_snapshots held.clock ∙ ap Some (sym rs)) (stay base.histories held.within)))

  -- what all applications keep, by what it keeps
  kept-now : (settled a.recorder ≡ true → GrowsTold (history a.recorder) (stable b.recorder)) → (c : Contents) → Tells (c.histories a.name) (c.snapshots a.name) (history b.recorder) (snapshots b.recorder) → AreAlikeBut a.name s.contents c
      → TrackFrom base.histories s.contents.histories c.histories → HoldContents history stable snapshots base (slice_set apps i b) c
  kept-now grows c tells alike track = contents-set apps distinct i a b at named history stable settled law snapshots capacity base o readings s c held tells alike grows track

  -- it failed
  pub request_failed : (r : Request) (f : RunFault) (H : State → List Name → Type 0) → request_in sys line ≡ asks r → app_asked r ≡ Some a.name → Left r (Err f) → (settled a.recorder ≡ true → GrowsTold (history a.recorder) (stable b.recorder))
      → Answers (terms (rules_of sys) o) s line r H (HoldContents history stable snapshots base (slice_set apps i b)) u (Err f)
  request_failed r f H asked about leaves grows =
      let c = s.contents in
      line_failed sys o s a.name r about (HoldContents history stable snapshots base (slice_set apps i b)) line asked u (history b.recorder) (snapshots b.recorder)
      (λ same. kept-now grows c same (alike-same a.name c) held.within)
      (λ more ss commanded tells. kept-now grows (added c a.name more ss)
      (record {
        recordings = tells.recordings ∙ ap Some (sym (put-here c.histories a.name (c.histories a.name ++ more ∷ [])));
        snapshots = tells.snapshots ∙ ap Some (sym (put-here c.snapshots a.name (put_each (c.snapshots a.name) ss)));
      })
      (alike-added a.name c more ss) (track-commanded base.histories c.histories a.name more commanded held.within))
      (λ sn tells. kept-now grows (snapped c a.name sn)
      (record { recordings = tells.recordings; snapshots = tells.snapshots ∙ ap Some (sym (put-here c.snapshots a.name (put_snapshot (c.snapshots a.name) sn))) }) (alike-snapped a.name c sn) held.within)
      f (answered-as r (Err f) leaves)

-- an application that has a class is declared
has-app : (o : Option App) (class : Name) → IsTrue (has_class o class) → IsTrue (is_some o)
has-app None class has = absurd (cc has)
has-app (Some a) class has = refl

declared-app : (sys : System) (name : Name) (c : Command) → IsDeclared sys name c → IsApp sys name
declared-app sys name c declared = has-app (app_named sys.apps name) c.class declared.listed

-- the application of which a line asks something is declared, and has the command that it asks for
named-app : (sys : System) (r : Request) (app : Name) → app_asked r ≡ Some app → IsOfSystem sys r → IsApp sys app
named-app sys (Do other c) app about declared = let same : other ≡ app = cc about in subst (IsApp sys) same (declared-app sys other c declared)
named-app sys (Get other id version) app about declared = let same : other ≡ app = cc about in subst (IsApp sys) same declared
named-app sys (Log other section) app about declared = let same : other ≡ app = cc about in subst (IsApp sys) same declared
named-app sys (Tracking other leader) app about declared = let same : other ≡ app = cc about in subst (IsApp sys) same declared
named-app sys (Snapshot other id) app about declared = let same : other ≡ app = cc about in subst (IsApp sys) same declared
named-app sys Sync app about declared = absurd (cc about)
named-app sys StopOf app about declared = absurd (cc about)

pub app-declared : (sys : System) (r : Request) (app : Name) → app_asked r ≡ Some app → IsAsked sys r → IsApp sys app
app-declared sys r app about asked = named-app sys r app about (of-system sys asked.line r asked.is)

-- so that it may be asked of the application
pub may-ask : (sys : System) (r : Request) (app name : Name) → app_asked r ≡ Some app → IsAsked sys r → name ≡ app → MayAsk sys name r
may-ask sys (Do other c) app name about asked named = let same : other ≡ app = cc about in subst (λ n. request_in sys (command_text n c) ≡ asks (Do n c)) (same ∙ sym named) (canonical sys asked.line other c asked.is)
may-ask sys (Get other id version) app name about asked named = tt
may-ask sys (Log other section) app name about asked named = tt
may-ask sys (Tracking other leader) app name about asked named = tt
may-ask sys (Snapshot other id) app name about asked named = tt
may-ask sys Sync app name about asked named = tt
may-ask sys StopOf app name about asked named = tt
