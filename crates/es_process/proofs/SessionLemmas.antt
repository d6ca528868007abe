-- Laws of sessions: over histories that grow, and with one line more.
use Rattle.std.proofs.Common.{◌≡◌, ◌⊎◌, ◌<◌, ◌≤◌, ℕ, zero, suc, ℤ, Bool, true, false, List, [], ◌∷◌, ◌++◌, length, take, drop, slice_get, Contains, if◌then◌else◌, Option, Some, None, IfSome, IsSome, inl, inr, refl, sym, ap, ◌∙◌, subst, append-nil, append_assoc, length-append, take_all, le_refl, arith}
use Rattle.std.specs.Str.{bytes_eq}
use Rattle.std.proofs.lemmas.List.{take-append-le, drop-append-le, flat_map_more, drop_all}
use Rattle.std.proofs.lemmas.Option.{slice_get_within}
use Rattle.es_model.specs.declared.event.Recording.{Recording}
use Rattle.es_model.specs.declared.snapshot.Snapshot.{Snapshot}
use Rattle.es_model.specs.History.{Histories, log, latest}
use Rattle.es_model.specs.Lines.{Line, text, long, over}
use Rattle.es_model.specs.Tracking.{tracked_in}
use Rattle.es_model.specs.Values.{Name}
use Rattle.es_model.proofs.HistoryLemmas.{log-take}
use Rattle.es_io.specs.Readings.{Readings, first_reading, later_readings}
use Rattle.es_recorder.specs.Held.{put}
use Rattle.es_lines.specs.CommandText.{command_text}
use Rattle.es_lines.specs.Requests.{Asked, asks, refused}
use Rattle.es_lines.specs.declared.request.Request.{Request}
use Rattle.es_lines.specs.declared.request.Request.TheVariants as request
use Rattle.es_process.specs.Answer.{Options, request_answer, answer_of, differs, says, takes_reading, put_each, due_of}
use Rattle.es_lines.specs.declared.replies.Reply.TheVariants.{Conflict}
use Rattle.es_process.specs.Decision.{Rules, Logs, logs_of}
use Rattle.es_process.specs.inner.Lawful.{IsLocal}
use Rattle.es_process.specs.Session.{Answered, IsReading, IsAt, past, SeesOpenings, SeesLine, AreSynced, Watched, grown, snapshots_at, with_taken, watch, watched, IsGiven, AnswersOf, AnswersRequest, AnswersLine, IsLater, AreLater, AreAnswered, if_of, is_command, commands_in, accepted_in}
use Rattle.es_process.proofs.AmongLemmas.{contains-here, contains-later, contains-cases, contains-none, put-cases, put-each, put-here, put-other, same-name, same-or-not, is-same}
use Rattle.es_process.proofs.FollowsLemmas.{Grows, slice_get-front}

-- what is answered depends on no log
pub request-local : (rules : Rules) (local : IsLocal rules) (capacity : ℕ) (app : Name) (before : List Recording) (q : List Snapshot) (logs others : Logs) (r : Request) (at : ℤ) → request_answer rules capacity app before q logs r at ≡ request_answer rules capacity app before q others r at
request-local rules local capacity app before q logs others (request.Do other c) at =
    λ i. if differs before c.id c.expect then says (Conflict (latest (log before) c.id)) else answer_of rules capacity app before (command_text app c) c.id at (local.commands app before logs others (command_text app c) at i)
request-local rules local capacity app before q logs others (request.Get other id version) at = refl
request-local rules local capacity app before q logs others (request.Log other section) at = refl
request-local rules local capacity app before q logs others (request.Tracking other leader) at = refl
request-local rules local capacity app before q logs others (request.Snapshot other id) at = refl
request-local rules local capacity app before q logs others request.Sync at = refl
request-local rules local capacity app before q logs others request.Stop at = refl

-- ---- snapshots

take-drop-join : {A : Type 0} (n : ℕ) (xs : List A) → take n xs ++ drop n xs ≡ xs
take-drop-join zero xs = refl
take-drop-join (suc n) [] = refl
take-drop-join (suc n) (x ∷ xs) = ap (λ (t : List _). x ∷ t) (take-drop-join n xs)

-- one recording more
pub grown-push : (rules : Rules) (before rs : List Recording) (r : Recording) (q : List Snapshot) → grown rules before (rs ++ r ∷ []) q ≡ put_each (grown rules before rs q) (due_of rules (before ++ rs) r)
grown-push rules before [] r q = λ i. put_each q (due_of rules (sym (append-nil before) i) r)
grown-push rules before (x ∷ rs) r q =
    grown-push rules (before ++ x ∷ []) rs r (put_each q (due_of rules before x))
    ∙ (λ i. put_each (grown rules (before ++ x ∷ []) rs (put_each q (due_of rules before x))) (due_of rules (append_assoc before (x ∷ []) rs i) r))

-- after all answered lines
abbrev pub watched_all : Rules → Histories → Watched → List Answered → Watched
watched_all rules histories w [] = w
watched_all rules histories w (x ∷ xs) = watched_all rules histories (watched rules histories w x) xs

pub watched_all-push : (rules : Rules) (h : Histories) (w : Watched) (xs : List Answered) (x : Answered) → watched_all rules h w (xs ++ x ∷ []) ≡ watched rules h (watched_all rules h w xs) x
watched_all-push rules h w [] x = refl
watched_all-push rules h w (y ∷ xs) x = watched_all-push rules h (watched rules h w y) xs x

-- no mark is past what is there
abbrev pub IsWithin : Watched → Histories → Type 0
IsWithin w h = (n : Name) → w.marks n ≤ length (h n)

-- what an application has kept is what is watched of it
abbrev pub IsWatched : Rules → Watched → Histories → (Name → List Snapshot) → Type 0
IsWatched rules w h q = (n : Name) → q n ≡ snapshots_at rules h w n (length (h n))

nothing_left : (n : ℕ) (h : List Recording) → n ≡ length h → drop n (take (length h) h) ≡ []
nothing_left n h is = (λ i. drop n (take_all (length h) h (le_refl (length h)) i)) ∙ drop_all n h (omega (arith, is))

-- a line was answered over all that there was, and took this
pub watch-all : (rules : Rules) (h : Histories) (w : Watched) (q : Name → List Snapshot) (app : Name) (taken : Option Snapshot) → IsWatched rules w h q → IsWatched rules (watch rules h w (Some app) (length (h app)) taken) h (put q app (with_taken (q app) taken))
watch-all rules h w q app taken so n = by (same-or-not n app)
  where
    v : Watched
    v = watch rules h w (Some app) (length (h app)) taken

    marked : v.marks app ≡ length (h app)
    marked = put-here w.marks app (length (h app))

    here : put q app (with_taken (q app) taken) app ≡ snapshots_at rules h v app (length (h app))
    here =
        put-here q app (with_taken (q app) taken)
        ∙ (λ i. with_taken (so app i) taken)
        ∙ sym (put-here w.snapshots app (with_taken (snapshots_at rules h w app (length (h app))) taken))
        ∙ sym (λ i. grown rules (take (v.marks app) (h app)) (nothing_left (v.marks app) (h app) marked i) (v.snapshots app))

    by : (n ≡ app) ⊎ (n ≡ app → ⊥) → put q app (with_taken (q app) taken) n ≡ snapshots_at rules h v n (length (h n))
    by (inl same) = subst (λ m. put q app (with_taken (q app) taken) m ≡ snapshots_at rules h v m (length (h m))) (sym same) here
    by (inr differ) =
        put-other q app (with_taken (q app) taken) n differ
        ∙ so n
        ∙ sym (λ i. grown rules (take (put-other w.marks app (length (h app)) n differ i) (h n)) (drop (put-other w.marks app (length (h app)) n differ i) (take (length (h n)) (h n)))
        (put-other w.snapshots app (with_taken (snapshots_at rules h w app (length (h app))) taken) n differ i))

pub within-watch : (rules : Rules) (h : Histories) (w : Watched) (app : Name) (mark : ℕ) (taken : Option Snapshot) → mark ≤ length (h app) → IsWithin w h → IsWithin (watch rules h w (Some app) mark taken) h
within-watch rules h w app mark taken le so n = put-each (λ m k. k ≤ length (h m)) w.marks app mark n le (so n)

-- an application has recorded
pub watch-recorded : (rules : Rules) (h : Histories) (w : Watched) (q : Name → List Snapshot) (app : Name) (r : Recording) → IsWithin w h → IsWatched rules w h q
    → IsWatched rules w (put h app (h app ++ r ∷ [])) (put q app (put_each (q app) (due_of rules (h app) r)))
watch-recorded rules h w q app r within so n =
    put-cases (λ m x. put q app (put_each (q app) (due_of rules (h app) r)) m ≡ grown rules (take (w.marks m) x) (drop (w.marks m) (take (length x) x)) (w.snapshots m)) h app (h app ++ r ∷ []) n
    here
    (λ differ. put-other q app (put_each (q app) (due_of rules (h app) r)) n differ ∙ so n)
  where
    m : ℕ
    m = w.marks app

    whole : take (length (h app ++ r ∷ [])) (h app ++ r ∷ []) ≡ h app ++ r ∷ []
    whole = take_all (length (h app ++ r ∷ [])) (h app ++ r ∷ []) (le_refl (length (h app ++ r ∷ [])))

    so_far : q app ≡ grown rules (take m (h app)) (drop m (h app)) (w.snapshots app)
    so_far = so app ∙ (λ i. grown rules (take m (h app)) (drop m (take_all (length (h app)) (h app) (le_refl (length (h app))) i)) (w.snapshots app))

    here : put q app (put_each (q app) (due_of rules (h app) r)) app ≡ grown rules (take m (h app ++ r ∷ [])) (drop m (take (length (h app ++ r ∷ [])) (h app ++ r ∷ []))) (w.snapshots app)
    here =
        put-here q app (put_each (q app) (due_of rules (h app) r))
        ∙ (λ i. put_each (so_far i) (due_of rules (sym (take-drop-join m (h app)) i) r))
        ∙ sym (grown-push rules (take m (h app)) (drop m (h app)) r (w.snapshots app))
        ∙ sym (λ i. grown rules (take-append-le m (h app) (r ∷ []) (within app) i) (((λ j. drop m (whole j)) ∙ drop-append-le m (h app) (r ∷ []) (within app)) i) (w.snapshots app))

-- readings to come later are readings
pub first-reading : (readings : Readings) → IsReading readings (first_reading readings)
first-reading readings = here readings.next
  where
    here : (ms : List ℤ) → IsReading (record { next = ms; after = readings.after }) (first_reading (record { next = ms; after = readings.after }))
    here [] = inr refl
    here (m ∷ ms) = inl (contains-here m ms)

pub later-reading : (readings : Readings) (at : ℤ) → IsReading (later_readings readings) at → IsReading readings at
later-reading readings at = here readings.next
  where
    here : (ms : List ℤ) → IsReading (later_readings (record { next = ms; after = readings.after })) at → IsReading (record { next = ms; after = readings.after }) at
    here [] so = so
    here (m ∷ ms) (inl so) = inl (contains-later m ms at so)
    here (m ∷ ms) (inr so) = inr so

-- each line sees the openings and all lines before it, as it does on one thread
abbrev pub EachSees : Rules → Histories → Answered → List Answered → Type 0
EachSees rules histories x [] = Unit {0}
EachSees rules histories x (y ∷ ys) = SeesLine rules histories x y × EachSees rules histories x ys

abbrev pub AllSee : Rules → Histories → Histories → List Answered → Type 0
AllSee rules openings histories [] = Unit {0}
AllSee rules openings histories (x ∷ xs) = SeesOpenings rules openings histories x × EachSees rules histories x xs × AllSee rules openings histories xs

module _ (rules : Rules) (openings histories : Histories) where
  sees_each : (x : Answered) (ys : List Answered) → EachSees rules histories x ys → (y : Answered) → Contains ys y → SeesLine rules histories x y
  sees_each x [] so y there = contains-none y there
  sees_each x (z ∷ ys) so y there = elim (contains-cases z ys y there) [
    | inl is ↦ subst (SeesLine rules histories x) is so.0
    | inr behind ↦ sees_each x ys so.1 y behind
  ]

  sees_openings : (ys : List Answered) → AllSee rules openings histories ys → (y : Answered) → Contains ys y → SeesOpenings rules openings histories y
  sees_openings [] so y there = contains-none y there
  sees_openings (z ∷ ys) so y there = elim (contains-cases z ys y there) [
    | inl is ↦ subst (SeesOpenings rules openings histories) is so.0
    | inr behind ↦ sees_openings ys so.2 y behind
  ]

  contains-behind : (before behind : List Answered) (s y : Answered) → Contains behind y → Contains (before ++ s ∷ behind) y
  contains-behind [] behind s y there = contains-later s behind y there
  contains-behind (x ∷ before) behind s y there = contains-later x (before ++ s ∷ behind) y (contains-behind before behind s y there)

  seen_behind : (before behind : List Answered) (s : Answered) → AllSee rules openings histories (before ++ s ∷ behind) → (y : Answered) → Contains behind y → SeesOpenings rules openings histories y × ((x : Answered) → Contains before x → SeesLine rules histories x y)
  seen_behind [] behind s so y there = (sees_openings behind so.2 y there, λ x none. contains-none x none)
  seen_behind (z ∷ before) behind s so y there =
      let rest = seen_behind before behind s so.2 y there in (
        rest.0,
        λ x among. elim (contains-cases z before x among) [
          | inl is ↦ subst (λ w. SeesLine rules histories w y) is (sees_each z (before ++ s ∷ behind) so.1 y (contains-behind before behind s y there))
          | inr later ↦ rest.1 x later
        ],
      )

  pub all-synced : (answered : List Answered) → AllSee rules openings histories answered → AreSynced rules openings histories answered
  all-synced answered so before behind s parts syncing y there = seen_behind before behind s (subst (AllSee rules openings histories) parts so) y there

module _ (rules : Rules) (options : Options) (openings old new : Histories) (readings : Readings) (local : IsLocal rules) (grow : Grows old new) where
  same_front : (app : Name) (mark : ℕ) → mark ≤ length (old app) → take mark (new app) ≡ take mark (old app)
  same_front app mark le = ap (λ (h : List Recording). take mark h) (grow app).1 ∙ take-append-le mark (old app) (grow app).0 le

  longer : (app : Name) → length (old app) ≤ length (new app)
  longer app = omega (arith, ap length (grow app).1, length-append (old app) (grow app).0)

  stands_still : (app : Name) (mark : ℕ) (o : Option (Name × Recording)) → IfSome o (λ y. IsAt old app mark y) → IfSome o (λ y. IsAt new app mark y)
  stands_still app mark None so = tt
  stands_still app mark (Some y) so = (so.0, ap (λ (h : List Recording). slice_get h mark) (grow app).1 ∙ slice_get-front (old app) (grow app).0 mark (slice_get_within (old app) mark y.1 so.1) ∙ so.1)

  -- the snapshots there, and what is watched, stay as the histories grow
  pub snapshots-grow : (w : Watched) (app : Name) (mark : ℕ) → w.marks app ≤ length (old app) → mark ≤ length (old app) → snapshots_at rules new w app mark ≡ snapshots_at rules old w app mark
  snapshots-grow w app mark within upto = λ i. grown rules (same_front app (w.marks app) within i) (drop (w.marks app) (same_front app mark upto i)) (w.snapshots app)

  AnswersOf-grows : (w : Watched) → IsWithin w old → (app : Name) (r : Request) (x : Answered) → AnswersOf rules options openings old readings w app r x → AnswersOf rules options openings new readings w app r x
  AnswersOf-grows w within app r x so =
      let same : take x.mark (new app) ≡ take x.mark (old app) = same_front app x.mark so.upto in
      let kept : snapshots_at rules new w app x.mark ≡ snapshots_at rules old w app x.mark = snapshots-grow w app x.mark (within app) so.upto in
      record {
        named = so.named;
        from = so.from;
        upto = omega (arith, so.upto, longer app);
        moment = λ is. so.moment (ap (λ h. takes_reading h r) (sym same) ∙ is);
        given = subst (λ a. IsGiven app a x)
            (request-local rules local options.capacity app (take x.mark (old app)) (snapshots_at rules old w app x.mark) (logs_of old) (logs_of new) r x.at
            ∙ (λ i. request_answer rules options.capacity app (sym same i) (sym kept i) (logs_of new) r x.at)) so.given;
        stands = stands_still app x.mark x.added so.stands;
      }

  AnswersRequest-grows : (w : Watched) → IsWithin w old → (a : Asked) (x : Answered) → AnswersRequest rules options openings old readings w a x → AnswersRequest rules options openings new readings w a x
  AnswersRequest-grows w within (refused fault) x so = so
  AnswersRequest-grows w within (asks request.Sync) x so = so
  AnswersRequest-grows w within (asks request.Stop) x so = so
  AnswersRequest-grows w within (asks (request.Do app c)) x so = AnswersOf-grows w within app (request.Do app c) x so
  AnswersRequest-grows w within (asks (request.Get app id version)) x so = AnswersOf-grows w within app (request.Get app id version) x so
  AnswersRequest-grows w within (asks (request.Log app section)) x so = AnswersOf-grows w within app (request.Log app section) x so
  AnswersRequest-grows w within (asks (request.Tracking app leader)) x so = AnswersOf-grows w within app (request.Tracking app leader) x so
  AnswersRequest-grows w within (asks (request.Snapshot app id)) x so = AnswersOf-grows w within app (request.Snapshot app id) x so

  AnswersLine-grows : (w : Watched) → IsWithin w old → (line : Line) (x : Answered) → AnswersLine rules options openings old readings w line x → AnswersLine rules options openings new readings w line x
  AnswersLine-grows w within (text t) x so = AnswersRequest-grows w within (rules.request t) x so
  AnswersLine-grows w within long x so = so
  AnswersLine-grows w within over x so = so

  added_within : (app : Name) (mark : ℕ) (o : Option (Name × Recording)) → IfSome o (λ y. IsAt old app mark y) → IsSome o → mark < length (old app)
  added_within app mark None so is = absurd (cc is)
  added_within app mark (Some y) so is = slice_get_within (old app) mark y.1 so.1

  abbrev IsMarked : Name → Answered → Type 0
  IsMarked app x = (x.mark ≤ length (old app)) × (IsSome x.added → x.mark < length (old app))

  of_marked : (w : Watched) (other : Name) (r : Request) (x : Answered) (app : Name) → AnswersOf rules options openings old readings w other r x → x.app ≡ Some app → IsMarked app x
  of_marked w other r x app so is =
      let same : other ≡ app = cc (sym so.named ∙ is) in
      subst (λ n. IsMarked n x) same (so.upto, added_within other x.mark x.added so.stands)

  request_marked : (w : Watched) (a : Asked) (x : Answered) (app : Name) → AnswersRequest rules options openings old readings w a x → x.app ≡ Some app → IsMarked app x
  request_marked w (refused fault) x app so is = let clash : None ≡ Some app = sym so.unnamed ∙ is in cc clash
  request_marked w (asks request.Sync) x app so is = let clash : None ≡ Some app = sym so.unnamed ∙ is in cc clash
  request_marked w (asks request.Stop) x app so is = let clash : None ≡ Some app = sym so.unnamed ∙ is in cc clash
  request_marked w (asks (request.Do other c)) x app so is = of_marked w other (request.Do other c) x app so is
  request_marked w (asks (request.Get other id version)) x app so is = of_marked w other (request.Get other id version) x app so is
  request_marked w (asks (request.Log other section)) x app so is = of_marked w other (request.Log other section) x app so is
  request_marked w (asks (request.Tracking other leader)) x app so is = of_marked w other (request.Tracking other leader) x app so is
  request_marked w (asks (request.Snapshot other id)) x app so is = of_marked w other (request.Snapshot other id) x app so is

  line_marked : (w : Watched) (line : Line) (x : Answered) (app : Name) → AnswersLine rules options openings old readings w line x → x.app ≡ Some app → IsMarked app x
  line_marked w (text t) x app so is = request_marked w (rules.request t) x app so is
  line_marked w long x app so is = let clash : None ≡ Some app = sym so.unnamed ∙ is in cc clash
  line_marked w over x app so is = absurd so

  pub watch-grows : (w : Watched) → IsWithin w old → (o : Option Name) (mark : ℕ) (taken : Option Snapshot) → ((app : Name) → o ≡ Some app → mark ≤ length (old app)) → watch rules new w o mark taken ≡ watch rules old w o mark taken
  watch-grows w within None mark taken upto = refl
  watch-grows w within (Some app) mark taken upto =
      λ i. record { marks = put w.marks app mark; snapshots = put w.snapshots app (with_taken (snapshots-grow w app mark (within app) (upto app refl) i) taken) }

  watch-within : (w : Watched) → IsWithin w old → (o : Option Name) (mark : ℕ) (taken : Option Snapshot) → ((app : Name) → o ≡ Some app → mark ≤ length (old app)) → IsWithin (watch rules old w o mark taken) old
  watch-within w within None mark taken upto = within
  watch-within w within (Some app) mark taken upto = within-watch rules old w app mark taken (upto app refl) within

  module _ (w : Watched) (within : IsWithin w old) (x : Answered) (so : AnswersLine rules options openings old readings w x.line x) where
    abbrev next : Watched
    next = watched rules old w x

    next_within : IsWithin next old
    next_within = watch-within w within x.app x.mark x.taken (λ app is. (line_marked w x.line x app so is).0)

    next_same : watched rules new w x ≡ next
    next_same = watch-grows w within x.app x.mark x.taken (λ app is. (line_marked w x.line x app so is).0)

  -- lines that are answered as they have to be still are, as the histories grow
  pub AreAnswered-grows : (w : Watched) → IsWithin w old → (answered : List Answered) → AreAnswered rules options openings old readings w answered → AreAnswered rules options openings new readings w answered
  AreAnswered-grows w within [] so = tt
  AreAnswered-grows w within (x ∷ xs) so = (
    AnswersLine-grows w within x.line x so.0,
    so.1,
    subst (λ v. AreAnswered rules options openings new readings v xs) (sym (next_same w within x so.0)) (AreAnswered-grows (watched rules old w x) (next_within w within x so.0) xs so.2),
  )

  pub watched_all-grows : (w : Watched) → IsWithin w old → (answered : List Answered) → AreAnswered rules options openings old readings w answered → watched_all rules new w answered ≡ watched_all rules old w answered
  watched_all-grows w within [] so = refl
  watched_all-grows w within (x ∷ xs) so = ap (λ v. watched_all rules new v xs) (next_same w within x so.0) ∙ watched_all-grows (watched rules old w x) (next_within w within x so.0) xs so.2

  AreLater-push : (x : Answered) (xs : List Answered) (y : Answered) → AreLater x xs → IsLater x y → AreLater x (xs ++ y ∷ [])
  AreLater-push x [] y so next = (next, tt)
  AreLater-push x (z ∷ xs) y so next = (so.0, AreLater-push x xs y so.1 next)

  -- the same with one line more, whose mark is past all that was there of its application before
  pub AreAnswered-push : (w : Watched) → IsWithin w old → (xs : List Answered) (y : Answered) → AreAnswered rules options openings old readings w xs → AnswersLine rules options openings new readings (watched_all rules old w xs) y.line y
      → ((app : Name) → y.app ≡ Some app → length (old app) ≤ y.mark) → AreAnswered rules options openings new readings w (xs ++ y ∷ [])
  AreAnswered-push w within [] y so next late = (next, tt, tt)
  AreAnswered-push w within (x ∷ xs) y so next late =
      let later : IsLater x y = λ app is same. let marked : IsMarked app x = line_marked w x.line x app so.0 is in (omega (arith, marked.0, late app same), λ some. omega (arith, marked.1 some, late app same)) in (
        AnswersLine-grows w within x.line x so.0,
        AreLater-push x xs y so.1 later,
        subst (λ v. AreAnswered rules options openings new readings v (xs ++ y ∷ [])) (sym (next_same w within x so.0)) (AreAnswered-push (watched rules old w x) (next_within w within x so.0) xs y so.2 next late),
      )

  past_within : (mark n : ℕ) (o : Option (Name × Recording)) → mark ≤ n → (IsSome o → mark < n) → past mark o ≤ n
  past_within mark n None upto some = upto
  past_within mark n (Some x) upto some = omega (arith, some refl)

  openings_grow : (w : Watched) (x : Answered) → AnswersLine rules options openings old readings w x.line x → SeesOpenings rules openings old x → SeesOpenings rules openings new x
  openings_grow w x answers so leader follower pair on =
      subst (λ h. length (log (openings leader)) ≤ tracked_in h leader) (sym (same_front follower x.mark (line_marked w x.line x follower answers on).0)) (so leader follower pair on)

  line_grows : (w v : Watched) (x y : Answered) → AnswersLine rules options openings old readings w x.line x → AnswersLine rules options openings old readings v y.line y → SeesLine rules old x y → SeesLine rules new x y
  line_grows w v x y first second so leader follower pair on_leader on_follower =
      let marked : IsMarked leader x = line_marked w x.line x leader first on_leader in
      subst (λ h. length (log h) ≤ tracked_in (take y.mark (new follower)) leader) (sym (same_front leader (past x.mark x.added) (past_within x.mark (length (old leader)) x.added marked.0 marked.1)))
      (subst (λ h. length (log (take (past x.mark x.added) (old leader))) ≤ tracked_in h leader) (sym (same_front follower y.mark (line_marked v y.line y follower second on_follower).0)) (so leader follower pair on_leader on_follower))

  each_grows : (w v : Watched) (x : Answered) (ys : List Answered) → AnswersLine rules options openings old readings w x.line x → AreAnswered rules options openings old readings v ys → EachSees rules old x ys → EachSees rules new x ys
  each_grows w v x [] first rest so = tt
  each_grows w v x (y ∷ ys) first rest so = (line_grows w v x y first rest.0 so.0, each_grows w (watched rules old v y) x ys first rest.2 so.1)

  -- what lines see they still see, as the histories grow
  pub AllSee-grows : (w : Watched) (answered : List Answered) → AreAnswered rules options openings old readings w answered → AllSee rules openings old answered → AllSee rules openings new answered
  AllSee-grows w [] answers so = tt
  AllSee-grows w (x ∷ xs) answers so = (openings_grow w x answers.0 so.0, each_grows w (watched rules old w x) x xs answers.0 answers.2 so.1, AllSee-grows (watched rules old w x) xs answers.2 so.2)

  -- a line more sees all, where each follower tracks its leaders' last notifications, and it is answered over all that there was
  module _ (y : Answered) (longer_logs : (leader : Name) → Contains rules.names leader → length (log (openings leader)) ≤ length (log (old leader))) (paired : (p : Name × Name) → Contains rules.pairs p → Contains rules.names p.0)
      (caught : (p : Name × Name) → Contains rules.pairs p → length (log (old p.0)) ≤ tracked_in (old p.1) p.0) (whole : (follower : Name) → y.app ≡ Some follower → take y.mark (new follower) ≡ old follower) where
    sees_so : (leader follower : Name) (n : ℕ) → Contains rules.pairs (leader, follower) → y.app ≡ Some follower → n ≤ length (log (old leader)) → n ≤ tracked_in (take y.mark (new follower)) leader
    sees_so leader follower n pair on less = subst (λ h. n ≤ tracked_in h leader) (sym (whole follower on)) (omega (arith, less, caught (leader, follower) pair))

    last_openings : SeesOpenings rules openings new y
    last_openings leader follower pair on = sees_so leader follower (length (log (openings leader))) pair on (longer_logs leader (paired (leader, follower) pair))

    last_line : (w : Watched) (x : Answered) → AnswersLine rules options openings old readings w x.line x → SeesLine rules new x y
    last_line w x answers leader follower pair on_leader on_follower =
        let marked : IsMarked leader x = line_marked w x.line x leader answers on_leader in
        subst (λ h. length (log h) ≤ tracked_in (take y.mark (new follower)) leader) (sym (same_front leader (past x.mark x.added) (past_within x.mark (length (old leader)) x.added marked.0 marked.1)))
        (sees_so leader follower (length (log (take (past x.mark x.added) (old leader)))) pair on_follower (log-take (old leader) (past x.mark x.added)))

    each_push : (w : Watched) (x : Answered) (ys : List Answered) → AnswersLine rules options openings old readings w x.line x → EachSees rules new x ys → EachSees rules new x (ys ++ y ∷ [])
    each_push w x [] answers so = (last_line w x answers, tt)
    each_push w x (z ∷ ys) answers so = (so.0, each_push w x ys answers so.1)

    all_push : (w : Watched) (xs : List Answered) → AreAnswered rules options openings old readings w xs → AllSee rules openings new xs → AllSee rules openings new (xs ++ y ∷ [])
    all_push w [] answers so = (last_openings, tt, tt)
    all_push w (x ∷ xs) answers so = (so.0, each_push w x xs answers.0 so.1, all_push (watched rules old w x) xs answers.2 so.2)

    pub AllSee-push : (w : Watched) (xs : List Answered) → AreAnswered rules options openings old readings w xs → AllSee rules openings old xs → AllSee rules openings new (xs ++ y ∷ [])
    AllSee-push w xs answers so = all_push w xs answers (AllSee-grows w xs answers so)

-- the commands of two histories
pub commands_in-append : (g h : List Recording) → commands_in (g ++ h) ≡ commands_in g ++ commands_in h
commands_in-append [] h = refl
commands_in-append (r ∷ g) h = elim (is_command r.cause) as (λ b. (if b then r ∷ commands_in (g ++ h) else commands_in (g ++ h)) ≡ (if b then r ∷ commands_in g else commands_in g) ++ commands_in h) [
  | true ↦ ap (λ (t : List Recording). r ∷ t) (commands_in-append g h)
  | false ↦ commands_in-append g h
]

commands_push : (n : ℕ) (h : List Recording) (r : Recording) → n ≤ length h → commands_in (drop n (h ++ r ∷ [])) ≡ commands_in (drop n h) ++ commands_in (r ∷ [])
commands_push n h r le = ap commands_in (drop-append-le n h (r ∷ []) le) ∙ commands_in-append (drop n h) (r ∷ [])

one_command : (b : Bool) (r : Recording) → b ≡ true → (if b then r ∷ [] else []) ≡ r ∷ []
one_command true r is = refl
one_command false r is = absurd (cc is)

no_command : (b : Bool) (r : Recording) → b ≡ false → (if b then r ∷ [] else []) ≡ []
no_command true r is = absurd (cc is)
no_command false r is = refl

pub if_of-here : (app : Name) (r : Recording) → if_of app (Some (app, r)) ≡ r ∷ []
if_of-here app r = one_command (bytes_eq app app) r (is-same app app refl)

pub if_of-other : (app other : Name) (r : Recording) → (other ≡ app → ⊥) → if_of other (Some (app, r)) ≡ []
if_of-other app other r differ = here (bytes_eq app other) refl
  where
    here : (b : Bool) → bytes_eq app other ≡ b → (if b then r ∷ [] else []) ≡ []
    here true is = absurd (differ (sym (same-name app other is)))
    here false is = refl

-- what is added by a command is one command more, of its application alone; and what a notification adds is none
module _ (openings h : Histories) (app : Name) (r : Recording) (first : length (openings app) ≤ length (h app)) where
  pub granted-command : is_command r.cause ≡ true → (b : Name) → commands_in (drop (length (openings b)) (put h app (h app ++ r ∷ []) b)) ≡ commands_in (drop (length (openings b)) (h b)) ++ if_of b (Some (app, r))
  granted-command is b =
      put-cases (λ n x. commands_in (drop (length (openings n)) x) ≡ commands_in (drop (length (openings n)) (h n)) ++ if_of n (Some (app, r))) h app (h app ++ r ∷ []) b
      (commands_push (length (openings app)) (h app) r first ∙ ap (λ (t : List Recording). commands_in (drop (length (openings app)) (h app)) ++ t) (one_command (is_command r.cause) r is ∙ sym (if_of-here app r)))
      (λ differ. sym (ap (λ (t : List Recording). commands_in (drop (length (openings b)) (h b)) ++ t) (if_of-other app b r differ) ∙ append-nil (commands_in (drop (length (openings b)) (h b)))))

  pub granted-notified : is_command r.cause ≡ false → (b : Name) → commands_in (drop (length (openings b)) (put h app (h app ++ r ∷ []) b)) ≡ commands_in (drop (length (openings b)) (h b))
  granted-notified is b =
      put-each (λ n x. commands_in (drop (length (openings n)) x) ≡ commands_in (drop (length (openings n)) (h n))) h app (h app ++ r ∷ []) b
      (commands_push (length (openings app)) (h app) r first ∙ ap (λ (t : List Recording). commands_in (drop (length (openings app)) (h app)) ++ t) (no_command (is_command r.cause) r is) ∙ append-nil (commands_in (drop (length (openings app)) (h app))))
      refl

pub accepted_in-push : (app : Name) (answered : List Answered) (x : Answered) → accepted_in app (answered ++ x ∷ []) ≡ accepted_in app answered ++ if_of app x.added
accepted_in-push app answered x = sym (flat_map_more (λ y. if_of app y.added) [] answered x)
