-- A run that ends well leaves each follower at its leaders' last notifications, where none was ahead.
use Rattle.std.proofs.Common.{◌≡◌, ◌⊎◌, ◌≤◌, ◌<◌, inl, inr, ℕ, ◌+◌, nat_lt, Bool, true, false, not, ◌&&◌, List, [], ◌∷◌, ◌++◌, length, slice_get, Contains, if◌then◌else◌, Option, Some, None, refl, sym, ap, ◌∙◌, subst, append-nil, le_antisymm, arith}
use Rattle.std.specs.Str.{bytes_eq}
use Rattle.std.proofs.lemmas.Bool.{ltb-false}
use Rattle.std.proofs.lemmas.Option.{slice_get_within, slice_get_cases}
use Rattle.es_model.specs.declared.event.StoredEvent.{StoredEvent}
use Rattle.es_model.specs.declared.event.Recording.{Recording}
use Rattle.es_model.specs.declared.event.Cause.TheVariants.{Command, Notification}
use Rattle.es_model.specs.declared.snapshot.Snapshot.{Snapshot}
use Rattle.es_model.specs.History.{Histories, log}
use Rattle.es_model.specs.Lines.{Line, text, long, over}
use Rattle.es_model.specs.Tracking.{tracked_in, id_from}
use Rattle.es_model.specs.Values.{Name}
use Rattle.es_model.proofs.HistoryLemmas.{size-push}
use Rattle.es_io.specs.Readings.{Readings, first_reading, later_readings}
use Rattle.es_recorder.specs.Held.{put}
use Rattle.es_decl.specs.Pairs.{leaders_in}
use Rattle.es_lines.specs.CommandText.{command_text}
use Rattle.es_lines.specs.Requests.{Asked, asks, refused}
use Rattle.es_lines.specs.declared.request.Request.{Request}
use Rattle.es_lines.specs.declared.request.Request.TheVariants as request
use Rattle.es_lines.specs.declared.ends.End.{End}
use Rattle.es_lines.specs.declared.ends.End.TheVariants.{Ok}
use Rattle.es_lines.specs.declared.replies.Reply.{Reply}
use Rattle.es_lines.specs.declared.replies.Reply.TheVariants.{Long, Sync, Stop}
use Rattle.es_lines.specs.Texts.{reply_text}
use Rattle.es_process.specs.declared.ahead.Ahead.{Ahead}
use Rattle.es_process.specs.Answer.{Options, Answer, says, accepts, takes, ends, request_answer, takes_reading, Followed, adds, stops, followed}
use Rattle.es_process.specs.Contents.{Contents, added, snapped}
use Rattle.es_process.specs.Decision.{Rules, logs_of}
use Rattle.es_process.specs.Questions.{reply_to}
use Rattle.es_process.specs.Reached.{tracked_of, last_of, IsReached, ahead}
use Rattle.es_process.specs.SingleThread.{Place, Turn, goes_on, turn_of, line_turn, request_turn, app_turn, answer_turn, readings_after, next_turn, followed_turn, past_line, only_says, adds_and_says, snaps_and_says, does_nothing, prompt, is_among, led_by, Step, snaps, writes, steps_of, only_adds, Run, IsRun, start, left_by}
use Rattle.es_process.proofs.AmongLemmas.{contains-here, contains-none, contains-cases, contains-left, contains-last, led-contains, leaders-contains, among-contains, contains-among, put-here, put-other, put-cases, same-or-not, same-name}
use Rattle.es_process.proofs.DecidedLemmas.{IsDecided, AcceptsCommand, request-accepts, request-ends, followed-adds, followed-stops}
use Rattle.es_process.proofs.FollowsLemmas.{tracked_in-push}
use Rattle.es_process.proofs.SingleThreadLemmas.{left_by-append, steps-left}
use Rattle.es_process.proofs.TurnsLemmas.{Keeps, run-ends}

passed_by : {A : Type 0} (b : Bool) (x : A) (o : Option A) → (if b then Some x else o) ≡ None → (b ≡ false) × (o ≡ None)
passed_by true x o is = absurd (cc is)
passed_by false x o is = (refl, is)

-- of pairs the first is not ahead, or is
rest_of : {A : Type 0} (b : Bool) (x : A) (o : Option A) → None ≡ (if b then Some x else None) → (if b then Some x else o) ≡ o
rest_of true x o is = absurd (cc is)
rest_of false x o is = refl

first_of_both : {A : Type 0} (b : Bool) (x a : A) (o : Option A) → Some a ≡ (if b then Some x else None) → Some a ≡ (if b then Some x else o)
first_of_both true x a o is = is
first_of_both false x a o is = absurd (cc is)

pub ahead-passed : (h : Histories) (p : Name × Name) (pairs : List (Name × Name)) → None ≡ ahead (p ∷ []) h → ahead (p ∷ pairs) h ≡ ahead pairs h
ahead-passed h p pairs is = rest_of (nat_lt (last_of h p) (tracked_of h p)) (record { app = p.1; leader = p.0; tracked = tracked_of h p; last = last_of h p }) (ahead pairs h) is

pub ahead-first : (h : Histories) (p : Name × Name) (pairs : List (Name × Name)) (a : Ahead) → Some a ≡ ahead (p ∷ []) h → Some a ≡ ahead (p ∷ pairs) h
ahead-first h p pairs a is = first_of_both (nat_lt (last_of h p) (tracked_of h p)) (record { app = p.1; leader = p.0; tracked = tracked_of h p; last = last_of h p }) a (ahead pairs h) is

-- where nothing is ahead, no follower tracks past its leader's last notification
pub none_ahead : (pairs : List (Name × Name)) (h : Histories) → ahead pairs h ≡ None → (p : Name × Name) → Contains pairs p → tracked_of h p ≤ last_of h p
none_ahead [] h is p so = contains-none p so
none_ahead (q ∷ pairs) h is p so =
    let passed = passed_by (nat_lt (last_of h q) (tracked_of h q)) (record { app = q.1; leader = q.0; tracked = tracked_of h q; last = last_of h q }) (ahead pairs h) is in
    elim (contains-cases q pairs p so) [
      | inl same ↦ subst (λ r. tracked_of h r ≤ last_of h r) same (ltb-false (last_of h q) (tracked_of h q) passed.0)
      | inr behind ↦ none_ahead pairs h passed.1 p behind
    ]

-- prompts stay, and one is there for a leader whose log has grown
prompt_keeps : (pairs : List (Name × Name)) (prompted : List Name) (app : Name) (es : List StoredEvent) (n : Name) → Contains prompted n → Contains (prompt pairs prompted app es) n
prompt_keeps pairs prompted app [] n so = so
prompt_keeps pairs prompted app (e ∷ es) n so = elim (is_among app (leaders_in pairs) && not (is_among app prompted)) as (λ b. Contains (if b then prompted ++ app ∷ [] else prompted) n) [
  | true ↦ contains-left prompted (app ∷ []) n so
  | false ↦ so
]

prompt_adds : (pairs : List (Name × Name)) (prompted : List Name) (app : Name) (e : StoredEvent) (es : List StoredEvent) → Contains (leaders_in pairs) app → Contains (prompt pairs prompted app (e ∷ es)) app
prompt_adds pairs prompted app e es leads = here (is_among app (leaders_in pairs)) (is_among app prompted) (contains-among app (leaders_in pairs) leads) (among-contains app prompted)
  where
    here : (a b : Bool) → a ≡ true → (b ≡ true → Contains prompted app) → Contains (if a && not b then prompted ++ app ∷ [] else prompted) app
    here true true is there = there refl
    here true false is there = contains-last prompted app
    here false b is there = absurd (cc is)

-- a log has grown, or is as long as before
grown_or_not : (pairs : List (Name × Name)) (prompted : List Name) (app : Name) (h : List Recording) (r : Recording) → Contains (leaders_in pairs) app → (length (log (h ++ r ∷ [])) ≡ length (log h)) ⊎ Contains (prompt pairs prompted app r.events) app
grown_or_not pairs prompted app h r leads = here r.events refl
  where
    here : (es : List StoredEvent) → r.events ≡ es → (length (log (h ++ r ∷ [])) ≡ length (log h)) ⊎ Contains (prompt pairs prompted app r.events) app
    here [] is = inl (omega (arith, size-push h r, ap length is))
    here (e ∷ es) is = inr (subst (λ s. Contains (prompt pairs prompted app s) app) (sym is) (prompt_adds pairs prompted app e es leads))

-- one recording more of an application: what each pair tracks, and how far its leader has come
module _ (h : Histories) (app : Name) (r : Recording) where
  abbrev more : Histories
  more = put h app (h app ++ r ∷ [])

  tracked_more : (q : Name × Name) (top : ℕ) → tracked_of h q ≤ top → (q.1 ≡ app → id_from r.cause q.0 ≤ top) → tracked_of more q ≤ top
  tracked_more q top le from =
      put-cases (λ n x. tracked_in (h n) q.0 ≤ top → (n ≡ app → id_from r.cause q.0 ≤ top) → tracked_in x q.0 ≤ top) h app (h app ++ r ∷ []) q.1
      (λ less may. omega (arith, tracked_in-push (h app) r q.0, less, may refl))
      (λ differ less may. less) le from

  tracked_same : (q : Name × Name) → (q.1 ≡ app → id_from r.cause q.0 ≤ tracked_of h q) → tracked_of more q ≡ tracked_of h q
  tracked_same q from =
      put-cases (λ n x. (n ≡ app → id_from r.cause q.0 ≤ tracked_in (h n) q.0) → tracked_in x q.0 ≡ tracked_in (h n) q.0) h app (h app ++ r ∷ []) q.1
      (λ may. omega (arith, tracked_in-push (h app) r q.0, may refl))
      (λ differ may. refl) from

  last_more : (q : Name × Name) → last_of h q ≤ last_of more q
  last_more q =
      put-cases (λ n x. length (log (h n)) ≤ length (log x)) h app (h app ++ r ∷ []) q.0
      (omega (arith, size-push (h app) r))
      (λ differ. omega arith)

  last_same : (q : Name × Name) → (q.0 ≡ app → ⊥) → last_of more q ≡ last_of h q
  last_same q differ = ap (λ x. length (log x)) (put-other h app (h app ++ r ∷ []) q.0 differ)

module _ (rules : Rules) (options : Options) (opening : Contents) where
  -- each follower tracks its leader's last notification, or is still to be tried; and none tracks more than there is, where none did at the opening
  pub record Chases (done : List Step) (at : Place) : Type 0 where
    pub left : left_by done opening ≡ at.contents
    pub behind : ahead rules.pairs opening.histories ≡ None → (p : Name × Name) → Contains rules.pairs p → tracked_of at.contents.histories p ≤ last_of at.contents.histories p
    pub caught : (p : Name × Name) → Contains rules.pairs p → (last_of at.contents.histories p ≤ tracked_of at.contents.histories p) ⊎ (Contains at.pending p ⊎ Contains at.prompted p.0)

  abbrev pub Nothing : List Step → Type 0
  Nothing done = Unit {0}

  abbrev pub EndsReached : List Step → End → Type 0
  EndsReached done end = (added : List (Name × ℕ)) (count : ℕ) → end ≡ Ok added count → ahead rules.pairs opening.histories ≡ None → IsReached rules.pairs (left_by done opening).histories

  abbrev pub KeepsChase : List Step → Turn → Type 0
  KeepsChase = Keeps rules options opening.histories Chases Nothing EndsReached

  -- a turn that adds nothing
  said_chases : (done : List Step) (at : Place) (so : Chases done at) (reply : Reply) (rest : List Line) (rs : Readings) → KeepsChase done (goes_on (only_says reply) (record (past_line at rest) { readings = rs }))
  said_chases done at so reply rest rs = (
    λ front rest is. tt,
    record {
      left = left_by-append done (writes (reply_text reply) ∷ []) opening ∙ so.left;
      behind = so.behind;
      caught = so.caught;
    },
  )

  idles_chases : (done : List Step) (at : Place) (so : Chases done at) (prompted : List Name) (pending : List (Name × Name))
      → ((p : Name × Name) → Contains rules.pairs p → (last_of at.contents.histories p ≤ tracked_of at.contents.histories p) ⊎ (Contains pending p ⊎ Contains prompted p.0)) → KeepsChase done (goes_on does_nothing (record at { prompted = prompted; pending = pending }))
  idles_chases done at so prompted pending caught = (
    λ front rest is. tt,
    record {
      left = left_by-append done [] opening ∙ so.left;
      behind = so.behind;
      caught = caught;
    },
  )

  -- an accepted command, in a place where nothing is still to be tried
  module _ (done : List Step) (at : Place) (so : Chases done at) (pending_none : at.pending ≡ []) (prompted_none : at.prompted ≡ []) where
    pub all-caught : (p : Name × Name) → Contains rules.pairs p → last_of at.contents.histories p ≤ tracked_of at.contents.histories p
    all-caught p declared = elim (so.caught p declared) [
      | inl reached ↦ reached
      | inr (inl here) ↦ contains-none p (subst (λ ps. Contains ps p) pending_none here)
      | inr (inr here) ↦ contains-none p.0 (subst (λ ns. Contains ns p.0) prompted_none here)
    ]

    accepted_chases : (app : Name) (asked : List ℕ) (r : Recording) (ss : List Snapshot) (reply : Reply) (rest : List Line) (rs : Readings) → r.cause ≡ Command asked
        → KeepsChase done (goes_on (adds_and_says app r ss reply) (record (past_line at rest) { contents = added at.contents app r ss; readings = rs; prompted = app ∷ [] }))
    accepted_chases app asked r ss reply rest rs caused = (
      λ front rest is. tt,
      record {
        left = left_by-append done (steps_of (adds_and_says app r ss reply)) opening ∙ ap (left_by (steps_of (adds_and_says app r ss reply))) so.left ∙ steps-left app r ss (Some reply) at.contents;
        behind = λ fair p declared. omega (arith, same p, so.behind fair p declared, last_more at.contents.histories app r p);
        caught = λ p declared. elim (same-or-not p.0 app) [
          | inl leads ↦ inr (inr (subst (Contains (app ∷ [])) (sym leads) (contains-here app [])))
          | inr differ ↦ inl (omega (arith, same p, all-caught p declared, last_same at.contents.histories app r p differ))
        ];
      },
    )
      where
        same : (p : Name × Name) → tracked_of (put at.contents.histories app (at.contents.histories app ++ r ∷ [])) p ≡ tracked_of at.contents.histories p
        same p = tracked_same at.contents.histories app r p (λ is. omega (arith, ap (λ c. id_from c p.0) caused))

    -- a snapshot changes no history
    taken_chases : (app : Name) (s : Snapshot) (reply : Reply) (rest : List Line) (rs : Readings) → KeepsChase done (goes_on (snaps_and_says app s reply) (record (past_line at rest) { contents = snapped at.contents app s; readings = rs }))
    taken_chases app s reply rest rs = (
      λ front rest is. tt,
      record {
        left = left_by-append done (snaps app s ∷ writes (reply_text reply) ∷ []) opening ∙ ap (left_by (snaps app s ∷ writes (reply_text reply) ∷ [])) so.left;
        behind = so.behind;
        caught = so.caught;
      },
    )

    answered_chases : (app : Name) (asked : Request) (rest : List Line) (rs : Readings) (a : Answer)
        → request_answer rules options.capacity app (at.contents.histories app) (at.contents.snapshots app) (logs_of at.contents.histories) asked (first_reading at.readings) ≡ a → KeepsChase done (answer_turn at rest app rs a)
    answered_chases app asked rest rs (says reply) is = said_chases done at so reply rest rs
    answered_chases app asked rest rs (accepts r ss reply) is =
        let so_is : AcceptsCommand rules app (at.contents.histories app) (logs_of at.contents.histories) (first_reading at.readings) asked r ss =
        request-accepts rules app (at.contents.histories app) (logs_of at.contents.histories) (first_reading at.readings) options.capacity (at.contents.snapshots app) asked r ss reply is in
        accepted_chases app (command_text app so_is.command) r ss reply rest rs (sym (ap (λ (x : Recording). x.cause) so_is.decided.is))
    answered_chases app asked rest rs (takes s reply) is = taken_chases app s reply rest rs
    answered_chases app asked rest rs (ends end) is =
        λ added count ok. request-ends rules app (at.contents.histories app) (logs_of at.contents.histories) (first_reading at.readings) options.capacity (at.contents.snapshots app) asked added count (is ∙ ap ends ok)

    app_chases : (app : Name) (asked : Request) (rest : List Line) → KeepsChase done (app_turn rules options at rest app asked)
    app_chases app asked rest =
        answered_chases app asked rest (readings_after (takes_reading (at.contents.histories app) asked) at.readings)
        (request_answer rules options.capacity app (at.contents.histories app) (at.contents.snapshots app) (logs_of at.contents.histories) asked (first_reading at.readings)) refl

    request_chases : (rest : List Line) (a : Asked) → KeepsChase done (request_turn rules options at rest a)
    request_chases rest (refused fault) = said_chases done at so (reply_to fault) rest at.readings
    request_chases rest (asks request.Sync) = said_chases done at so Sync rest at.readings
    request_chases rest (asks request.Stop) = said_chases done at so Stop rest at.readings
    request_chases rest (asks (request.Do app c)) = app_chases app (request.Do app c) rest
    request_chases rest (asks (request.Get app id version)) = app_chases app (request.Get app id version) rest
    request_chases rest (asks (request.Log app section)) = app_chases app (request.Log app section) rest
    request_chases rest (asks (request.Tracking app leader)) = app_chases app (request.Tracking app leader) rest
    request_chases rest (asks (request.Snapshot app id)) = app_chases app (request.Snapshot app id) rest

    line_chases : (ls : List Line) → KeepsChase done (line_turn rules options opening.histories at ls)
    line_chases [] = λ added count ok fair p declared. subst (λ (c : Contents). tracked_of c.histories p ≡ last_of c.histories p) (sym so.left) (le_antisymm (so.behind fair p declared) (all-caught p declared))
    line_chases (text t ∷ rest) = request_chases rest (rules.request t)
    line_chases (long ∷ rest) = said_chases done at so Long rest at.readings
    line_chases (over ∷ rest) = λ added count ok fair. absurd (cc ok)

  -- a follower records the next notification of its leader
  module _ (done : List Step) (at : Place) (so : Chases done at) (leader app : Name) (pending : Contains at.pending (leader, app)) (there : tracked_in (at.contents.histories app) leader < length (log (at.contents.histories leader))) where
    abbrev next_id : ℕ
    next_id = tracked_in (at.contents.histories app) leader + 1

    module _ (r : Recording) (caused : Notification leader next_id ≡ r.cause) where
      -- of another leader nothing is tracked that wasn't before
      other_leader : (n : Name) → (n ≡ leader → ⊥) → id_from r.cause n ≡ 0
      other_leader n differ = ap (λ c. id_from c n) (sym caused) ∙ not_from (bytes_eq leader n) (λ is. differ (sym (same-name leader n is)))
        where
          not_from : (b : Bool) → (b ≡ true → ⊥) → (if b then next_id else 0) ≡ 0
          not_from true differ = absurd (differ refl)
          not_from false differ = refl

      still_behind : ahead rules.pairs opening.histories ≡ None → (p : Name × Name) → Contains rules.pairs p → tracked_of (put at.contents.histories app (at.contents.histories app ++ r ∷ [])) p ≤ last_of (put at.contents.histories app (at.contents.histories app ++ r ∷ [])) p
      still_behind fair p declared =
          let less : tracked_of (put at.contents.histories app (at.contents.histories app ++ r ∷ [])) p ≤ last_of at.contents.histories p =
          tracked_more at.contents.histories app r p (last_of at.contents.histories p) (so.behind fair p declared) (λ same. within (same-or-not p.0 leader)) in
          omega (arith, less, last_more at.contents.histories app r p)
        where
          within : (p.0 ≡ leader) ⊎ (p.0 ≡ leader → ⊥) → id_from r.cause p.0 ≤ last_of at.contents.histories p
          within (inl is) = subst (λ n. id_from r.cause n ≤ length (log (at.contents.histories n))) (sym is) (subst (λ c. id_from c leader ≤ length (log (at.contents.histories leader))) caused (from_it (bytes_eq leader leader)))
            where
              from_it : (b : Bool) → (if b then next_id else 0) ≤ length (log (at.contents.histories leader))
              from_it true = omega (arith, there)
              from_it false = omega arith
          within (inr differ) = omega (arith, other_leader p.0 differ)

      abbrev grown : Histories
      grown = put at.contents.histories app (at.contents.histories app ++ r ∷ [])

      abbrev IsCaught : Name × Name → Type 0
      IsCaught p = (last_of grown p ≤ tracked_of grown p) ⊎ (Contains at.pending p ⊎ Contains (prompt rules.pairs at.prompted app r.events) p.0)

      -- a pair that had reached its leader, which may be this follower
      reached_caught : (p : Name × Name) → Contains rules.pairs p → last_of at.contents.histories p ≤ tracked_of grown p → IsCaught p
      reached_caught p declared same = elim (same-or-not p.0 app) [
        | inl leads ↦ elim (grown_or_not rules.pairs at.prompted app (at.contents.histories app) r (subst (Contains (leaders_in rules.pairs)) leads (leaders-contains rules.pairs p declared))) [
          | inl alike ↦ let still : last_of grown p ≡ last_of at.contents.histories p = ap (λ n. length (log (grown n))) leads ∙ ap (λ x. length (log x)) (put-here at.contents.histories app (at.contents.histories app ++ r ∷ [])) ∙ alike ∙ ap (λ n. length (log (at.contents.histories n))) (sym leads) in
              inl (omega (arith, still, same))
          | inr prompted ↦ inr (inr (subst (Contains (prompt rules.pairs at.prompted app r.events)) (sym leads) prompted))
        ]
        | inr differ ↦ inl (omega (arith, same, last_same at.contents.histories app r p differ))
      ]

      other_caught : (p : Name × Name) → Contains rules.pairs p → (p.1 ≡ app → p.0 ≡ leader → ⊥) → IsCaught p
      other_caught p declared differ =
          let same : tracked_of grown p ≡ tracked_of at.contents.histories p = tracked_same at.contents.histories app r p (λ is. omega (arith, other_leader p.0 (differ is))) in
          elim (so.caught p declared) [
            | inl reached ↦ reached_caught p declared (omega (arith, same, reached))
            | inr (inl here) ↦ inr (inl here)
            | inr (inr here) ↦ inr (inr (prompt_keeps rules.pairs at.prompted app r.events p.0 here))
          ]

      still_caught : (p : Name × Name) → Contains rules.pairs p → IsCaught p
      still_caught p declared = elim (same-or-not p.0 leader) [
        | inr differ ↦ other_caught p declared (λ app_is. differ)
        | inl leads ↦ elim (same-or-not p.1 app) [
          | inr differ ↦ other_caught p declared (λ app_is. absurd (differ app_is))
          | inl follows ↦ inr (inl (subst (Contains at.pending) (λ i. (sym leads i, sym follows i)) pending))
        ]
      ]

      followed_stand : (ss : List Snapshot) → Chases (done ++ steps_of (only_adds app r ss)) (record at { contents = added at.contents app r ss; readings = later_readings at.readings; used = put at.used app (at.used app + 1); prompted = prompt rules.pairs at.prompted app r.events })
      followed_stand ss = record {
        left = left_by-append done (steps_of (only_adds app r ss)) opening ∙ ap (left_by (steps_of (only_adds app r ss))) so.left ∙ steps-left app r ss None at.contents;
        behind = still_behind;
        caught = still_caught;
      }

    followed_chases : (f : Followed) → followed rules options app (at.contents.histories app) (at.used app) (logs_of at.contents.histories) leader next_id (first_reading at.readings) ≡ f → KeepsChase done (followed_turn rules at app f)
    followed_chases (stops end) is =
        λ added count ok. followed-stops rules app (at.contents.histories app) (logs_of at.contents.histories) (first_reading at.readings) options (at.used app) leader next_id added count (is ∙ ap stops ok)
    followed_chases (adds r ss) is =
        let decided : IsDecided (rules.decide app (at.contents.histories app) (logs_of at.contents.histories) (Notification leader next_id) (first_reading at.readings)) (Notification leader next_id) (first_reading at.readings) r =
        followed-adds rules app (at.contents.histories app) (logs_of at.contents.histories) (first_reading at.readings) options (at.used app) leader next_id r ss is in
        (λ front rest none. tt, followed_stand r (ap (λ (s : Recording). s.cause) decided.is) ss)

  -- a pair whose follower has no notification to come
  dropped_caught : (done : List Step) (at : Place) (so : Chases done at) (leader app : Name) (rest : List (Name × Name)) → at.pending ≡ (leader, app) ∷ rest → length (log (at.contents.histories leader)) ≤ tracked_in (at.contents.histories app) leader
      → (p : Name × Name) → Contains rules.pairs p → (last_of at.contents.histories p ≤ tracked_of at.contents.histories p) ⊎ (Contains rest p ⊎ Contains at.prompted p.0)
  dropped_caught done at so leader app rest is past p declared = elim (so.caught p declared) [
    | inl reached ↦ inl reached
    | inr (inr here) ↦ inr (inr here)
    | inr (inl here) ↦ elim (contains-cases (leader, app) rest p (subst (λ ps. Contains ps p) is here)) [
      | inl same ↦ inl (subst (λ q. last_of at.contents.histories q ≤ tracked_of at.contents.histories q) same past)
      | inr behind ↦ inr (inl behind)
    ]
  ]

  next_chases : (done : List Step) (at : Place) (so : Chases done at) (leader app : Name) (rest : List (Name × Name)) → at.pending ≡ (leader, app) ∷ rest → (o : Option StoredEvent) → slice_get (log (at.contents.histories leader)) (tracked_in (at.contents.histories app) leader) ≡ o
      → KeepsChase done (next_turn rules options at leader app rest o)
  next_chases done at so leader app rest is None none =
      let past : length (log (at.contents.histories leader)) ≤ tracked_in (at.contents.histories app) leader = elim (slice_get_cases (log (at.contents.histories leader)) (tracked_in (at.contents.histories app) leader)).1 [
        | inl within ↦ let clash : None ≡ Some within.0 = sym none ∙ within.2 in absurd (cc clash)
        | inr after ↦ after.0
      ] in
      idles_chases done at so at.prompted rest (dropped_caught done at so leader app rest is past)
  next_chases done at so leader app rest is (Some e) some =
      followed_chases done at so leader app (subst (λ ps. Contains ps (leader, app)) (sym is) (contains-here (leader, app) rest)) (slice_get_within (log (at.contents.histories leader)) (tracked_in (at.contents.histories app) leader) e some)
      (followed rules options app (at.contents.histories app) (at.used app) (logs_of at.contents.histories) leader (tracked_in (at.contents.histories app) leader + 1) (first_reading at.readings)) refl

  -- the pairs of a leader that is taken are still to be tried
  taken_caught : (done : List Step) (at : Place) (so : Chases done at) (leader : Name) (prompted : List Name) → at.pending ≡ [] → at.prompted ≡ leader ∷ prompted
      → (p : Name × Name) → Contains rules.pairs p → (last_of at.contents.histories p ≤ tracked_of at.contents.histories p) ⊎ (Contains (led_by rules.pairs leader) p ⊎ Contains prompted p.0)
  taken_caught done at so leader prompted none is p declared = elim (so.caught p declared) [
    | inl reached ↦ inl reached
    | inr (inl here) ↦ contains-none p (subst (λ ps. Contains ps p) none here)
    | inr (inr here) ↦ elim (contains-cases leader prompted p.0 (subst (λ ns. Contains ns p.0) is here)) [
      | inl same ↦ inr (inl (subst (λ n. Contains (led_by rules.pairs n) p) (sym same) (led-contains rules.pairs p declared)))
      | inr behind ↦ inr (inr behind)
    ]
  ]

  pub turn-chases : (done : List Step) (at : Place) (so : Chases done at) (pending : List (Name × Name)) (prompted : List Name) → at.pending ≡ pending → at.prompted ≡ prompted → KeepsChase done (turn_of rules options opening.histories at pending prompted)
  turn-chases done at so (p ∷ rest) prompted is prompts = next_chases done at so p.0 p.1 rest is (slice_get (log (at.contents.histories p.0)) (tracked_in (at.contents.histories p.1) p.0)) refl
  turn-chases done at so [] (leader ∷ prompted) is prompts = idles_chases done at so prompted (led_by rules.pairs leader) (taken_caught done at so leader prompted is prompts)
  turn-chases done at so [] [] is prompts = line_chases done at so is prompts at.lines

  -- a place at which all leaders are prompted
  pub leaders-chase : (readings : Readings) (used : Name → ℕ) (lines : List Line) (k : ℕ) → Chases [] (record { contents = opening; readings = readings; used = used; prompted = leaders_in rules.pairs; pending = []; lines = lines; answered = k })
  leaders-chase readings used lines k = record { left = refl; behind = λ fair. none_ahead rules.pairs opening.histories fair; caught = λ p declared. inr (inr (leaders-contains rules.pairs p declared)) }

  pub start-chases : (readings : Readings) (lines : List Line) → Chases [] (start rules opening readings lines)
  start-chases readings lines = leaders-chase readings (λ app. 0) lines 0

  pub reached-from : (at : Place) (d : Run) → Chases [] at → IsRun rules options opening.histories at d → EndsReached d.steps d.end
  reached-from at d chases run =
      run-ends rules options opening.histories Chases Nothing EndsReached (λ done now so. tt) (λ done now so. turn-chases done now so now.pending now.prompted refl refl) at d chases run

  whole_reached : (readings : Readings) (lines : List Line) (d : Run) → IsRun rules options opening.histories (start rules opening readings lines) d → EndsReached d.steps d.end
  whole_reached readings lines d run = reached-from (start rules opening readings lines) d (start-chases readings lines) run

  -- all steps of a run that ends well, from opening.histories of which none is ahead, leave each follower at its leaders' last notifications
  pub run-reached : (readings : Readings) (lines : List Line) (d : Run) → IsRun rules options opening.histories (start rules opening readings lines) d → ahead rules.pairs opening.histories ≡ None
      → (done rest : List Step) → d.steps ≡ done ++ rest → rest ≡ [] → (added : List (Name × ℕ)) (count : ℕ) → d.end ≡ Ok added count → IsReached rules.pairs (left_by done opening).histories
  run-reached readings lines d run none done rest parts whole added count ok =
      let same : d.steps ≡ done = parts ∙ ap (λ (t : List Step). done ++ t) whole ∙ append-nil done in
      subst (λ t. IsReached rules.pairs (left_by t opening).histories) same (whole_reached readings lines d run added count ok none)
