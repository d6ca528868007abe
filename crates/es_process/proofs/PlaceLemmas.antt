-- An application at its place, and what changes where it does.
use Rattle.std.proofs.Common.{◌≡◌, inl, inr, ◌⊎◌, ◌≤◌, ◌<◌, ◌+◌, ◌-◌, ℕ, zero, suc, Bool, true, false, IsTrue, List, [], ◌∷◌, ◌++◌, length, Option, Some, None, is_some, Contains, Result, Ok, Err, IfOk, IfSome, slice_get, slice_set, get_or, map, cond, refl, sym, ap, ◌∙◌, subst, arith}
use Rattle.std.specs.Option.{option_to_list}
use Rattle.std.specs.Str.{bytes_eq}
use Rattle.std.proofs.lemmas.Option.{slice_get_within, slice_get-get_or}
use Rattle.es_model.specs.Causes.{Rose}
use Rattle.es_model.specs.Declaration.{app_named}
use Rattle.es_model.specs.History.{log}
use Rattle.es_model.specs.Tracking.{tracked_in}
use Rattle.es_model.specs.Values.{Name}
use Rattle.es_model.specs.declared.declaration.App.{App}
use Rattle.es_model.specs.declared.declaration.System.{System}
use Rattle.es_model.specs.declared.domain_event.DomainEvent.{DomainEvent}
use Rattle.es_model.specs.declared.event.Notification.{Notification}
use Rattle.es_model.specs.declared.event.Cause.TheVariants.{Notification as notification}
use Rattle.es_model.specs.declared.event.Recording.{Recording}
use Rattle.es_model.specs.declared.event.StoredEvent.{StoredEvent}
use Rattle.es_model.specs.declared.snapshot.Snapshot.{Snapshot}
use Rattle.es_mapper.specs.Mapped.{event_of}
use Rattle.es_io.specs.Readings.{Readings, first_reading, later_readings}
use Rattle.es_decl.specs.Pairs.{pairs_of}
use Rattle.es_recorder.specs.Held.{put}
use Rattle.es_recorder.specs.Selections.{select_notifications}
use Rattle.es_recorder.specs.Stable.{GrowsTold}
use Rattle.es_process.specs.declared.application.Application.{Application}
use Rattle.es_process.specs.declared.application.Processed.{Processed}
use Rattle.es_process.specs.declared.application.Processed.TheVariants.{Recorded}
use Rattle.es_process.specs.declared.pairs.Pair.{Pair}
use Rattle.es_process.specs.declared.faults.RunFault.{RunFault}
use Rattle.es_process.specs.declared.faults.RunFault.TheVariants as fault
use Rattle.es_process.specs.Answer.{Options, adds, options, followed, put_each}
use Rattle.es_process.specs.Contents.{Contents, added}
use Rattle.es_process.specs.Decision.{logs_of, unreadable}
use Rattle.es_process.specs.inner.Following.{FindsNext, trying, CameTo, prompted_after, all_left}
use Rattle.es_process.specs.Drains.{IsPairOf, AreApps, ArePrompted}
use Rattle.es_process.specs.Leaves.{Tells, Processes, Converts, IsEntry}
use Rattle.es_process.specs.Standing.{State, Holds, HoldContents, Faulted, AreDistinct, IsNextAfter, Stays, IsSame, AllStay, SomeRose, names_in}
use Rattle.es_process.specs.SingleThread.{prompt}
use Rattle.es_process.specs.SystemRules.{rules_of, decide_event, decide_entry}
use Rattle.es_process.specs.Terms.{Terms, terms}
use Rattle.es_process.proofs.AmongLemmas.{contains-cases, contains-none, is-same, put-here, put-other}
use Rattle.es_process.proofs.DecidedLemmas.{followed-adds}
use Rattle.es_process.proofs.FollowsLemmas.{Grows-put}
use Rattle.es_process.proofs.HoldsLemmas.{contains-at, name-at, app-at, AreAlikeBut, alike-same, alike-added, holds-set, holds-same, held-contents, contents-set, all-then, all-set, rose-set, rose-then}
use Rattle.es_process.proofs.PairLemmas.{finds_next, follows_in, history_in, snapshots_in, next_entry, next_id, recorded_in, turns_over, entry_unread, OneRecorded, one_recorded, prompts}
use Rattle.es_process.proofs.StableLemmas.{TrackFrom, notification-there, track-added, within-grown}
use Rattle.es_process.proofs.StandingLemmas.{cut_here, came_faulted}

-- a declared application is found by its name
named-step : (v : Bool) (a : App) (apps : List App) (n : Name) → bytes_eq a.name n ≡ v → (a.name ≡ n → bytes_eq a.name n ≡ true) → (Contains (map (λ (x : App). x.name) apps) n → IsTrue (is_some (app_named apps n)))
    → Contains (map (λ (x : App). x.name) (a ∷ apps)) n → IsTrue (is_some (cond v (Some a) (app_named apps n)))
named-step true a apps n is same rest there = refl
named-step false a apps n is same rest there = rest (elim (contains-cases a.name (map (λ (x : App). x.name) apps) n there) [
  | inl here ↦ (let clash : false ≡ true = sym is ∙ same here in absurd (cc clash))
  | inr behind ↦ behind
])

pub named-found : (apps : List App) (n : Name) → Contains (map (λ (x : App). x.name) apps) n → IsTrue (is_some (app_named apps n))
named-found [] n there = contains-none n there
named-found (a ∷ apps) n there = named-step (bytes_eq a.name n) a apps n refl (is-same a.name n) (named-found apps n) there

pub place-named : (sys : System) (names : List Name) (i : ℕ) (n : Name) → AreApps sys names → slice_get names i ≡ Some n → IsTrue (is_some (app_named sys.apps n))
place-named sys names i n are at = named-found sys.apps n (subst (λ ns. Contains ns n) are.named (contains-at names i n at))

-- what the selected notifications tell of a history that may be told
pub next_found : (o : Option (List Recording)) (tracked count : ℕ) (next items left : List Notification) (q : Option Notification) → items ≡ next → IfSome o (λ h. next ≡ select_notifications (log h) (tracked + 1) 1)
    → items ≡ left ++ option_to_list q → count ≡ length items → (q ≡ None → count ≡ 0) → IfSome o (λ h. IsNextAfter (log h) tracked q)
next_found None tracked count next items left q same from popped counted empty = tt
next_found (Some h) tracked count next items left q same from popped counted empty = finds_next (log h) tracked count items left q (same ∙ from) popped counted empty

-- the next entry for a pair, by what the follower tracks and what comes after that in the leader's log
pub finds_pair : (s : State) (p : Pair) (tracked : ℕ) (result : Result (Option Notification) RunFault) (follower leader : Option (List Recording)) → follower ≡ Some (s.contents.histories p.follower_name) → leader ≡ Some (s.contents.histories p.leader_name)
    → IfSome follower (λ h. tracked ≡ tracked_in h p.leader_name) → IfSome leader (λ h. IfOk result (IsNextAfter (log h) tracked)) → IfOk result (FindsNext s p)
finds_pair s p tracked result follower leader f l value found =
    let is : tracked ≡ tracked_in (s.contents.histories p.follower_name) p.leader_name = subst (λ o. IfSome o (λ h. tracked ≡ tracked_in h p.leader_name)) f value in
    subst (λ k. IfOk result (IsNextAfter (log (s.contents.histories p.leader_name)) k)) is (subst (λ o. IfSome o (λ h. IfOk result (IsNextAfter (log h) tracked))) l found)

-- what was processed, by the state
pub process_told : (sys : System) (o : Options) (s : State) (p : Pair) (capacity turns used id : ℕ) (name : Name) (result : Result Processed RunFault) (new : Option (List Recording)) (now : Option (List Snapshot)) (count : ℕ) (later : Option Readings)
    → capacity ≡ o.capacity → turns ≡ o.turns → used ≡ s.used p.follower_name → name ≡ p.follower_name → id ≡ next_id s p
    → Processes p.leader_name id (followed (rules_of sys) (options capacity turns) name (history_in s p) used (logs_of s.contents.histories) p.leader_name id (first_reading s.readings)) (history_in s p) (snapshots_in s p) used s.readings result new now count later
    → Processes p.leader_name (next_id s p) (follows_in (terms (rules_of sys) o) s p) (history_in s p) (snapshots_in s p) (s.used p.follower_name) s.readings result new now count later
process_told sys o s p capacity turns used id name result new now count later c t u n d so =
    let Told : ℕ → ℕ → ℕ → Name → ℕ → Type 0 = λ x y z m k. Processes p.leader_name k (followed (rules_of sys) (options x y) m (history_in s p) z (logs_of s.contents.histories) p.leader_name k (first_reading s.readings)) (history_in s p) (snapshots_in s p) z s.readings result new now count later in
    subst (λ x. Told x o.turns (s.used p.follower_name) p.follower_name (next_id s p)) c
    (subst (λ x. Told capacity x (s.used p.follower_name) p.follower_name (next_id s p)) t
    (subst (λ x. Told capacity turns x p.follower_name (next_id s p)) u
    (subst (λ x. Told capacity turns used x (next_id s p)) n
    (subst (λ x. Told capacity turns used name x) d so))))

module _ {R : Type 0} where
  -- a place where a name stands is within, and an application is read there
  pub place-within : (apps : List (Application R)) (i : ℕ) (n : Name) → slice_get (names_in apps) i ≡ Some n → i < length apps
  place-within apps i n at = let a = app-at apps i n at in slice_get_within apps i a.0 a.1

  pub place-read : (apps : List (Application R)) (i : ℕ) (n : Name) (d : Application R) → slice_get (names_in apps) i ≡ Some n → slice_get apps i ≡ Some (get_or apps i d)
  place-read apps i n d at = slice_get-get_or apps i d (place-within apps i n at)

  pub place-name : (apps : List (Application R)) (i : ℕ) (n : Name) (a : Application R) → slice_get (names_in apps) i ≡ Some n → slice_get apps i ≡ Some a → a.name ≡ n
  place-name apps i n a at there = let same : Some a.name ≡ Some n = sym (name-at apps i a there) ∙ at in (let is : a.name ≡ n = cc same in is)

  -- the turns that are left
  pub left-same : (apps : List (Application R)) (i : ℕ) (a b : Application R) → slice_get apps i ≡ Some a → b.turns ≡ a.turns → b.used ≡ a.used → all_left (slice_set apps i b) ≡ all_left apps
  left-same [] i a b at turns used = absurd (cc at)
  left-same (c ∷ cs) zero a b at turns used = let is : c ≡ a = cc at in (λ k. turns k - used k + all_left cs) ∙ ap (λ (x : Application R). x.turns - x.used + all_left cs) (sym is)
  left-same (c ∷ cs) (suc i) a b at turns used = ap (λ n. c.turns - c.used + n) (left-same cs i a b at turns used)

  pub left-fewer : (apps : List (Application R)) (i : ℕ) (a b : Application R) → slice_get apps i ≡ Some a → b.turns ≡ a.turns → b.used ≡ a.used + 1 → a.used < a.turns → all_left (slice_set apps i b) < all_left apps
  left-fewer [] i a b at turns used free = absurd (cc at)
  left-fewer (c ∷ cs) zero a b at turns used free =
      let is : c ≡ a = cc at in
      let old : c.turns - c.used ≡ a.turns - a.used = ap (λ (x : Application R). x.turns - x.used) is in
      omega (arith, old, turns, used, free)
  left-fewer (c ∷ cs) (suc i) a b at turns used free = omega (arith, left-fewer cs i a b at turns used free)

  -- the follower of a pair, before and after it processed the next notification
  module _ (apps : List (Application R)) (distinct : AreDistinct (names_in apps)) (p : Pair) (a b : Application R) (placed : slice_get (names_in apps) p.follower ≡ Some p.follower_name) (at : slice_get apps p.follower ≡ Some a) (named : b.name ≡ a.name)
      (history stable : R → Option (List Recording)) (settled : R → Bool) (whole : (r : R) → settled r ≡ true → stable r ≡ history r) (snapshots : R → Option (List Snapshot)) (capacity : R → ℕ) (base : Contents) (o : Options) (readings : Option Readings) (s : State) (held : Holds history settled snapshots capacity base o apps readings s) where
    is_follower : a.name ≡ p.follower_name
    is_follower = place-name apps p.follower p.follower_name a placed at

    pub follower-still : (settled a.recorder ≡ true → GrowsTold (history a.recorder) (stable b.recorder)) → Tells (history_in s p) (snapshots_in s p) (history b.recorder) (snapshots b.recorder) → HoldContents history stable snapshots base (slice_set apps p.follower b) s.contents
    follower-still grows tells =
        contents-set apps distinct p.follower a b at named history stable settled whole snapshots capacity base o readings s s.contents held (subst (λ n. Tells (s.contents.histories n) (s.contents.snapshots n) (history b.recorder) (snapshots b.recorder)) (sym is_follower) tells) (alike-same a.name s.contents)
        grows held.within

    -- what it tells, by the contents with what was added
    added-told : (r : Recording) (ss : List Snapshot) → Tells (history_in s p ++ r ∷ []) (put_each (snapshots_in s p) ss) (history b.recorder) (snapshots b.recorder)
        → Tells ((added s.contents p.follower_name r ss).histories p.follower_name) ((added s.contents p.follower_name r ss).snapshots p.follower_name) (history b.recorder) (snapshots b.recorder)
    added-told r ss tells = record {
      recordings = tells.recordings ∙ ap Some (sym (put-here s.contents.histories p.follower_name (history_in s p ++ r ∷ [])));
      snapshots = tells.snapshots ∙ ap Some (sym (put-here s.contents.snapshots p.follower_name (put_each (snapshots_in s p) ss)));
    }

    alike : (r : Recording) (ss : List Snapshot) → AreAlikeBut a.name s.contents (added s.contents p.follower_name r ss)
    alike r ss = subst (λ n. AreAlikeBut n s.contents (added s.contents p.follower_name r ss)) (sym is_follower) (alike-added p.follower_name s.contents r ss)

    -- the next notification is there, so whoever records it tracks no more than there is
    module _ (t : Terms) (e : StoredEvent) (there : next_entry s p ≡ Some e) (r : Recording) (all : List Snapshot) (follows : follows_in t s p ≡ adds r all) where
      caused : r.cause ≡ notification p.leader_name (next_id s p)
      caused = sym (ap (λ (x : Recording). x.cause) (followed-adds t.rules p.follower_name (history_in s p) (logs_of s.contents.histories) (first_reading s.readings) t.options (s.used p.follower_name) p.leader_name (next_id s p) r all follows).is)

      track-next : TrackFrom base.histories s.contents.histories (put s.contents.histories p.follower_name (history_in s p ++ r ∷ []))
      track-next =
          let within : tracked_in (history_in s p) p.leader_name < length (log (s.contents.histories p.leader_name)) = slice_get_within (log (s.contents.histories p.leader_name)) (tracked_in (history_in s p) p.leader_name) e there in
          track-added base.histories s.contents.histories p.follower_name r held.within (notification-there s.contents.histories r.cause p.leader_name (next_id s p) caused (omega (arith, within)))

      pub follower-more : (ss : List Snapshot) → (settled a.recorder ≡ true → GrowsTold (history a.recorder) (stable b.recorder)) → Tells (history_in s p ++ r ∷ []) (put_each (snapshots_in s p) ss) (history b.recorder) (snapshots b.recorder)
          → HoldContents history stable snapshots base (slice_set apps p.follower b) (added s.contents p.follower_name r ss)
      follower-more ss grows tells =
          contents-set apps distinct p.follower a b at named history stable settled whole snapshots capacity base o readings s (added s.contents p.follower_name r ss) held
          (subst (λ n. Tells ((added s.contents p.follower_name r ss).histories n) ((added s.contents p.follower_name r ss).snapshots n) (history b.recorder) (snapshots b.recorder)) (sym is_follower) (added-told r ss tells))
          (alike r ss) grows track-next

      pub follower-recorded : (now : Option Readings) (ss : List Snapshot) → settled b.recorder ≡ true → capacity b.recorder ≡ capacity a.recorder → b.turns ≡ a.turns
          → Tells (history_in s p ++ r ∷ []) (put_each (snapshots_in s p) ss) (history b.recorder) (snapshots b.recorder) → b.used ≡ s.used p.follower_name + 1 → now ≡ Some (later_readings s.readings)
          → Holds history settled snapshots capacity base o (slice_set apps p.follower b) now (recorded_in s p r ss)
      follower-recorded now ss all_settled room turns tells counted read =
          let one = held.each p.follower a at in
          let mine : b.name ≡ p.follower_name = named ∙ is_follower in
          let told = added-told r ss tells in
          holds-set apps distinct p.follower a b at named history settled snapshots capacity base o readings now s (recorded_in s p r ss) held
          (record {
            told = told.recordings ∙ ap (λ n. Some ((added s.contents p.follower_name r ss).histories n)) (sym mine);
            told_snapshots = told.snapshots ∙ ap (λ n. Some ((added s.contents p.follower_name r ss).snapshots n)) (sym mine);
            whole = all_settled;
            room = room ∙ one.room;
            turns = turns ∙ one.turns;
            counted = counted ∙ sym (ap (put s.used p.follower_name (s.used p.follower_name + 1)) mine ∙ put-here s.used p.follower_name (s.used p.follower_name + 1));
          })
          (alike r ss) (λ n differ. put-other s.used p.follower_name (s.used p.follower_name + 1) n (λ is. differ (is ∙ sym is_follower))) read
          (within-grown base.histories s.contents.histories (put s.contents.histories p.follower_name (history_in s p ++ r ∷ [])) track-next (Grows-put s.contents.histories p.follower_name r))

-- two applications that are the same as they were, one after another
module _ {R : Type 0} (history : R → Option (List Recording)) (settled : R → Bool) (capacity : R → ℕ) (snapshots : R → Option (List Snapshot)) (faults : R → ℕ) (apps : List (Application R)) (distinct : AreDistinct (names_in apps)) (i j : ℕ) (n m : Name)
    (x y b d : Application R) (placed : slice_get (names_in apps) i ≡ Some n) (placed_too : slice_get (names_in apps) j ≡ Some m) (first : IsSame history settled capacity snapshots faults (get_or apps i x) b) where
  abbrev first_app : Application R
  first_app = get_or apps i x

  abbrev second_app : Application R
  second_app = get_or (slice_set apps i b) j y

  at_first : slice_get apps i ≡ Some first_app
  at_first = place-read apps i n x placed

  first-stay : AllStay faults apps (slice_set apps i b)
  first-stay = all-set apps distinct i first_app b at_first first.stays

  pub first-names : names_in (slice_set apps i b) ≡ names_in apps
  first-names = first-stay.names

  still_placed : slice_get (names_in (slice_set apps i b)) j ≡ Some m
  still_placed = ap (λ ns. slice_get ns j) first-names ∙ placed_too

  pub second-within : j < length (slice_set apps i b)
  second-within = place-within (slice_set apps i b) j m still_placed

  at_second : slice_get (slice_set apps i b) j ≡ Some second_app
  at_second = place-read (slice_set apps i b) j m y still_placed

  still_distinct : AreDistinct (names_in (slice_set apps i b))
  still_distinct = subst AreDistinct (sym first-names) distinct

  pub first-holds : (base : Contents) (o : Options) (readings : Option Readings) (s : State) → Holds history settled snapshots capacity base o apps readings s → Holds history settled snapshots capacity base o (slice_set apps i b) readings s
  first-holds = holds-same apps distinct i first_app b at_first history settled snapshots capacity first

  -- what the two hold
  pub first-told : (base : Contents) (o : Options) (readings : Option Readings) (s : State) → Holds history settled snapshots capacity base o apps readings s → history first_app.recorder ≡ Some (s.contents.histories n)
  first-told base o readings s held = (held.each i first_app at_first).told ∙ ap (λ k. Some (s.contents.histories k)) (place-name apps i n first_app placed at_first)

  pub second-told : (base : Contents) (o : Options) (readings : Option Readings) (s : State) → Holds history settled snapshots capacity base o apps readings s → history second_app.recorder ≡ Some (s.contents.histories m)
  second-told base o readings s held = ((first-holds base o readings s held).each j second_app at_second).told ∙ ap (λ k. Some (s.contents.histories k)) (place-name (slice_set apps i b) j m second_app still_placed at_second)

  module _ (second : IsSame history settled capacity snapshots faults second_app d) where
    pub both-hold : (base : Contents) (o : Options) (readings : Option Readings) (s : State) → Holds history settled snapshots capacity base o apps readings s → Holds history settled snapshots capacity base o (slice_set (slice_set apps i b) j d) readings s
    both-hold base o readings s held = holds-same (slice_set apps i b) still_distinct j second_app d at_second history settled snapshots capacity second base o readings s (first-holds base o readings s held)

    pub both-stay : AllStay faults apps (slice_set (slice_set apps i b) j d)
    both-stay = all-then first-stay (all-set (slice_set apps i b) still_distinct j second_app d at_second second.stays)

    pub both-left : all_left (slice_set (slice_set apps i b) j d) ≡ all_left apps
    both-left = left-same (slice_set apps i b) j second_app d at_second second.stays.turns second.used ∙ left-same apps i first_app b at_first first.stays.turns first.used

  pub second-rose : Rose (faults second_app.recorder) (faults d.recorder) → SomeRose faults apps (slice_set (slice_set apps i b) j d)
  second-rose rose = rose-then faults apps (slice_set apps i b) (slice_set (slice_set apps i b) j d) first-stay.later (rose-set faults (slice_set apps i b) j second_app d at_second rose)

-- the follower of the pair, where the next notification is processed
module _ {R : Type 0} (sys : System) (apps : List (Application R)) (p : Pair) (pair : IsPairOf sys (names_in apps) p) (x : Application R) where
  abbrev pub follower_app : Application R
  follower_app = get_or apps p.follower x

  pub at_follower : slice_get apps p.follower ≡ Some follower_app
  at_follower = place-read apps p.follower p.follower_name x pair.placed.follower

  pub follower-declared : IsTrue (is_some (app_named sys.apps follower_app.name))
  follower-declared = place-named sys (names_in apps) p.follower follower_app.name pair.apps (name-at apps p.follower follower_app at_follower)

  pub leader-declared : IsTrue (is_some (app_named sys.apps p.leader_name))
  leader-declared = place-named sys (names_in apps) p.leader p.leader_name pair.apps pair.placed.leader

  module _ (history stable : R → Option (List Recording)) (settled : R → Bool) (whole : (r : R) → settled r ≡ true → stable r ≡ history r) (snapshots : R → Option (List Snapshot)) (capacity : R → ℕ) (base : Contents) (o : Options) (readings : Option Readings) (s : State) (held : Holds history settled snapshots capacity base o apps readings s)
      (n : Notification) (next : FindsNext s p (Some n)) where
    follower-named : follower_app.name ≡ p.follower_name
    follower-named = place-name apps p.follower p.follower_name follower_app pair.placed.follower at_follower

    entry-there : slice_get (logs_of s.contents.histories p.leader_name) (n.id - 1) ≡ Some n.event
    entry-there = ap (slice_get (log (s.contents.histories p.leader_name))) (let e : n.id - 1 ≡ tracked_in (s.contents.histories p.follower_name) p.leader_name = omega (arith, next.1) in e) ∙ next.0

    -- the entry stands for its event
    pub entry-means : (e : DomainEvent) → event_of sys n.event ≡ Some e → IsEntry sys (logs_of s.contents.histories) p.leader_name n.id e
    entry-means e means = record { entry = n.event; there = entry-there; means = means }

    pub follower-told : history follower_app.recorder ≡ Some (history_in s p)
    follower-told = (held.each p.follower follower_app at_follower).told ∙ ap (λ k. Some (s.contents.histories k)) follower-named

    pub follower-kept : snapshots follower_app.recorder ≡ Some (snapshots_in s p)
    follower-kept = (held.each p.follower follower_app at_follower).told_snapshots ∙ ap (λ k. Some (s.contents.snapshots k)) follower-named

    pub processed-told : (result : Result Processed RunFault) (new : Option (List Recording)) (now : Option (List Snapshot)) (count : ℕ) (later : Option Readings)
        → Processes p.leader_name n.id (followed (rules_of sys) (options (capacity follower_app.recorder) follower_app.turns) follower_app.name (history_in s p) follower_app.used (logs_of s.contents.histories) p.leader_name n.id (first_reading s.readings)) (history_in s p) (snapshots_in s p) follower_app.used s.readings result new now count later
        → Processes p.leader_name (next_id s p) (follows_in (terms (rules_of sys) o) s p) (history_in s p) (snapshots_in s p) (s.used p.follower_name) s.readings result new now count later
    processed-told result new now count later so =
        let one = held.each p.follower follower_app at_follower in
        process_told sys o s p (capacity follower_app.recorder) follower_app.turns follower_app.used n.id follower_app.name result new now count later one.room one.turns (one.counted ∙ ap s.used follower-named) follower-named next.1 so

    -- it was recorded, and the follower is still to be tried; who is prompted then may want memory
    module _ {faults : R → ℕ} (b : Application R) (same : Stays capacity faults follower_app b) (all_settled : settled follower_app.recorder ≡ true → settled b.recorder ≡ true) (now : Option Readings) (first last : ℕ)
        (so : Processes p.leader_name n.id (followed (rules_of sys) (options (capacity follower_app.recorder) follower_app.turns) follower_app.name (history_in s p) follower_app.used (logs_of s.contents.histories) p.leader_name n.id (first_reading s.readings)) (history_in s p) (snapshots_in s p) follower_app.used s.readings (Ok (Recorded first last)) (history b.recorder) (snapshots b.recorder) b.used now)
        (prompted : List Name) (rest : List (Name × Name)) (u : Option (List ℕ)) where
      abbrev pub IsRecorded : Type 0
      IsRecorded = OneRecorded (terms (rules_of sys) o) s p prompted rest (Holds history settled snapshots capacity base o (slice_set apps p.follower b) now) u first last

      is_recorded : IsRecorded
      is_recorded =
          one_recorded (terms (rules_of sys) o) s p prompted rest (Holds history settled snapshots capacity base o (slice_set apps p.follower b) now) u n.event first last (history b.recorder) (snapshots b.recorder) b.used now next.0
          (processed-told (Ok (Recorded first last)) (history b.recorder) (snapshots b.recorder) b.used now so)
          (λ r ss follows added counted read. follower-recorded apps pair.apps.distinct p follower_app b pair.placed.follower at_follower same.name history stable settled whole snapshots capacity base o readings s held (terms (rules_of sys) o) n.event next.0 r ss follows now ss
          (all_settled (held.each p.follower follower_app at_follower).whole) same.room same.turns added counted read)

      pub recorded-came : (queue : List ℕ) → ArePrompted (names_in apps) queue prompted
          → CameTo (terms (rules_of sys) o) (trying s p prompted rest) (Holds history settled snapshots capacity base o (slice_set apps p.follower b) now) (names_in apps) (prompted_after p queue first last) u (λ after later. trying after p later rest)
      recorded-came queue are = (
        prompt (pairs_of sys.pipes) prompted p.follower_name is_recorded.recording.events,
        prompts (names_in apps) pair.apps.distinct (pairs_of sys.pipes) p pair.placed.follower pair.leads_on queue prompted are first last (length (log (history_in s p))) is_recorded.recording.events is_recorded.from is_recorded.to,
        is_recorded.came,
      )

      pub recorded-starved : Faulted (terms (rules_of sys) o) (trying s p prompted rest) fault.NoMemory (HoldContents history stable snapshots base (slice_set apps p.follower b)) u u
      recorded-starved =
          let later : List Name = prompt (pairs_of sys.pipes) prompted p.follower_name is_recorded.recording.events in
          came_faulted (terms (rules_of sys) o) (trying s p prompted rest) (Holds history settled snapshots capacity base o (slice_set apps p.follower b) now) u u (λ after. trying after p later rest) is_recorded.came fault.NoMemory (HoldContents history stable snapshots base (slice_set apps p.follower b)) u
          (cut_here (terms (rules_of sys) o) is_recorded.came.state later ((p.leader_name, p.follower_name) ∷ rest) (HoldContents history stable snapshots base (slice_set apps p.follower b)) u
          (held-contents history stable settled whole snapshots capacity base o (slice_set apps p.follower b) now is_recorded.came.state is_recorded.came.held))

    module _ (prompted : List Name) (rest : List (Name × Name)) (u : Option (List ℕ)) where
      abbrev kept : Contents → Type 0
      kept = HoldContents history stable snapshots base apps

      still_kept : kept s.contents
      still_kept = held-contents history stable settled whole snapshots capacity base o apps readings s held

      cut_still : Faulted (terms (rules_of sys) o) (trying s p prompted rest) fault.NoMemory kept u u
      cut_still = cut_here (terms (rules_of sys) o) s prompted ((p.leader_name, p.follower_name) ∷ rest) kept u still_kept

      -- the follower has no turn left
      pub no-turn : (f : RunFault) → ((follower_app.turns ≤ follower_app.used) × (f ≡ fault.Turns follower_app.name follower_app.turns)) ⊎ (f ≡ fault.NoMemory) → Faulted (terms (rules_of sys) o) (trying s p prompted rest) f kept u u
      no-turn f (inr is) = subst (λ x. Faulted (terms (rules_of sys) o) (trying s p prompted rest) x kept u u) (sym is) cut_still
      no-turn f (inl so) =
          let one = held.each p.follower follower_app at_follower in
          let over : o.turns ≤ s.used p.follower_name = omega (arith, so.0, one.turns, one.counted, ap s.used follower-named) in
          let named : f ≡ fault.Turns p.follower_name o.turns = so.1 ∙ (λ i. fault.Turns (follower-named i) (one.turns i)) in
          subst (λ x. Faulted (terms (rules_of sys) o) (trying s p prompted rest) x kept u u) (sym named) (turns_over (terms (rules_of sys) o) s p prompted rest u n.event kept next.0 over still_kept)

      -- its leader's entry has no meaning
      undecided : event_of sys n.event ≡ None → (rules_of sys).decide p.follower_name (history_in s p) (logs_of s.contents.histories) (notification p.leader_name (next_id s p)) (first_reading s.readings) ≡ unreadable p.leader_name (next_id s p)
      undecided unread =
          ap (decide_entry sys p.follower_name (history_in s p) p.leader_name (next_id s p) (first_reading s.readings)) (ap (λ k. slice_get (log (s.contents.histories p.leader_name)) (k - 1)) (sym next.1) ∙ entry-there)
          ∙ ap (decide_event sys p.follower_name (history_in s p) p.leader_name (next_id s p) (first_reading s.readings)) unread

      pub not-converted : follower_app.used < follower_app.turns → (f : RunFault) → Converts sys p.leader_name n (Err f) → Faulted (terms (rules_of sys) o) (trying s p prompted rest) f kept u u
      not-converted free (fault.Unreadable name id) so =
          let one = held.each p.follower follower_app at_follower in
          let left : s.used p.follower_name < o.turns = omega (arith, free, one.turns, one.counted, ap s.used follower-named) in
          let named : fault.Unreadable name id ≡ fault.Unreadable p.leader_name (next_id s p) = λ i. fault.Unreadable (so.1 i) ((so.2 ∙ next.1) i) in
          subst (λ x. Faulted (terms (rules_of sys) o) (trying s p prompted rest) x kept u u) (sym named) (entry_unread (terms (rules_of sys) o) s p prompted rest u n.event kept next.0 left (undecided so.0) still_kept)
      not-converted free fault.NoMemory so = cut_still
      not-converted free fault.Recorder so = absurd so
      not-converted free (fault.Refused app leader id recordings code rule) so = absurd so
      not-converted free (fault.Turns app turns) so = absurd so
      not-converted free (fault.Full app last capacity) so = absurd so
