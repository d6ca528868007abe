-- The turns of a drain, pair by pair.
use Rattle.std.proofs.Common.{◌≡◌, ◌<◌, ◌≤◌, suc, nat_eq, nat_le, map, drop, get_or, drop-cons, inl, inr, ◌+◌, ℕ, Bool, true, false, not, ◌&&◌, ◌||◌, List, [], ◌∷◌, ◌++◌, slice_get, if◌then◌else◌, Option, Some, None, Result, Ok, Err, length, refl, sym, ap, ◌∙◌, subst, length-append, arith}
use Rattle.std.specs.List.{list_any}
use Rattle.std.specs.Str.{bytes_eq}
use Rattle.std.proofs.lemmas.Bool.Decides.{nat_tests, Decides-eqb}
use Rattle.std.specs.Io.KnownBytes.{Appends}
use Rattle.std.specs.Option.{option_to_list}
use Rattle.es_model.specs.declared.event.Recording.{Recording}
use Rattle.es_model.specs.declared.event.StoredEvent.{StoredEvent}
use Rattle.es_model.specs.declared.event.Notification.{Notification}
use Rattle.es_model.specs.declared.event.Cause.TheVariants.{Notification as notification}
use Rattle.es_model.specs.declared.snapshot.Snapshot.{Snapshot}
use Rattle.es_model.specs.History.{log}
use Rattle.es_model.specs.Tracking.{tracked_in}
use Rattle.es_model.specs.Values.{Name}
use Rattle.es_io.specs.Readings.{Readings, first_reading, later_readings}
use Rattle.es_decl.specs.Pairs.{leaders_in}
use Rattle.es_recorder.specs.Held.{put}
use Rattle.es_recorder.specs.Selections.{select_notifications}
use Rattle.es_recorder.proofs.SelectionLemmas.{select-next, select-none}
use Rattle.es_lines.specs.declared.ends.End.{End}
use Rattle.es_lines.specs.declared.ends.End.TheVariants.{Refused, Turns, Unreadable, Full}
use Rattle.es_process.specs.declared.application.Processed.TheVariants.{Recorded, Skipped, Gap}
use Rattle.es_process.specs.declared.pairs.Pair.{Pair}
use Rattle.es_process.specs.declared.faults.RunFault.{RunFault}
use Rattle.es_process.specs.declared.faults.RunFault.TheVariants as fault
use Rattle.es_process.specs.Answer.{Followed, adds, stops, followed, followed_of, put_each}
use Rattle.es_process.specs.Contents.{Contents, added}
use Rattle.es_process.specs.Decision.{logs_of, unreadable}
use Rattle.es_process.specs.inner.Following.{trying, CameTo, FollowsOne, FollowsAll, FollowsLed, FollowsEach, with_follower, prompted_after}
use Rattle.es_process.specs.Drains.{ArePrompted, names_of_pair}
use Rattle.es_process.specs.Leaves.{Tells, MayTake, Processes}
use Rattle.es_process.specs.SingleThread.{finished, goes_on, turn_at, next_turn, followed_turn, prompt, led_by, is_among, only_adds, does_nothing, records, snaps_each, steps_of}
use Rattle.es_process.specs.Standing.{State, Setting, standing, Came, Ended, CutShort, Faulted, IsNextAfter, MayFailToRead, AreDistinct}
use Rattle.es_process.specs.Terms.{Terms}
use Rattle.es_process.proofs.AmongLemmas.{same-name, is-same}
use Rattle.es_process.proofs.SingleThreadLemmas.{Goes-one, run-finished, left_by-added, written_by-snaps}
use Rattle.es_process.proofs.StandingLemmas.{appends_nothing, front_none, adds-parts, written_by-added, Cut-turn, came_then, came_faulted, cut_here, stays}

-- the entry that is next for the follower
abbrev pub next_entry : State → Pair → Option StoredEvent
next_entry s p = slice_get (log (s.contents.histories p.leader_name)) (tracked_in (s.contents.histories p.follower_name) p.leader_name)

abbrev pub next_id : State → Pair → ℕ
next_id s p = tracked_in (s.contents.histories p.follower_name) p.leader_name + 1

-- what the follower keeps
abbrev pub history_in : State → Pair → List Recording
history_in s p = s.contents.histories p.follower_name

abbrev pub snapshots_in : State → Pair → List Snapshot
snapshots_in s p = s.contents.snapshots p.follower_name

-- what the follower makes of it
abbrev pub follows_in : Terms → State → Pair → Followed
follows_in t s p = followed t.rules t.options p.follower_name (history_in s p) (s.used p.follower_name) (logs_of s.contents.histories) p.leader_name (next_id s p) (first_reading s.readings)

-- the follower has recorded it, and has put the snapshots that are due
abbrev pub recorded_in : State → Pair → Recording → List Snapshot → State
recorded_in s p r ss = record {
  contents = added s.contents p.follower_name r ss;
  readings = later_readings s.readings;
  used = put s.used p.follower_name (s.used p.follower_name + 1);
}

module _ (t : Terms) (s : State) (p : Pair) (prompted : List Name) (rest : List (Name × Name)) where
  -- what the follower makes of it, where it has a turn left
  abbrev decided : Followed
  decided =
      followed_of t.rules t.options.capacity p.follower_name (history_in s p) p.leader_name (next_id s p) (first_reading s.readings)
      (t.rules.decide p.follower_name (history_in s p) (logs_of s.contents.histories) (notification p.leader_name (next_id s p)) (first_reading s.readings))

  turn_next : (σ : Setting) (e : StoredEvent) → next_entry s p ≡ Some e
      → turn_at t.rules t.options σ.openings (trying s p prompted rest σ) ≡ followed_turn t.rules (trying s p prompted rest σ) p.follower_name (follows_in t s p)
  turn_next σ e there = ap (next_turn t.rules t.options (trying s p prompted rest σ) p.leader_name p.follower_name rest) there

  turn_none : (σ : Setting) → next_entry s p ≡ None → turn_at t.rules t.options σ.openings (trying s p prompted rest σ) ≡ goes_on does_nothing (standing s prompted rest σ)
  turn_none σ none = ap (next_turn t.rules t.options (trying s p prompted rest σ) p.leader_name p.follower_name rest) none

  -- who is prompted after the follower has recorded it
  abbrev later : Recording → List Name
  later r = prompt t.rules.pairs prompted p.follower_name r.events

  turn_adds : (σ : Setting) (e : StoredEvent) (r : Recording) (ss : List Snapshot) → next_entry s p ≡ Some e → follows_in t s p ≡ adds r ss
      → turn_at t.rules t.options σ.openings (trying s p prompted rest σ) ≡ goes_on (only_adds p.follower_name r ss) (trying (recorded_in s p r ss) p (later r) rest σ)
  turn_adds σ e r ss there is = turn_next σ e there ∙ ap (followed_turn t.rules (trying s p prompted rest σ) p.follower_name) is

  turn_stops : (σ : Setting) (e : StoredEvent) (end : End) → next_entry s p ≡ Some e → follows_in t s p ≡ stops end → turn_at t.rules t.options σ.openings (trying s p prompted rest σ) ≡ finished end
  turn_stops σ e end there is = turn_next σ e there ∙ ap (followed_turn t.rules (trying s p prompted rest σ) p.follower_name) is

  pub none_left : (H : State → Type 0) (u : Option (List ℕ)) → next_entry s p ≡ None → H s → Came t (trying s p prompted rest) H u u (λ next. standing next prompted rest)
  none_left H u none held = record {
    state = s;
    steps = [];
    held = held;
    goes = λ σ. Goes-one t.rules t.options σ.openings (trying s p prompted rest σ) (standing s prompted rest σ) does_nothing (turn_none σ none);
    written = appends_nothing u;
  }

  one_added : (H : State → Type 0) (u : Option (List ℕ)) (e : StoredEvent) (r : Recording) (ss : List Snapshot) → next_entry s p ≡ Some e → follows_in t s p ≡ adds r ss → H (recorded_in s p r ss)
      → Came t (trying s p prompted rest) H u u (λ next. trying next p (later r) rest)
  one_added H u e r ss there is held = record {
    state = recorded_in s p r ss;
    steps = steps_of (only_adds p.follower_name r ss);
    held = held;
    goes = λ σ. Goes-one t.rules t.options σ.openings (trying s p prompted rest σ) (trying (recorded_in s p r ss) p (later r) rest σ) (only_adds p.follower_name r ss) (turn_adds σ e r ss there is);
    written = subst (Appends u u) (sym (written_by-added p.follower_name r ss [])) (appends_nothing u);
  }

  one_stops : (u : Option (List ℕ)) (e : StoredEvent) (end : End) (L : Contents → Type 0) → next_entry s p ≡ Some e → follows_in t s p ≡ stops end → L s.contents → Ended t (trying s p prompted rest) L u u end
  one_stops u e end L there is held = record {
    steps = [];
    contents = s.contents;
    held = held;
    run = λ σ. run-finished t.rules t.options σ.openings (trying s p prompted rest σ) end (turn_stops σ e end there is);
    made = λ σ. refl;
    written = appends_nothing u;
  }

  -- the recording is added, and of its snapshots the first
  cut_added : (u : Option (List ℕ)) (e : StoredEvent) (r : Recording) (ss first others : List Snapshot) (L : Contents → Type 0) → next_entry s p ≡ Some e → follows_in t s p ≡ adds r ss → ss ≡ first ++ others → L (added s.contents p.follower_name r first)
      → CutShort t (trying s p prompted rest) L u u []
  cut_added u e r ss first others L there is parts held = record {
    done = records p.follower_name r ∷ snaps_each p.follower_name first;
    contents = added s.contents p.follower_name r first;
    held = held;
    cut = λ σ. Cut-turn t σ.openings (trying s p prompted rest σ) (trying (recorded_in s p r ss) p (later r) rest σ) (only_adds p.follower_name r ss) (records p.follower_name r ∷ snaps_each p.follower_name first) (snaps_each p.follower_name others ++ []) []
        (turn_adds σ e r ss there is) (adds-parts p.follower_name r ss first others [] parts) (λ more. front_none ((snaps_each p.follower_name others ++ []) ++ more));
    made = λ σ. left_by-added p.follower_name r first s.contents;
    written = subst (λ (x : List ℕ). Appends u u (x ++ [])) (sym (written_by-snaps p.follower_name first)) (appends_nothing u);
  }

  -- a fault of processing the next notification; what the applications hold follows from what the follower has now
  module _ (u : Option (List ℕ)) (e : StoredEvent) (L : Contents → Type 0) (new : Option (List Recording)) (now : Option (List Snapshot)) (there : next_entry s p ≡ Some e) (still : Tells (history_in s p) (snapshots_in s p) new now → L s.contents)
      (more : (r : Recording) (ss all : List Snapshot) → follows_in t s p ≡ adds r all → Tells (history_in s p ++ r ∷ []) (put_each (snapshots_in s p) ss) new now → L (added s.contents p.follower_name r ss)) where
    cut_taken : (f : Followed) → follows_in t s p ≡ f → MayTake f (history_in s p) (snapshots_in s p) new now → CutShort t (trying s p prompted rest) L u u []
    cut_taken (adds r ss) is (inl same) = cut_here t s prompted ((p.leader_name, p.follower_name) ∷ rest) L u (still same)
    cut_taken (adds r ss) is (inr one) = cut_added u e r ss one.front one.rest L there is one.parts (more r one.front ss is one.tells)
    cut_taken (stops end) is same = cut_here t s prompted ((p.leader_name, p.follower_name) ∷ rest) L u (still same)

    pub one_faulted : (f : RunFault) (count : ℕ) (readings : Option Readings)
        → Processes p.leader_name (next_id s p) (follows_in t s p) (history_in s p) (snapshots_in s p) (s.used p.follower_name) s.readings (Err f) new now count readings → Faulted t (trying s p prompted rest) f L u u
    one_faulted (fault.Refused app leader id recordings code rule) count later so = one_stops u e (Refused app leader id recordings code rule) L there so.1 (still so.2)
    one_faulted (fault.Turns app turns) count later so = one_stops u e (Turns app turns) L there so.1 (still so.2)
    one_faulted (fault.Unreadable app id) count later so = one_stops u e (Unreadable app id) L there so.1 (still so.2)
    one_faulted (fault.Full app last capacity) count later so = one_stops u e (Full app last capacity) L there so.1 (still so.2)
    one_faulted fault.Recorder count later (inl same) = cut_here t s prompted ((p.leader_name, p.follower_name) ∷ rest) L u (still same)
    one_faulted fault.Recorder count later (inr so) = cut_taken (follows_in t s p) refl so.1
    one_faulted fault.NoMemory count later (inl same) = cut_here t s prompted ((p.leader_name, p.follower_name) ∷ rest) L u (still same)
    one_faulted fault.NoMemory count later (inr so) = cut_taken (follows_in t s p) refl so.1

  -- the next notification was recorded: the run came to where the pair is tried again, and the follower is prompted where the recording has an event
  pub record OneRecorded (H : State → Type 0) (u : Option (List ℕ)) (first last : ℕ) : Type 0 where
    pub recording : Recording
    pub from : first ≡ length (log (history_in s p)) + 1
    pub to : last ≡ length (log (history_in s p)) + length recording.events
    pub came : Came t (trying s p prompted rest) H u u (λ next. trying next p (later recording) rest)

  pub one_recorded : (H : State → Type 0) (u : Option (List ℕ)) (e : StoredEvent) (first last : ℕ) (new : Option (List Recording)) (now : Option (List Snapshot)) (count : ℕ) (readings : Option Readings) → next_entry s p ≡ Some e
      → Processes p.leader_name (next_id s p) (follows_in t s p) (history_in s p) (snapshots_in s p) (s.used p.follower_name) s.readings (Ok (Recorded first last)) new now count readings
      → ((r : Recording) (ss : List Snapshot) → follows_in t s p ≡ adds r ss → Tells (history_in s p ++ r ∷ []) (put_each (snapshots_in s p) ss) new now → count ≡ s.used p.follower_name + 1 → readings ≡ Some (later_readings s.readings) → H (recorded_in s p r ss))
      → OneRecorded H u first last
  one_recorded H u e first last new now count readings there so held =
      let is = so.1.is in record {
        recording = is.recording;
        from = is.from;
        to = is.to;
        came = one_added H u e is.recording is.snapshots there is.follows (held is.recording is.snapshots is.follows is.added so.1.counted so.1.read);
      }

  -- the follower has no turn left
  pub turns_over : (u : Option (List ℕ)) (e : StoredEvent) (L : Contents → Type 0) → next_entry s p ≡ Some e → t.options.turns ≤ s.used p.follower_name → L s.contents → Ended t (trying s p prompted rest) L u u (Turns p.follower_name t.options.turns)
  turns_over u e L there over held =
      one_stops u e (Turns p.follower_name t.options.turns) L there
      (ap (λ b. if b then stops (Turns p.follower_name t.options.turns) else decided) (let is : nat_le t.options.turns (s.used p.follower_name) ≡ true = grind (arith, nat_tests) in is)) held

  -- it has one, and the entry has no meaning
  pub entry_unread : (u : Option (List ℕ)) (e : StoredEvent) (L : Contents → Type 0) → next_entry s p ≡ Some e → s.used p.follower_name < t.options.turns
      → t.rules.decide p.follower_name (history_in s p) (logs_of s.contents.histories) (notification p.leader_name (next_id s p)) (first_reading s.readings) ≡ unreadable p.leader_name (next_id s p) → L s.contents
      → Ended t (trying s p prompted rest) L u u (Unreadable p.leader_name (next_id s p))
  entry_unread u e L there free unread held =
      one_stops u e (Unreadable p.leader_name (next_id s p)) L there
      (ap (λ b. if b then stops (Turns p.follower_name t.options.turns) else decided) (let is : nat_le t.options.turns (s.used p.follower_name) ≡ false = grind (arith, nat_tests) in is)
      ∙ ap (followed_of t.rules t.options.capacity p.follower_name (history_in s p) p.leader_name (next_id s p) (first_reading s.readings)) unread) held

-- a notification that is next was not skipped, and there is no gap before it
pub not_skipped : (t : Terms) (s : State) (p : Pair) (tracked : ℕ) (new : Option (List Recording)) (now : Option (List Snapshot)) (count : ℕ) (later : Option Readings)
    → Processes p.leader_name (next_id s p) (follows_in t s p) (history_in s p) (snapshots_in s p) (s.used p.follower_name) s.readings (Ok (Skipped tracked)) new now count later → ⊥
not_skipped t s p tracked new now count later so = omega (arith, so.0, so.1)

pub not_gap : (t : Terms) (s : State) (p : Pair) (tracked : ℕ) (new : Option (List Recording)) (now : Option (List Snapshot)) (count : ℕ) (later : Option Readings)
    → Processes p.leader_name (next_id s p) (follows_in t s p) (history_in s p) (snapshots_in s p) (s.used p.follower_name) s.readings (Ok (Gap tracked)) new now count later → ⊥
not_gap t s p tracked new now count later so = omega (arith, so.0, so.1)

-- the one that is popped of the selected notifications
is_only : (left : List Notification) (x n : Notification) → left ++ x ∷ [] ≡ n ∷ [] → x ≡ n
is_only [] x n is = let same : x ≡ n = cc is in same
is_only (y ∷ left) x n is = absurd (omega (arith, ap length is, length-append left (x ∷ [])))

-- what is popped of the selected notifications is the next one
pub finds_next : (entries : List StoredEvent) (tracked count : ℕ) (items left : List Notification) (o : Option Notification) → items ≡ select_notifications entries (tracked + 1) 1 → items ≡ left ++ option_to_list o
    → count ≡ length items → (o ≡ None → count ≡ 0) → IsNextAfter entries tracked o
finds_next entries tracked count items left o from popped counted empty = by_entry (slice_get entries tracked) refl
  where
    none : slice_get entries tracked ≡ None → (q : Option Notification) → items ≡ left ++ option_to_list q → IsNextAfter entries tracked q
    none nothing None parts = nothing
    none nothing (Some x) parts = absurd (omega (arith, ap length (sym parts ∙ from ∙ select-none entries tracked nothing), length-append left (x ∷ [])))

    some : (e : StoredEvent) → slice_get entries tracked ≡ Some e → (q : Option Notification) → items ≡ left ++ option_to_list q → (q ≡ None → count ≡ 0) → IsNextAfter entries tracked q
    some e there None parts never = absurd (omega (arith, never refl, counted, ap length (from ∙ select-next entries tracked e there)))
    some e there (Some x) parts never =
        let same = is_only left x _ (sym parts ∙ from ∙ select-next entries tracked e there) in
        (there ∙ ap (λ (n : Notification). Some n.event) (sym same), ap (λ (n : Notification). n.id) same)

    by_entry : (q : Option StoredEvent) → slice_get entries tracked ≡ q → IsNextAfter entries tracked o
    by_entry None nothing = none nothing o popped
    by_entry (Some e) there = some e there o popped empty

-- a reading failed
pub reading_failed : (t : Terms) (s : State) (prompted : List Name) (pending : List (Name × Name)) (f : RunFault) (L : Contents → Type 0) (u : Option (List ℕ)) → MayFailToRead f → L s.contents → Faulted t (standing s prompted pending) f L u u
reading_failed t s prompted pending f L u (inl is) held = subst (λ x. Faulted t (standing s prompted pending) x L u u) (sym is) (cut_here t s prompted pending L u held)
reading_failed t s prompted pending f L u (inr is) held = subst (λ x. Faulted t (standing s prompted pending) x L u u) (sym is) (cut_here t s prompted pending L u held)

-- the names at some places, with one more
pub map_push : {A B : Type 0} (f : A → B) (xs : List A) (y : A) → map f (xs ++ y ∷ []) ≡ map f xs ++ f y ∷ []
map_push f [] y = refl
map_push f (x ∷ xs) y = ap (λ ys. f x ∷ ys) (map_push f xs y)

module _ (names : List Name) (distinct : AreDistinct names) (f : ℕ) (name : Name) (placed : slice_get names f ≡ Some name) where
  -- a place is this one where its name is this
  same_place : (q : ℕ) (n : Name) → slice_get names q ≡ Some n → nat_eq q f ≡ bytes_eq n name
  same_place q n at = by (nat_eq q f) (bytes_eq n name) refl refl
    where
      by : (a b : Bool) → nat_eq q f ≡ a → bytes_eq n name ≡ b → a ≡ b
      by true true x y = refl
      by false false x y = refl
      by true false x y =
          let here : q ≡ f = (Decides-eqb q f).0 x in
          let named : Some n ≡ Some name = sym at ∙ ap (slice_get names) here ∙ placed in
          let is : n ≡ name = cc named in
          let clash : false ≡ true = sym y ∙ is-same n name is in cc clash
      by false true x y =
          let here : q ≡ f = distinct q f name (at ∙ ap Some (same-name n name y)) placed in
          let clash : false ≡ true = sym x ∙ (Decides-eqb q f).1 here in cc clash

  placed_among : (queue : List ℕ) (prompted : List Name) → ArePrompted names queue prompted → list_any (λ q. nat_eq q f) queue ≡ is_among name prompted
  placed_among [] [] are = refl
  placed_among [] (n ∷ prompted) are = absurd (cc are)
  placed_among (q ∷ queue) [] are = absurd (cc are)
  placed_among (q ∷ queue) (n ∷ prompted) are =
      let here : slice_get names q ≡ Some n = cc are in
      let behind : map (slice_get names) queue ≡ map Some prompted = cc are in
      λ i. same_place q n here i || placed_among queue prompted behind i

  more_prompted : (a b : Bool) (queue : List ℕ) (prompted : List Name) → a ≡ b → ArePrompted names queue prompted → ArePrompted names (if a then queue ++ f ∷ [] else queue) (if b then prompted ++ name ∷ [] else prompted)
  more_prompted true true queue prompted same are = map_push (slice_get names) queue f ∙ (λ i. are i ++ placed i ∷ []) ∙ sym (map_push Some prompted name)
  more_prompted false false queue prompted same are = are
  more_prompted true false queue prompted same are = absurd (cc same)
  more_prompted false true queue prompted same are = absurd (cc same)

-- after a recording with these events, those at the places are prompted that the run prompts
pub prompts : (names : List Name) → AreDistinct names → (pairs : List (Name × Name)) (p : Pair) → slice_get names p.follower ≡ Some p.follower_name → p.leads_on ≡ is_among p.follower_name (leaders_in pairs) → (queue : List ℕ) (prompted : List Name) → ArePrompted names queue prompted
    → (first last n : ℕ) (es : List StoredEvent) → first ≡ n + 1 → last ≡ n + length es → ArePrompted names (prompted_after p queue first last) (prompt pairs prompted p.follower_name es)
prompts names distinct pairs p placed leads queue prompted are first last n [] from to =
    subst (λ b. ArePrompted names (if b then with_follower p queue else queue) prompted) (let past : false ≡ nat_le first last = grind (arith, nat_tests, from, to) in past) are
prompts names distinct pairs p placed leads queue prompted are first last n (e ∷ es) from to =
    subst (λ b. ArePrompted names (if b then with_follower p queue else queue) (prompt pairs prompted p.follower_name (e ∷ es))) (let within : true ≡ nat_le first last = grind (arith, nat_tests, from, to) in within)
    (more_prompted names distinct p.follower p.follower_name placed (p.leads_on && not (list_any (λ q. nat_eq q p.follower) queue)) (is_among p.follower_name (leaders_in pairs) && not (is_among p.follower_name prompted)) queue prompted
    (λ i. leads i && not (placed_among names distinct p.follower p.follower_name placed queue prompted are i)) are)

-- one more is prompted at most
pub one-longer : (p : Pair) (queue : List ℕ) (first last : ℕ) → length (prompted_after p queue first last) ≤ length queue + 1
one-longer p queue first last = by (nat_le first last) (p.leads_on && not (list_any (λ q. nat_eq q p.follower) queue))
  where
    by : (a b : Bool) → length (if a then (if b then queue ++ p.follower ∷ [] else queue) else queue) ≤ length queue + 1
    by true true = omega (arith, length-append queue (p.follower ∷ []))
    by true false = omega arith
    by false b = omega arith

-- what follows one, after what was followed before
module _ (t : Terms) (s : State) (p : Pair) (H : State → Type 0) (L : Contents → Type 0) (names prompted : List Name) (queue : List ℕ) (rest : List (Name × Name)) (u : Option (List ℕ))
    (x : CameTo t (trying s p prompted rest) H names queue u (λ next later. trying next p later rest)) where
  pub follow_more : (K : State → Type 0) (now : List ℕ) (found : Bool) → FollowsOne t x.2.state p K L names x.0 now rest u (Ok found) → FollowsOne t s p K L names prompted now rest u (Ok found)
  follow_more K now true y = (y.0, y.1, came_then t (trying s p prompted rest) H u u (λ next. trying next p x.0 rest) x.2 K u (λ next. trying next p y.0 rest) y.2)
  follow_more K now false y = (y.0, y.1, came_then t (trying s p prompted rest) H u u (λ next. trying next p x.0 rest) x.2 K u (λ next. standing next y.0 rest) y.2)

  pub follow_faulted : (f : RunFault) → Faulted t (trying x.2.state p x.0 rest) f L u u → Faulted t (trying s p prompted rest) f L u u
  follow_faulted f y = came_faulted t (trying s p prompted rest) H u u (λ next. trying next p x.0 rest) x.2 f L u y

-- a pair's leader is that of a name where it stands at its place
module _ (names : List Name) (distinct : AreDistinct names) (i j : ℕ) (n name : Name) (at : slice_get names i ≡ Some n) (there : slice_get names j ≡ Some name) where
  pub place_is : i ≡ j → bytes_eq n name ≡ true
  place_is same = let named : Some n ≡ Some name = sym at ∙ ap (slice_get names) same ∙ there in is-same n name (let is : n ≡ name = cc named in is)

  pub place_other : (i ≡ j → ⊥) → bytes_eq n name ≡ false
  place_other differ = by (bytes_eq n name) refl
    where
      by : (b : Bool) → bytes_eq n name ≡ b → b ≡ false
      by false is = refl
      by true is = absurd (differ (distinct i j n at (there ∙ ap Some (sym (same-name n name is)))))

-- a pair is of another leader, or of this one
led_first : (p : Pair) (rest : List (Name × Name)) (leader : Name) (b : Bool) → bytes_eq p.leader_name leader ≡ b → (if b then names_of_pair p ∷ led_by rest leader else led_by rest leader) ≡ led_by (names_of_pair p ∷ rest) leader
led_first p rest leader b is = λ i. if sym is i then names_of_pair p ∷ led_by rest leader else led_by rest leader

module _ (t : Terms) (s : State) (p : Pair) (leader : Name) (H : State → Type 0) (L : Contents → Type 0) (names prompted : List Name) (queue : List ℕ) (rest : List (Name × Name)) (u : Option (List ℕ)) where
  pub led_other : (y : Unit {0}) → bytes_eq p.leader_name leader ≡ false → H s → ArePrompted names queue prompted → FollowsLed t s p leader H L names prompted queue rest u (Ok y)
  led_other y other held are =
      subst (λ led. CameTo t (standing s prompted led) H names queue u (λ next later. standing next later (led_by rest leader))) (led_first p rest leader false other)
      (prompted, are, stays t s prompted (led_by rest leader) H u held)

  pub led_it : (result : Result (Unit {0}) RunFault) → bytes_eq p.leader_name leader ≡ true → FollowsAll t s p H L names prompted queue (led_by rest leader) u result → FollowsLed t s p leader H L names prompted queue rest u result
  led_it (Ok y) is so = subst (λ led. CameTo t (standing s prompted led) H names queue u (λ next later. standing next later (led_by rest leader))) (led_first p rest leader true is) so
  led_it (Err f) is so = subst (λ led. Faulted t (standing s prompted led) f L u u) (led_first p rest leader true is) so

-- the pairs of a leader from one on are still to be tried
abbrev pub CameToEach : Terms → State → List Pair → List Pair → Name → (State → Type 0) → List Name → List Name → List ℕ → Option (List ℕ) → Type 0
CameToEach t s ps left leader holds names prompted queue u = CameTo t (standing s prompted (led_by (map names_of_pair ps) leader)) holds names queue u (λ next later. standing next later (led_by (map names_of_pair left) leader))

module _ (t : Terms) (s : State) (ps : List Pair) (p : Pair) (left : List Pair) (leader : Name) (H : State → Type 0) (names prompted : List Name) (queue : List ℕ) (u : Option (List ℕ)) (x : CameToEach t s ps (p ∷ left) leader H names prompted queue u) where
  pub each_followed : (K : State → Type 0) (L : Contents → Type 0) (now : List ℕ) (y : Unit {0}) → FollowsLed t x.2.state p leader K L names x.0 now (map names_of_pair left) u (Ok y) → CameToEach t s ps left leader K names prompted now u
  each_followed K L now y z = (
    z.0,
    z.1,
    came_then t (standing s prompted (led_by (map names_of_pair ps) leader)) H u u (λ next. standing next x.0 (led_by (names_of_pair p ∷ map names_of_pair left) leader)) x.2 K u (λ next. standing next z.0 (led_by (map names_of_pair left) leader)) z.2,
  )

  pub each_faulted : (K : State → Type 0) (L : Contents → Type 0) (now : List ℕ) (f : RunFault) → FollowsLed t x.2.state p leader K L names x.0 now (map names_of_pair left) u (Err f) → Faulted t (standing s prompted (led_by (map names_of_pair ps) leader)) f L u u
  each_faulted K L now f z = came_faulted t (standing s prompted (led_by (map names_of_pair ps) leader)) H u u (λ next. standing next x.0 (led_by (names_of_pair p ∷ map names_of_pair left) leader)) x.2 f L u z

-- the same, where the next pair is the first of those from one on
pub drop-next : {A : Type 0} (xs : List A) (i : ℕ) (x : A) → i < length xs → x ≡ get_or xs i x → drop i xs ≡ x ∷ drop (i + 1) xs
drop-next xs i x within is = drop-cons xs i x within ∙ (λ k. sym is k ∷ drop (let e : suc i ≡ i + 1 = omega arith in e k) xs)

-- the first prompted leader is taken
pub take_leader : (t : Terms) (s : State) (leader : Name) (rest : List Name) (led : List (Name × Name)) → led_by t.rules.pairs leader ≡ led → (H : State → Type 0) (u : Option (List ℕ)) → H s → Came t (standing s (leader ∷ rest) []) H u u (λ next. standing next rest led)
take_leader t s leader rest led is H u held = record {
  state = s;
  steps = [];
  held = held;
  goes = λ σ. Goes-one t.rules t.options σ.openings (standing s (leader ∷ rest) [] σ) (standing s rest led σ) does_nothing (λ i. goes_on does_nothing (standing s rest (is i) σ));
  written = appends_nothing u;
}

-- the leaders at some places are still to be drained
abbrev pub CameToQueue : Terms → State → (State → Type 0) → List Name → List Name → List ℕ → Option (List ℕ) → Type 0
CameToQueue t s holds names prompted queue u = CameTo t (standing s prompted []) holds names queue u (λ next later. standing next later [])

-- the first of some places is that of a name, and the others are those of the names after it
pub record FirstPrompted (names : List Name) (place : ℕ) (queue : List ℕ) (prompted : List Name) : Type 0 where
  pub name : Name
  pub later : List Name
  pub at : slice_get names place ≡ Some name
  pub others : ArePrompted names queue later
  pub parts : prompted ≡ name ∷ later

pub first_prompted : (names : List Name) (place : ℕ) (queue : List ℕ) (prompted : List Name) → ArePrompted names (place ∷ queue) prompted → FirstPrompted names place queue prompted
first_prompted names place queue [] are = absurd (cc are)
first_prompted names place queue (name ∷ later) are = record {
  name = name;
  later = later;
  at = let here : slice_get names place ≡ Some name = cc are in here;
  others = let behind : map (slice_get names) queue ≡ map Some later = cc are in behind;
  parts = refl;
}

module _ (t : Terms) (s : State) (ps : List Pair) (all : map names_of_pair ps ≡ t.rules.pairs) (H : State → Type 0) (names prompted : List Name) (place : ℕ) (queue : List ℕ) (u : Option (List ℕ)) (x : CameToQueue t s H names prompted (place ∷ queue) u) where
  pub taken : FirstPrompted names place queue x.0
  taken = first_prompted names place queue x.0 x.1

  pub from_leader : Came t (standing s prompted []) H u u (λ next. standing next taken.later (led_by (map names_of_pair ps) taken.name))
  from_leader =
      let y : Came t (standing s prompted []) H u u (λ next. standing next (taken.name ∷ taken.later) []) = subst (λ later. Came t (standing s prompted []) H u u (λ next. standing next later [])) taken.parts x.2 in
      came_then t (standing s prompted []) H u u (λ next. standing next (taken.name ∷ taken.later) []) y H u (λ next. standing next taken.later (led_by (map names_of_pair ps) taken.name))
      (take_leader t y.state taken.name taken.later (led_by (map names_of_pair ps) taken.name) (ap (λ qs. led_by qs taken.name) (sym all)) H u y.held)

  pub drain_then : (K : State → Type 0) (L : Contents → Type 0) (now : List ℕ) (y : Unit {0}) → FollowsEach t from_leader.state ps taken.name K L names taken.later now u (Ok y) → CameToQueue t s K names prompted now u
  drain_then K L now y z = (z.0, z.1, came_then t (standing s prompted []) H u u (λ next. standing next taken.later (led_by (map names_of_pair ps) taken.name)) from_leader K u (λ next. standing next z.0 []) z.2)

  pub drain_faulted : (K : State → Type 0) (L : Contents → Type 0) (now : List ℕ) (f : RunFault) → FollowsEach t from_leader.state ps taken.name K L names taken.later now u (Err f) → Faulted t (standing s prompted []) f L u u
  drain_faulted K L now f z = came_faulted t (standing s prompted []) H u u (λ next. standing next taken.later (led_by (map names_of_pair ps) taken.name)) from_leader f L u z

-- nobody is prompted any more
pub drained_all : (t : Terms) (s : State) (H : State → Type 0) (names prompted : List Name) (queue : List ℕ) (u : Option (List ℕ)) → queue ≡ [] → CameToQueue t s H names prompted queue u → Came t (standing s prompted []) H u u (λ next. standing next [] [])
drained_all t s H names prompted queue u none x = by x.0 (sym x.1 ∙ ap (map (slice_get names)) none) x.2
  where
    by : (later : List Name) → map Some later ≡ [] → Came t (standing s prompted []) H u u (λ next. standing next later []) → Came t (standing s prompted []) H u u (λ next. standing next [] [])
    by [] is so = so
    by (n ∷ later) is so = absurd (cc is)
