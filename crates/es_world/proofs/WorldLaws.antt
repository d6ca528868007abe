-- The world law: every list of steps leaves histories that are consistent, and nobody has followed what is in doubt.
use Rattle.std.proofs.Common.{◌≡◌, ◌≤◌, ◌⊎◌, inl, inr, ℤ, zero, suc, ◌+◌, ◌-◌, Bool, true, false, not, ◌&&◌, List, [], ◌∷◌, ◌++◌, length, take, drop, slice_get, Contains, if◌then◌else◌, Some, None, refl, sym, ap, ◌∙◌, subst, append-nil, length-append, take-append-drop, take_at, take_all, le_refl, arith}
use Rattle.std.specs.Str.{bytes_eq}
use Rattle.std.proofs.lemmas.Bool.{le-leb}
use Rattle.std.proofs.lemmas.Option.{slice_get_past}
use Rattle.es_model.specs.declared.event.StoredEvent.{StoredEvent}
use Rattle.es_model.specs.declared.event.Recording.{Recording}
use Rattle.es_model.specs.declared.event.Cause.{Cause}
use Rattle.es_model.specs.declared.event.Cause.TheVariants.{Command, Notification}
use Rattle.es_model.specs.History.{Histories, log}
use Rattle.es_model.specs.Tracking.{tracked_in, id_from}
use Rattle.es_model.specs.Values.{Name}
use Rattle.es_recorder.specs.Held.{put}
use Rattle.es_recorder.specs.Stable.{IsPrefix}
use Rattle.es_lines.specs.CommandText.{command_text}
use Rattle.es_lines.specs.declared.request.Request.TheVariants.{Do}
use Rattle.es_process.specs.Consistent.{may_take, next_front, rounds, lengths_of, IsConsistent}
use Rattle.es_process.specs.Decision.{Rules, Logs, logs_of}
use Rattle.es_process.specs.Follows.{MayCome, ComesNext, Follows}
use Rattle.es_process.specs.Reached.{ahead}
use Rattle.es_process.specs.SingleThread.{is_among}
use Rattle.es_process.specs.inner.Lawful.{IsLawful}
use Rattle.es_process.proofs.AmongLemmas.{same-name, is-same, put-cases}
use Rattle.es_process.proofs.ConsistentLemmas.{IsConsistent-push, IsConsistent-opening}
use Rattle.es_process.proofs.FollowsLemmas.{Grows, LogsGrow, Grows-put, logs-grow, tracked_in-append, tracked_in-push, ComesNext-grows, Follows-opening}
use Rattle.es_process.proofs.RunReachedLemmas.{none_ahead}
use Rattle.es_world.specs.Laws.{IsInDoubt, IsKept, WorldLaw}
use Rattle.es_world.specs.World.{World, opened, AreUp, Adds, with_added, Makes, left_of, stopped, Steps, Runs}
use Rattle.es_world.specs.declared.steps.WorldStep.{WorldStep}
use Rattle.es_world.specs.declared.steps.WorldStep.TheVariants.{Line, Deliver, Stop}
use Rattle.es_world.proofs.ComesLemmas.{IsSameFor, ComesNext-over}
use Rattle.es_world.proofs.JoinLaws.{IsConsistent-join}
use Rattle.es_world.proofs.RoundsLemmas.{log_taken}

-- two maps with something put at the same name
both_at : {A B : Type 0} (P : Name → A → B → Type 0) (n name : Name) (t : Bool) (x u : A) (y v : B) → (t ≡ true → n ≡ name) → (n ≡ name → t ≡ true) → P name x y → ((n ≡ name → ⊥) → P n u v) → P n (if t then x else u) (if t then y else v)
both_at P n name true x u y v same back here other = subst (λ m. P m x y) (sym (same refl)) here
both_at P n name false x u y v same back here other = other (λ is. let clash : false ≡ true = back is in cc clash)

put-both : {A B : Type 0} (P : Name → A → B → Type 0) (h : Name → A) (k : Name → B) (name : Name) (x : A) (y : B) (n : Name) → P name x y → ((n ≡ name → ⊥) → P n (h n) (k n)) → P n (put h name x n) (put k name y n)
put-both P h k name x y n here other = both_at P n name (bytes_eq n name) x (h n) y (k n) (same-name n name) (is-same n name) here other

-- what a stop leaves of a history is a front of it
left_front : (dropped : Bool) (h : List Recording) → IsPrefix (left_of dropped h) h
left_front true h = (drop (length h - 1) h, sym (take-append-drop (length h - 1) h))
left_front false h = ([], sym (append-nil h))

left_last : (h : List Recording) (r : Recording) → left_of true (h ++ r ∷ []) ≡ h
left_last h r = take_at h (r ∷ []) (length (h ++ r ∷ []) - 1) (omega (arith, length-append h (r ∷ [])))

last_place : (h : List Recording) (r : Recording) → slice_get (h ++ r ∷ []) (length h) ≡ Some r
last_place [] r = refl
last_place (x ∷ h) r = last_place h r

-- what may come is tracked within the leader's log
id_within : (rules : Rules) (app : Name) (before : List Recording) (logs : Logs) (cause : Cause) (leader : Name) → MayCome rules app before logs cause → id_from cause leader ≤ length (logs leader)
id_within rules app before logs (Command asked) leader may = omega arith
id_within rules app before logs (Notification from id) leader may = here (bytes_eq from leader) (same-name from leader)
  where
    here : (t : Bool) → (t ≡ true → from ≡ leader) → (if t then id else 0) ≤ length (logs leader)
    here true same = subst (λ n. id ≤ length (logs n)) (same refl) may.there
    here false same = omega arith

module _ (rules : Rules) (lawful : IsLawful rules) where
  -- only a declared application adds something
  declared_app : (app : Name) (before : List Recording) (logs : Logs) (cause : Cause) → MayCome rules app before logs cause → Contains rules.names app
  declared_app app before logs (Command asked) may = lawful.named asked (Do app may.command) app may.is_asked refl
  declared_app app before logs (Notification leader id) may = (lawful.paired (leader, app) may.leads).1

  -- a history is a surely kept one, or where it is down that one and a recording that may come next
  abbrev IsAtop : Name → Logs → Bool → List Recording → List Recording → Type 0
  IsAtop app logs false kept h = h ≡ kept
  IsAtop app logs true kept h = (r : Recording) × (h ≡ kept ++ r ∷ []) × ComesNext rules app kept logs r

  abbrev IsOneMore : Name → Logs → List Recording → List Recording → Type 0
  IsOneMore app logs kept h = (h ≡ kept) ⊎ ((r : Recording) × (h ≡ kept ++ r ∷ []) × ComesNext rules app kept logs r)

  one_more : (app : Name) (logs : Logs) (down : Bool) (kept h : List Recording) → IsAtop app logs down kept h → IsOneMore app logs kept h
  one_more app logs false kept h atop = inl atop
  one_more app logs true kept h atop = inr atop

  one_left : (app : Name) (logs : Logs) (down among : Bool) (kept h : List Recording) → IsAtop app logs down kept h → IsOneMore app logs kept (left_of (down && not among) h)
  one_left app logs false among kept h atop = inl atop
  one_left app logs true true kept h atop = inr atop
  one_left app logs true false kept h atop = inl (ap (left_of true) atop.1 ∙ left_last kept atop.0)

  atop_grows : (app : Name) (logs others : Logs) → LogsGrow logs others → (down : Bool) (kept h : List Recording) → IsAtop app logs down kept h → IsAtop app others down kept h
  atop_grows app logs others grow false kept h atop = atop
  atop_grows app logs others grow true kept h atop = (atop.0, atop.1, ComesNext-grows rules lawful.local app logs others grow kept atop.0 atop.2)

  -- histories with at most one recording more each, over logs without these
  module _ (kept later : Histories) (each : (app : Name) → IsOneMore app (logs_of kept) (kept app) (later app)) where
    grows : Grows kept later
    grows app = elim (each app) [ inl same ↦ ([], same ∙ sym (append-nil (kept app))) | inr more ↦ (more.0 ∷ [], more.1) ]

    may : (app : Name) (before : List Recording) (cause : Cause) → MayCome rules app before (logs_of kept) cause → may_take later (lengths_of kept) cause ≡ true
    may app before (Command asked) so = refl
    may app before (Notification leader id) so =
        le-leb id (length (log (take (length (kept leader)) (later leader))))
        (omega (arith, so.there, log_taken (kept leader) (grows leader).0 (length (kept leader)) (length (kept leader)) (omega arith), ap (λ g. length (log g)) (take_all (length (kept leader)) (kept leader) (le_refl (length (kept leader)))), ap (λ g. length (log (take (length (kept leader)) g))) (grows leader).1))

    round_takes : (app : Name) (x : List Recording) → IsOneMore app (logs_of kept) (kept app) x → next_front later (lengths_of kept) (length (kept app)) (slice_get x (length (kept app))) ≡ length x
    round_takes app x (inl same) =
        (λ i. next_front later (lengths_of kept) (length (kept app)) (none i)) ∙ sym (ap length same)
      where
        none : slice_get x (length (kept app)) ≡ None
        none = slice_get_past x (length (kept app)) (omega (arith, ap length same))
    round_takes app x (inr more) =
        (λ i. next_front later (lengths_of kept) (length (kept app)) (found i)) ∙ (λ i. if may app (kept app) more.0.cause more.2.cause i then length (kept app) + 1 else length (kept app))
        ∙ omega (arith, ap length more.1, length-append (kept app) (more.0 ∷ []))
      where
        found : slice_get x (length (kept app)) ≡ Some more.0
        found = ap (λ (h : List Recording). slice_get h (length (kept app))) more.1 ∙ last_place (kept app) more.0

    follows_kept : (app : Name) (x : List Recording) → IsOneMore app (logs_of kept) (kept app) x → Follows rules app (kept app) x (logs_of later)
    follows_kept app x (inl same) = subst (λ h. Follows rules app (kept app) h (logs_of later)) (sym same) (Follows-opening rules app (logs_of later) (kept app))
    follows_kept app x (inr more) = record {
      added = more.0 ∷ [];
      parts = more.1;
      each = (ComesNext-grows rules lawful.local app (logs_of kept) (logs_of later) (logs-grow kept later grows) (kept app) more.0 more.2, tt);
    }

    consistent_kept : IsConsistent rules kept later
    unfolding rounds
    consistent_kept = record {
      follow = λ app declared. follows_kept app (later app) (each app);
      grounded = record { count = suc zero; all = λ app declared. round_takes app (later app) (each app) };
    }

  module _ (openings : Histories) where
    -- a world stands on histories without what is in doubt, which are consistent and track no notification past their logs
    record Stands (w : World) : Type 0 where
      kept : Histories
      consistent : IsConsistent rules openings kept
      atop : (app : Name) → IsAtop app (logs_of kept) (w.down app) (kept app) (w.histories app)
      behind : ahead rules.pairs openings ≡ None → (leader follower : Name) → Contains rules.pairs (leader, follower) → tracked_in (w.histories follower) leader ≤ length (log (kept leader))

    stands_opened : Stands (opened openings)
    stands_opened = record {
      kept = openings;
      consistent = IsConsistent-opening rules lawful openings;
      atop = λ app. refl;
      behind = λ fair leader follower leads. none_ahead rules.pairs openings fair (leader, follower) leads;
    }

    module _ (w : World) (so : Stands w) where
      -- after a stop
      stands_stopped : (names : List Name) → Stands (stopped names w)
      stands_stopped names = record {
        kept = left;
        consistent = IsConsistent-join rules lawful openings so.kept left so.consistent (consistent_kept so.kept left each);
        atop = λ app. refl;
        behind = λ fair leader follower leads. omega (arith, so.behind fair leader follower leads, tracked leader follower, longer leader);
      }
        where
          left : Histories
          left = (stopped names w).histories

          each : (app : Name) → IsOneMore app (logs_of so.kept) (so.kept app) (left app)
          each app = one_left app (logs_of so.kept) (w.down app) (is_among app names) (so.kept app) (w.histories app) (so.atop app)

          front : (app : Name) → IsPrefix (left app) (w.histories app)
          front app = left_front (w.down app && not (is_among app names)) (w.histories app)

          tracked : (leader follower : Name) → tracked_in (left follower) leader ≤ tracked_in (w.histories follower) leader
          tracked leader follower = omega (arith, tracked_in-append (left follower) (front follower).0 leader, ap (λ (h : List Recording). tracked_in h leader) (front follower).1)

          longer : (leader : Name) → length (log (so.kept leader)) ≤ length (log (left leader))
          longer leader = let more = logs-grow so.kept left (grows so.kept left each) leader in
              omega (arith, ap length more.1, length-append (log (so.kept leader)) more.0)

      -- with one recording more
      module _ (app : Name) (cause : Cause) (at : ℤ) (r : Recording) (adds : Adds rules w app cause at r) where
        -- who isn't down has what is kept
        up : (n : Name) → w.down n ≡ false → w.histories n ≡ so.kept n
        up n is = subst (λ d. IsAtop n (logs_of so.kept) d (so.kept n) (w.histories n)) is (so.atop n)

        app_up : (c : Cause) → AreUp w app c → w.histories app ≡ so.kept app
        app_up (Command asked) are = up app are
        app_up (Notification leader id) are = up app are.0

        same_for : (c : Cause) → AreUp w app c → MayCome rules app (w.histories app) (logs_of w.histories) c → IsSameFor rules lawful.local app (logs_of w.histories) (logs_of so.kept) c
        same_for (Command asked) are comes = tt
        same_for (Notification leader id) are comes =
            let same : log (w.histories leader) ≡ log (so.kept leader) = ap log (up leader are.1) in
            (omega (arith, comes.there, ap length same), ap (λ (es : List StoredEvent). slice_get es (id - 1)) same)

        next : ComesNext rules app (so.kept app) (logs_of so.kept) r
        next = subst (λ h. ComesNext rules app h (logs_of so.kept) r) (app_up cause adds.up)
            (ComesNext-over rules lawful.local app (logs_of w.histories) (logs_of so.kept) (w.histories app) r
            (subst (IsSameFor rules lawful.local app (logs_of w.histories) (logs_of so.kept)) (sym adds.caused)
            (same_for cause adds.up (subst (MayCome rules app (w.histories app) (logs_of w.histories)) adds.caused adds.next.cause)))
            adds.next)

        abbrev longer : Histories
        longer = put w.histories app (w.histories app ++ r ∷ [])

        still_behind : ahead rules.pairs openings ≡ None → (leader follower : Name) → Contains rules.pairs (leader, follower) → tracked_in (longer follower) leader ≤ length (log (so.kept leader))
        still_behind fair leader follower leads =
            put-cases (λ n h. Contains rules.pairs (leader, n) → tracked_in h leader ≤ length (log (so.kept leader))) w.histories app (w.histories app ++ r ∷ []) follower
            (λ leads. omega (arith, so.behind fair leader app leads, tracked_in-push (w.histories app) r leader, id_within rules app (so.kept app) (logs_of so.kept) r.cause leader next.cause))
            (λ differ leads. so.behind fair leader follower leads)
            leads

        same_push : w.histories app ++ r ∷ [] ≡ so.kept app ++ r ∷ []
        same_push = ap (λ (h : List Recording). h ++ r ∷ []) (app_up cause adds.up)

        down_app : (c : Cause) → AreUp w app c → w.down app ≡ false
        down_app (Command asked) are = are
        down_app (Notification leader id) are = are.0

        stands_sure : Stands (with_added w app r true)
        stands_sure = record {
          kept = more;
          consistent = IsConsistent-push rules lawful openings so.kept app r next so.consistent;
          atop = λ n. put-both (λ m kept h. IsAtop m (logs_of more) (w.down m) kept h) so.kept w.histories app (so.kept app ++ r ∷ []) (w.histories app ++ r ∷ []) n
              (subst (λ d. IsAtop app (logs_of more) d (so.kept app ++ r ∷ []) (w.histories app ++ r ∷ [])) (sym (down_app cause adds.up)) same_push)
              (λ differ. atop_grows n (logs_of so.kept) (logs_of more) grow (w.down n) (so.kept n) (w.histories n) (so.atop n));
          behind = λ fair leader follower leads. omega (arith, still_behind fair leader follower leads, ap length (grow leader).1, length-append (log (so.kept leader)) (grow leader).0);
        }
          where
            more : Histories
            more = put so.kept app (so.kept app ++ r ∷ [])

            grow : LogsGrow (logs_of so.kept) (logs_of more)
            grow = logs-grow so.kept more (Grows-put so.kept app r)

        stands_doubtful : Stands (with_added w app r false)
        stands_doubtful = record {
          kept = so.kept;
          consistent = so.consistent;
          atop = λ n. put-both (λ m d h. IsAtop m (logs_of so.kept) d (so.kept m) h) w.down w.histories app true (w.histories app ++ r ∷ []) n (r, same_push, next) (λ differ. so.atop n);
          behind = still_behind;
        }

        stands_added : (sure : Bool) → Stands (with_added w app r sure)
        stands_added true = stands_sure
        stands_added false = stands_doubtful

      stands_made : (app : Name) (cause : Cause) (at : ℤ) (sure : Bool) (new : World) → Makes rules w app cause at sure new → Stands new
      stands_made app cause at sure new (inl added) = subst Stands (sym added.2) (stands_added app cause at added.0 added.1 sure)
      stands_made app cause at sure new (inr nothing) = subst Stands (sym nothing.1) so

      stands_step : (s : WorldStep) (new : World) → Steps rules w s new → Stands new
      stands_step (Line app command at sure) new made = stands_made app (Command (command_text app command)) at sure new made
      stands_step (Deliver follower leader id at sure) new made = stands_made follower (Notification leader id) at sure new made
      stands_step (Stop names) new is = subst Stands (sym is) (stands_stopped names)

      kept_well : IsKept rules openings w
      kept_well = record {
        consistent = IsConsistent-join rules lawful openings so.kept w.histories so.consistent (consistent_kept so.kept w.histories (λ app. one_more app (logs_of so.kept) (w.down app) (so.kept app) (w.histories app) (so.atop app)));
        doubts = λ app is. in_doubt app (subst (λ d. IsAtop app (logs_of so.kept) d (so.kept app) (w.histories app)) is (so.atop app));
      }
        where
          in_doubt : (app : Name) → IsAtop app (logs_of so.kept) true (so.kept app) (w.histories app) → IsInDoubt rules openings w app
          in_doubt app atop =
              let follow = so.consistent.follow app (declared_app app (so.kept app) (logs_of so.kept) atop.0.cause atop.2.cause) in
              record {
                before = so.kept app;
                doubtful = atop.0;
                last = atop.1;
                added = (follow.added, follow.parts);
                untracked = λ fair follower leads. so.behind fair app follower leads;
              }

    stands_run : (w : World) → Stands w → (steps : List WorldStep) (new : World) → Runs rules w steps new → Stands new
    stands_run w so [] new is = subst Stands (sym is) so
    stands_run w so (s ∷ steps) new run = stands_run run.0 (stands_step w so s run.0 run.1) steps new run.2

pub law_of_worlds : WorldLaw
law_of_worlds rules lawful openings steps w run = kept_well rules lawful openings w (stands_run rules lawful openings (opened openings) (stands_opened rules lawful openings) steps w run)
