-- From serving lines to a run over applications.
use Rattle.std.proofs.Common.{◌≡◌, inl, inr, ◌+◌, ◌++◌, ℕ, List, [], Option, Some, None, Result, Ok, Err, refl, sym, ap, ◌∙◌, subst, append-nil}
use Rattle.std.specs.Io.KnownBytes.{Appends}
use Rattle.es_model.specs.declared.declaration.System.{System}
use Rattle.es_model.specs.declared.memory.Failed.{Failed}
use Rattle.es_model.specs.declared.limits.TheConstants.{MOST_LINE_BYTES, MOST_INPUT_BYTES}
use Rattle.es_model.specs.Lines.{Line, pieces_of, lines_of_pieces}
use Rattle.es_model.specs.Values.{Name}
use Rattle.es_io.specs.Readings.{Readings}
use Rattle.es_decl.specs.Pairs.{leaders_in}
use Rattle.es_lines.specs.declared.ends.End.{End}
use Rattle.es_lines.specs.declared.ends.End.TheVariants as end
use Rattle.es_process.specs.declared.ahead.Ahead.{Ahead}
use Rattle.es_process.specs.declared.faults.RunFault.{RunFault}
use Rattle.es_process.specs.declared.faults.RunFault.TheVariants as fault
use Rattle.es_process.specs.Contents.{Contents}
use Rattle.es_process.specs.Faults.{end_of}
use Rattle.es_process.specs.Reached.{ahead}
use Rattle.es_process.specs.SingleThread.{added_counts, up_to_stop, Run, IsRun, IsRunOver, Goes, ahead_end, start, left_by, written_by}
use Rattle.es_process.specs.Standing.{State, Setting, Places, stand, Came, Ended, CutShort, CutInText, Faulted}
use Rattle.es_process.specs.SystemRules.{app_names, in_order, names_of, rules_of}
use Rattle.es_process.specs.Terms.{Terms}
use Rattle.es_process.proofs.DrainLemmas.{run-exists}
use Rattle.es_process.proofs.RunOverLemmas.{ahead_of_run, none_of_run, one_run_over}
use Rattle.es_process.proofs.SingleThreadLemmas.{Goes-end, Goes-after}
use Rattle.es_process.proofs.StandingLemmas.{appends_nothing, front_none}
use Rattle.es_top.specs.declared.serve.Stop.{Stop}
use Rattle.es_top.specs.declared.serve.Stop.TheVariants as stops
use Rattle.es_top.specs.inner.Begins.{AheadEnd, IsUnbegunEnd}
use Rattle.es_top.specs.inner.Counts.{CountsTold, EndsBy, EndsSo, more_than}
use Rattle.es_top.specs.Limits.{terms_of, all_lines, lines_for}
use Rattle.es_top.specs.Runs.{state_of, IsRunning, PartRun, WholeRun, Runs}
use Rattle.es_top.specs.inner.Serves.{whole, served, Answered, Serves}
use Rattle.es_top.specs.inner.Taken.{Taken}
use Rattle.es_top.proofs.CountLemmas.{counts-added}
use Rattle.es_top.proofs.LoopLemmas.{stop-behind}
use Rattle.es_top.proofs.TakenLemmas.{taken_lines}

-- nothing was done
pub part_none : (t : Terms) (opening : Contents) (r : Readings) (i : List ℕ) (L : Contents → Type 0) (u w : Option (List ℕ)) → L opening → w ≡ u → PartRun t opening r i L u w []
part_none t opening r i L u w held still =
    let one = one_run_over t.rules t.options opening r (lines_for t.rules i) in
    record {
      run = one.run;
      done = [];
      rest = one.run.steps;
      is = one.is;
      parts = refl;
      next = front_none one.run.steps;
      held = held;
      written = subst (λ x. Appends u x []) (sym still) (appends_nothing u);
    }

-- a follower is ahead, and nothing was done
pub ahead_whole : (t : Terms) (opening : Contents) (r : Readings) (i : List ℕ) (L : Contents → Type 0) (u w : Option (List ℕ)) (a : Ahead) → ahead t.rules.pairs opening.histories ≡ Some a → L opening → w ≡ u → WholeRun t opening r i L u w (ahead_end a)
ahead_whole t opening r i L u w a is held still = record {
  steps = [];
  is = ahead_of_run t.rules t.options opening r (lines_for t.rules i) (record { steps = []; end = ahead_end a }) a is refl;
  held = held;
  written = subst (λ x. Appends u x []) (sym still) (appends_nothing u);
}

-- a run that ended before its first step
pub unbegun_runs : (t : Terms) (opening : Contents) (r : Readings) (i : List ℕ) (L : Contents → Type 0) (u unread : Option (List ℕ)) (e : End) → IsUnbegunEnd e → AheadEnd (ahead t.rules.pairs opening.histories) e → L opening → Runs t opening r i unread L u u (Ok e)
unbegun_runs t opening r i L u unread (end.Ahead app leader tracked last) so is held = ahead_whole t opening r i L u u (record { app = app; leader = leader; tracked = tracked; last = last }) is held refl
unbegun_runs t opening r i L u unread end.Memory so is held = part_none t opening r i L u u held refl
unbegun_runs t opening r i L u unread end.Recorder so is held = part_none t opening r i L u u held refl
unbegun_runs t opening r i L u unread e so is held = absurd so

pub unbegun_running : (e : End) → IsUnbegunEnd e → IsRunning e
unbegun_running (end.Ahead app leader tracked last) so = tt
unbegun_running end.Memory so = tt
unbegun_running end.Recorder so = tt
unbegun_running e so = absurd so

-- a run at whose opening none is ahead
module _ (t : Terms) (opening : Contents) (r : Readings) (i : List ℕ) (L : Contents → Type 0) (u : Option (List ℕ)) (none : ahead t.rules.pairs opening.histories ≡ None) where
  abbrev pub plain : Setting
  plain = record { openings = opening.histories; lines = []; answered = 0 }

  abbrev pub first : State
  first = state_of opening r

  pub over : (lines : List Line) (run : Run) → IsRun t.rules t.options opening.histories (start t.rules opening r lines) run → IsRunOver t.rules t.options opening r lines run
  over lines run is = none_of_run t.rules t.options opening r lines run none is

  pub whole_of : (w : Option (List ℕ)) (e : End) → Ended t (whole t first (all_lines i)) L u w e → WholeRun t opening r i L u w e
  whole_of w e x = record {
    steps = x.steps;
    is = over (lines_for t.rules i) (record { steps = x.steps; end = e }) (x.run plain);
    held = subst L (sym (x.made plain)) x.held;
    written = x.written;
  }

  pub part_of : (w : Option (List ℕ)) (front : List ℕ) → CutShort t (whole t first (all_lines i)) L u w front → PartRun t opening r i L u w front
  part_of w front x =
      let one = run-exists t.rules t.options opening.histories opening r (lines_for t.rules i) in
      let begins = (x.cut plain).of_run one.run one.is in
      record {
        run = one.run;
        done = x.done;
        rest = begins.rest;
        is = over (lines_for t.rules i) one.run one.is;
        parts = begins.parts;
        next = begins.next;
        held = subst L (sym (x.made plain)) x.held;
        written = x.written;
      }

  -- some lines were answered
  abbrev pub part_answered : (H : State → Type 0) (rest : List Line) (count : ℕ) (w : Option (List ℕ)) → ((n : State) → H n → L n.contents) → Answered t first H (all_lines i) rest count u w → PartRun t opening r i L u w []
  part_answered H rest count w told x =
      let one = run-exists t.rules t.options opening.histories opening r (lines_for t.rules i) in
      let coming : List Line = up_to_stop t.rules rest in
      let far : Goes t.rules t.options opening.histories (whole t first (all_lines i) plain) (stand x.state [] [] coming count) x.steps
      = subst (λ l. Goes t.rules t.options opening.histories (stand first (leaders_in t.rules.pairs) [] l 0) (stand x.state [] [] coming count) x.steps) (sym (ap (up_to_stop t.rules) x.parts ∙ stop-behind t.rules x.taken rest x.going)) (x.goes coming opening.histories) in
      let later = Goes-after t.rules t.options opening.histories (whole t first (all_lines i) plain) (stand x.state [] [] coming count) x.steps one.run far one.is in
      record {
        run = one.run;
        done = x.steps;
        rest = later.run.steps;
        is = over (lines_for t.rules i) one.run one.is;
        parts = ap (λ (d : Run). d.steps) later.parts;
        next = front_none later.run.steps;
        held = subst L (sym far.left) (told x.state x.held);
        written = subst (Appends u w) (sym (append-nil (written_by x.steps))) x.written;
      }

  -- all lines were answered
  pub whole_answered : (H : State → Type 0) (count : ℕ) (w : Option (List ℕ)) → ((n : State) → H n → L n.contents) → (x : Came t (whole t first (all_lines i)) H u w (λ n. served [] count n))
      → WholeRun t opening r i L u w (end.Ok (added_counts t.rules.names opening.histories x.state.contents.histories) count)
  whole_answered H count w told x = record {
    steps = x.steps;
    is = over (lines_for t.rules i) (record { steps = x.steps; end = end.Ok (added_counts t.rules.names opening.histories x.state.contents.histories) count })
        (Goes-end t.rules t.options opening.histories (whole t first (all_lines i) plain) (served [] count x.state plain) x.steps (end.Ok (added_counts t.rules.names opening.histories x.state.contents.histories) count) (x.goes plain) refl);
    held = subst L (sym (x.goes plain).left) (told x.state x.held);
    written = x.written;
  }

  -- all steps were made, and the end line isn't known
  pub part_whole : (w : Option (List ℕ)) (e : End) → WholeRun t opening r i L u w e → PartRun t opening r i L u w []
  part_whole w e x = record {
    run = record { steps = x.steps; end = e };
    done = x.steps;
    rest = [];
    is = x.is;
    parts = sym (append-nil x.steps);
    next = refl;
    held = x.held;
    written = subst (Appends u w) (sym (append-nil (written_by x.steps))) x.written;
  }

  module _ (unread : Option (List ℕ)) where
    -- the end of a run that a fault ended
    pub fault_runs : (f : RunFault) (w : Option (List ℕ)) → Faulted t (whole t first (all_lines i)) f L u w → Runs t opening r i unread L u w (Ok (end_of f))
    fault_runs (fault.Refused app leader id recordings code rule) w x = whole_of w (end.Refused app leader id recordings code rule) x
    fault_runs (fault.Turns app turns) w x = whole_of w (end.Turns app turns) x
    fault_runs (fault.Unreadable app id) w x = whole_of w (end.Unreadable app id) x
    fault_runs (fault.Full app last capacity) w x = whole_of w (end.Full app last capacity) x
    fault_runs fault.Recorder w x = part_of w [] x
    fault_runs fault.NoMemory w x = part_of w [] x

    pub over_runs : (w : Option (List ℕ)) → Ended t (whole t first (all_lines i)) L u w end.Over → Runs t opening r i unread L u w (Ok end.Over)
    over_runs w x = whole_of w end.Over x

    pub sink_runs : (w : Option (List ℕ)) (f : Failed) → CutInText t (whole t first (all_lines i)) L u w → Runs t opening r i unread L u w (Err f)
    sink_runs w f x = (x.0, part_of w x.0 x.1)

    -- reading failed
    pub read_runs : (H : State → Type 0) (lines : List Line) (left : List ℕ) (count : ℕ) (w : Option (List ℕ)) → ((n : State) → H n → L n.contents) → Answered t first H (all_lines i) lines count u w → Taken i count left → unread ≡ Some left
        → Runs t opening r i unread L u w (Ok end.Input)
    read_runs H lines left count w told x y is = (
      part_answered H lines count w told x,
      record {
        answered = y.answered;
        begun = y.begun;
        rest = left;
        unread_is = is;
        parts = y.parts;
        unended = y.unended;
        ends = y.ends;
        run = record { steps = x.steps; end = end.Ok (added_counts t.rules.names opening.histories x.state.contents.histories) count };
        is = over (lines_for t.rules y.answered) (record { steps = x.steps; end = end.Ok (added_counts t.rules.names opening.histories x.state.contents.histories) count }) (subst (λ l. IsRun t.rules t.options opening.histories (stand first (leaders_in t.rules.pairs) [] l 0) (record { steps = x.steps; end = end.Ok (added_counts t.rules.names opening.histories x.state.contents.histories) count }))
            (sym (stop-behind t.rules x.taken [] x.going) ∙ ap (up_to_stop t.rules) (append-nil x.taken ∙ taken_lines MOST_LINE_BYTES MOST_INPUT_BYTES (pieces_of y.answered) (pieces_of (y.begun ++ left)) x.taken lines (sym x.parts ∙ ap (lines_of_pieces MOST_LINE_BYTES MOST_INPUT_BYTES) y.pieces) (sym x.counted ∙ sym y.number) x.within))
            (Goes-end t.rules t.options opening.histories (stand first (leaders_in t.rules.pairs) [] (x.taken ++ []) 0) (stand x.state [] [] [] count) x.steps (end.Ok (added_counts t.rules.names opening.histories x.state.contents.histories) count) (x.goes [] opening.histories) refl));
        steps = refl;
        ended = (added_counts t.rules.names opening.histories x.state.contents.histories, count, refl);
      },
    )

-- what is held where a fault ended the run
faulted_held : (t : Terms) (at : Places) (L : Contents → Type 0) (u w : Option (List ℕ)) (f : RunFault) → Faulted t at f L u w → (c : Contents) × L c
faulted_held t at L u w (fault.Refused app leader id recordings code rule) x = (x.contents, x.held)
faulted_held t at L u w (fault.Turns app turns) x = (x.contents, x.held)
faulted_held t at L u w (fault.Unreadable app id) x = (x.contents, x.held)
faulted_held t at L u w (fault.Full app last capacity) x = (x.contents, x.held)
faulted_held t at L u w fault.Recorder x = (x.contents, x.held)
faulted_held t at L u w fault.NoMemory x = (x.contents, x.held)

-- the numbers of the end line are those of the run
module _ (sys : System) (opening : Contents) (r : Readings) (i : List ℕ) (L : Contents → Type 0) (u w : Option (List ℕ)) (none : ahead (rules_of sys).pairs opening.histories ≡ None) (unread : Option (List ℕ)) where
  counted_runs : (added : List (Name × ℕ)) (count : ℕ) (e : End) → WholeRun (terms_of sys) opening r i L u w (end.Ok added count) → CountsTold added count e → Runs (terms_of sys) opening r i unread L u w (Ok e)
  counted_runs added count e x (inl is) = subst (λ y. Runs (terms_of sys) opening r i unread L u w (Ok y)) (sym is) x
  counted_runs added count e x (inr (inl is)) = subst (λ y. Runs (terms_of sys) opening r i unread L u w (Ok y)) (sym is) (part_whole (terms_of sys) opening r i L u none w (end.Ok added count) x)
  counted_runs added count e x (inr (inr is)) = subst (λ y. Runs (terms_of sys) opening r i unread L u w (Ok y)) (sym is) (part_whole (terms_of sys) opening r i L u none w (end.Ok added count) x)

  end_runs : (H : State → Type 0) (count : ℕ) (e : End) → ((n : State) → H n → L n.contents)
      → (x : Came (terms_of sys) (whole (terms_of sys) (state_of opening r) (all_lines i)) H u w (λ n. served [] count n))
      → CountsTold (in_order (more_than opening.histories x.state.contents.histories) (app_names sys)) count e → Runs (terms_of sys) opening r i unread L u w (Ok e)
  end_runs H count e told x counts =
      counted_runs (added_counts (names_of sys) opening.histories x.state.contents.histories) count e (whole_answered (terms_of sys) opening r i L u none H count w told x)
      (subst (λ added. CountsTold added count e) (sym (counts-added sys opening.histories x.state.contents.histories)) counts)

  abbrev Left : Result End Failed → Type 0
  Left result = Runs (terms_of sys) opening r i unread L u w result

  ends_at : (P : End → Type 0) (result : Result End Failed) → ((e : End) → P e → Left (Ok e)) → EndsSo P result → Left result
  ends_at P (Ok e) so ends = so e ends
  ends_at P (Err f) so ends = absurd ends

  ends_as : (e : End) (result : Result End Failed) → Left (Ok e) → EndsSo (λ x. x ≡ e) result → Left result
  ends_as e result so ends = ends_at (λ x. x ≡ e) result (λ x is. subst (λ y. Left (Ok y)) (sym is) so) ends

  -- what serving lines leaves, and how the run ends then
  pub served_runs : (H : State → Type 0) (stop : Stop) (count : ℕ) (result : Result End Failed) → ((n : State) → H n → L n.contents)
      → ((c : Contents) → L c → EndsBy (in_order (more_than opening.histories c.histories) (app_names sys)) stop count result)
      → (stop ≡ stops.Read → (left : List ℕ) × (unread ≡ Some left) × Taken i count left)
      → Serves (terms_of sys) (state_of opening r) H (all_lines i) stop count L u w → Left result
  served_runs H stops.End count result told ends taken x = ends_at (CountsTold (in_order (more_than opening.histories x.state.contents.histories) (app_names sys)) count) result (λ e counts. end_runs H count e told x counts) (ends x.state.contents (told x.state x.held))
  served_runs H stops.Asked count result told ends taken x = ends_at (CountsTold (in_order (more_than opening.histories x.state.contents.histories) (app_names sys)) (count + 1)) result (λ e counts. end_runs H (count + 1) e told x counts) (ends x.state.contents (told x.state x.held))
  served_runs H stops.Over count result told ends taken x = ends_as end.Over result (over_runs (terms_of sys) opening r i L u none unread w x) (ends x.contents x.held)
  served_runs H (stops.Fault f) count result told ends taken x = let c = faulted_held (terms_of sys) (whole (terms_of sys) (state_of opening r) (all_lines i)) L u w f x in ends_as (end_of f) result (fault_runs (terms_of sys) opening r i L u none unread f w x) (ends c.0 c.1)
  served_runs H stops.Read count result told ends taken x =
      let left = taken refl in
      ends_as end.Input result (read_runs (terms_of sys) opening r i L u none unread H x.0 left.0 count w told x.1 left.2 left.1) (ends x.1.state.contents (told x.1.state x.1.held))
  served_runs H stops.Sink count (Ok e) told ends taken x = absurd (ends x.1.contents x.1.held)
  served_runs H stops.Sink count (Err f) told ends taken x = sink_runs (terms_of sys) opening r i L u none unread w f x

-- what is held, in other words
module _ (t : Terms) (opening : Contents) (r : Readings) (i : List ℕ) (L M : Contents → Type 0) (weak : (c : Contents) → L c → M c) (u w : Option (List ℕ)) (unread : Option (List ℕ)) where
  abbrev part_held : (front : List ℕ) → PartRun t opening r i L u w front → PartRun t opening r i M u w front
  part_held front x = record { run = x.run; done = x.done; rest = x.rest; is = x.is; parts = x.parts; next = x.next; held = weak (left_by x.done opening) x.held; written = x.written }

  whole_held : (e : End) → WholeRun t opening r i L u w e → WholeRun t opening r i M u w e
  whole_held e x = record { steps = x.steps; is = x.is; held = weak (left_by x.steps opening) x.held; written = x.written }

  pub runs_held : (result : Result End Failed) → Runs t opening r i unread L u w result → Runs t opening r i unread M u w result
  runs_held (Err f) x = (x.0, part_held x.0 x.1)
  runs_held (Ok end.Memory) x = part_held [] x
  runs_held (Ok end.Recorder) x = part_held [] x
  runs_held (Ok end.Input) x = (part_held [] x.0, x.1)
  runs_held (Ok end.Usage) x = absurd x
  runs_held (Ok (end.Declaration code path)) x = absurd x
  runs_held (Ok end.System) x = absurd x
  runs_held (Ok e) x = whole_held e x
