-- What the top call leaves, by how the run over the stores ended and by what was written after it.
use Rattle.std.proofs.Common.{◌≡◌, ◌⊎◌, inl, inr, ℕ, false, List, [], ◌∷◌, ◌++◌, Option, Some, None, Ok, option_map, refl, sym, ap, ◌∙◌, subst, append-nil}
use Rattle.std.specs.Io.KnownBytes.{Appends}
use Rattle.es_model.specs.declared.declaration.Code.{Code}
use Rattle.es_model.specs.declared.declaration.System.{System}
use Rattle.es_model.specs.declared.snapshot.Snapshot.{Snapshot}
use Rattle.es_model.specs.History.{Histories}
use Rattle.es_model.specs.Lines.{Line}
use Rattle.es_model.specs.Values.{Name}
use Rattle.es_io.specs.Front.{AppendsFront}
use Rattle.es_io.specs.Readings.{Readings}
use Rattle.es_expr.specs.Checked.{IsCheckedSystem}
use Rattle.es_lines.specs.declared.ends.End.{End}
use Rattle.es_lines.specs.declared.ends.End.TheVariants as end
use Rattle.es_lines.specs.Texts.{end_text, is_fixed}
use Rattle.es_process.specs.declared.ahead.Ahead.{Ahead}
use Rattle.es_process.specs.Contents.{Contents}
use Rattle.es_process.specs.Decision.{Rules}
use Rattle.es_process.specs.Reached.{ahead}
use Rattle.es_process.specs.SingleThread.{Step, Run, IsRun, IsRunOver, IsRunUnless, start, left_by, written_by, as_line}
use Rattle.es_process.specs.Standing.{IsFrontOf}
use Rattle.es_process.specs.SystemRules.{rules_of}
use Rattle.es_process.proofs.DeclaredLemmas.{declared-lawful}
use Rattle.es_process.proofs.DrainLemmas.{run-exists}
use Rattle.es_process.proofs.RunOverLemmas.{ok_none, run_of_none}
use Rattle.es_process.proofs.RunReachedLemmas.{run-reached}
use Rattle.es_process.proofs.RunSessionLemmas.{run-consistent, run-session, run-lines}
use Rattle.es_process.proofs.StandingLemmas.{appends_then}
use Rattle.es_top.specs.Limits.{limits, lines_for}
use Rattle.es_top.specs.declared.loading.LoadFault.{LoadFault}
use Rattle.es_top.specs.declared.loading.LoadFault.TheVariants as fault
use Rattle.es_top.specs.declared.status.Status.{Status}
use Rattle.es_top.specs.declared.status.Status.TheVariants as status
use Rattle.es_top.specs.Sorts.{Sort, itself, stopped, in_lines, unbegun, sort_of}
use Rattle.es_top.specs.Ends.{ended, end_of_load, status_of_load, sorted, code_of, IsStopped, IsToldAs, Writes, WritesLine}
use Rattle.es_top.specs.inner.Begins.{AheadEnd}
use Rattle.es_top.specs.inner.Ran.{Stands}
use Rattle.es_top.specs.Top.{AheadExactly, Closes, Follows, FollowsBy, IsDone, LeavesConsistent, Made, Ran, StoresTell}
use Rattle.es_top.proofs.TopLemmas.{made_none}

-- what was written of a line, by the status
pub line_told : (e : End) (line : List ℕ) (v w : Option (List ℕ)) (s : Status) → ended s ≡ Some e → Appends v w line → WritesLine e line v w (ended s)
line_told e line v w s is all = subst (WritesLine e line v w) (sym is) (refl, all)

-- what a line that was written tells of the end
pub line_writes : (e : End) (line : List ℕ) (v w : Option (List ℕ)) (s : Status) → line ≡ as_line (end_text e) → WritesLine e line v w (ended s) → Writes e v w (ended s)
line_writes e line v w s is = by (ended s)
  where
    by : (o : Option End) → WritesLine e line v w o → Writes e v w o
    by (Some told) x = (inl x.0, subst (λ t. Appends v w t) (is ∙ ap (λ y. as_line (end_text y)) (sym x.0)) x.1)
    by None x = (e, inl refl, subst (λ t. AppendsFront v w t) is x)

-- or, where its bytes aren't fixed, of want of memory
pub starved_writes : (e : End) (line : List ℕ) (v w : Option (List ℕ)) (s : Status) → is_fixed e ≡ false → line ≡ as_line (end_text end.Memory) → WritesLine end.Memory line v w (ended s) → Writes e v w (ended s)
starved_writes e line v w s loose is = by (ended s)
  where
    by : (o : Option End) → WritesLine end.Memory line v w o → Writes e v w o
    by (Some told) x = (inr (x.0, loose), subst (λ t. Appends v w t) (is ∙ ap (λ y. as_line (end_text y)) (sym x.0)) x.1)
    by None x = (end.Memory, inr (refl, loose), subst (λ t. AppendsFront v w t) is x)

-- a status that tells an end isn't that of a failed sink
pub told_not_sink : {P : Type 0} (s : Status) (e : End) → ended s ≡ Some e → s ≡ status.Sink → P
told_not_sink s e is same = let clash : Some e ≡ None = sym is ∙ ap ended same in absurd (cc clash)

-- the status of a failed sink is the only one that tells no end
pub none_told : (s : Status) → ended s ≡ None → s ≡ status.Sink
none_told status.Sink is = refl
none_told s is = absurd (cc is)

-- nor any but that of a refused document tells this
ended_declaration : (s : Status) (code : Code) (path : List ℕ) → ended s ≡ Some (end.Declaration code path) → s ≡ status.Declaration code path
ended_declaration (status.Declaration c p) code path is =
    let first : c ≡ code = cc is in
    let second : p ≡ path = cc is in
    ap (λ x. status.Declaration x p) first ∙ ap (λ y. status.Declaration code y) second
ended_declaration s code path is = absurd (cc is)

-- an end that isn't want of memory is told as itself
pub told_as : (e told : End) → IsToldAs e told → (told ≡ end.Memory → ⊥) → told ≡ e
told_as e told (inl is) not = is
told_as e told (inr is) not = absurd (not is.0)

-- first steps of a run over an opening are those of the run from its start, where none is ahead with the same behind them
record FromStart (found : Option Ahead) (rules : Rules) (h : Contents) (r : Readings) (lines : List Line) (done rest : List Step) : Type 0 where
  run : Run
  is : IsRun rules limits h.histories (start rules h r lines) run
  later : List Step
  parts : run.steps ≡ done ++ later
  same : found ≡ None → later ≡ rest

no_steps : (done rest : List Step) → [] ≡ done ++ rest → done ≡ []
no_steps [] rest is = refl
no_steps (s ∷ done) rest is = absurd (cc is)

from_start : (rules : Rules) (h : Contents) (r : Readings) (lines : List Line) (run : Run) → IsRunOver rules limits h r lines run → (done rest : List Step) → run.steps ≡ done ++ rest → FromStart (ahead rules.pairs h.histories) rules h r lines done rest
from_start rules h r lines run is done rest parts = by (ahead rules.pairs h.histories) is
  where
    by : (o : Option Ahead) → IsRunUnless o rules limits h r lines run → FromStart o rules h r lines done rest
    by None so = record { run = run; is = so; later = rest; parts = parts; same = λ none. refl }
    by (Some a) so =
        let one = run-exists rules limits h.histories h r lines in
        let none : done ≡ [] = no_steps done rest (ap (λ (x : Run). x.steps) (sym so) ∙ parts) in
        record { run = one.run; is = one.is; later = one.run.steps; parts = ap (λ (d : List Step). d ++ one.run.steps) (sym none); same = λ is. absurd (cc is) }

-- where some first steps of a run were made, all that is said of it holds
module _ (L S D : Type 0) (sys : System) (checked : IsCheckedSystem sys) (i : List ℕ) (unread : List ℕ) (r : Readings) (h : Contents) (new : Option Histories) (kept : Option (Name → List Snapshot)) (u w : Option (List ℕ)) (s : Status) (tail : List ℕ)
    (x : Made sys i r h (λ k. StoresTell k new kept) u w tail) (closes : Closes L S D sys i unread r h x.run x.done x.rest tail (ended s)) where
  ends_well : (added : List (Name × ℕ)) (count : ℕ) → s ≡ status.Ok added count → Follows L S D sys i unread r h x.run x.done x.rest (end.Ok added count)
  ends_well added count is = let at : Closes L S D sys i unread r h x.run x.done x.rest tail (ended (status.Ok added count)) = subst (λ y. Closes L S D sys i unread r h x.run x.done x.rest tail (ended y)) is closes in at.1

  -- the status 0 tells a run that ended well, so that none was ahead
  code_well : code_of s ≡ 0 → (ahead (rules_of sys).pairs h.histories ≡ None) × (x.rest ≡ [])
  code_well = by s refl
    where
      by : (y : Status) → s ≡ y → code_of y ≡ 0 → (ahead (rules_of sys).pairs h.histories ≡ None) × (x.rest ≡ [])
      by (status.Ok added count) is zero = let follows = ends_well added count is in (ok_none (rules_of sys) limits h r (lines_for (rules_of sys) i) x.run added count x.is follows.1, follows.0)
      by y is zero = absurd (cc zero)

  plain : FromStart (ahead (rules_of sys).pairs h.histories) (rules_of sys) h r (lines_for (rules_of sys) i) x.done x.rest
  plain = from_start (rules_of sys) h r (lines_for (rules_of sys) i) x.run x.is x.done x.rest x.parts

  done_well : (added : List (Name × ℕ)) (count : ℕ) → s ≡ status.Ok added count → IsDone sys i h.histories (left_by x.done h).histories added count
  done_well added count is =
      let follows : Follows L S D sys i unread r h x.run x.done x.rest (end.Ok added count) = ends_well added count is in
      let none = ok_none (rules_of sys) limits h r (lines_for (rules_of sys) i) x.run added count x.is follows.1 in
      let begun = run_of_none (rules_of sys) limits h r (lines_for (rules_of sys) i) x.run none x.is in
      let counts = run-lines (rules_of sys) (declared-lawful sys checked) limits h r (lines_for (rules_of sys) i) x.run begun x.done x.rest x.parts follows.0 added count follows.1 in
      record {
        reached = run-reached (rules_of sys) limits h r (lines_for (rules_of sys) i) x.run begun none x.done x.rest x.parts follows.0 added count follows.1;
        all = counts.1 ∙ counts.0;
        counts = counts.2;
      }

  pub ran_of : Ran L S D sys i unread r h new kept u w s
  ran_of = record {
    tail = tail;
    made = x;
    closes = closes;
    consistent = run-consistent (rules_of sys) (declared-lawful sys checked) limits h r (lines_for (rules_of sys) i) plain.run plain.is x.done plain.later plain.parts;
    session = run-session (rules_of sys) (declared-lawful sys checked) limits h r (lines_for (rules_of sys) i) plain.run plain.is x.done plain.later plain.parts (code_of s) (λ zero. let well = code_well zero in plain.same well.0 ∙ well.1);
    well = done_well;
  }

-- an end after some steps, by what failed
by_failing : (L S D : Type 0) (sys : System) (i : List ℕ) (unread : List ℕ) (r : Readings) (h : Contents) (run : Run) (done rest : List Step) (e : End) → (e ≡ end.Input → L) → (e ≡ end.Recorder → S)
    → Follows (Unit {0}) (Unit {0}) ⊥ sys i unread r h run done rest e → Follows L S D sys i unread r h run done rest e
by_failing L S D sys i unread r h run done rest end.Input lines stores x = (lines refl, x.1)
by_failing L S D sys i unread r h run done rest end.Recorder lines stores x = stores
by_failing L S D sys i unread r h run done rest end.Memory lines stores x = stores
by_failing L S D sys i unread r h run done rest end.Usage lines stores x = absurd x.1
by_failing L S D sys i unread r h run done rest (end.Declaration code path) lines stores x = absurd x.1
by_failing L S D sys i unread r h run done rest end.System lines stores x = absurd x.1
by_failing L S D sys i unread r h run done rest e lines stores x = x

-- the run came to an end, and its line was written, or a front of it, or that memory ran out
module _ (L S D : Type 0) (sys : System) (checked : IsCheckedSystem sys) (i : List ℕ) (unread : List ℕ) (r : Readings) (h : Contents) (new : Option Histories) (kept : Option (Name → List Snapshot)) (u v w : Option (List ℕ)) where
  -- what was written after the run
  abbrev then_tail : (tail : List ℕ) → Made sys i r h (λ k. StoresTell k new kept) u v [] → Appends v w tail → Made sys i r h (λ k. StoresTell k new kept) u w tail
  then_tail tail x line = record {
    run = x.run;
    done = x.done;
    rest = x.rest;
    is = x.is;
    parts = x.parts;
    held = x.held;
    written = appends_then u v w (written_by x.done) tail (subst (Appends u v) (append-nil (written_by x.done)) x.written) line;
  }

  follows_told : (run : Run) (done rest : List Step) (e told : End) → IsToldAs e told → Follows L S D sys i unread r h run done rest e → Follows L S D sys i unread r h run done rest told
  follows_told run done rest e told (inl is) follows = subst (Follows L S D sys i unread r h run done rest) (sym is) follows
  follows_told run done rest e told (inr is) follows = subst (Follows L S D sys i unread r h run done rest) (sym is.0) (λ same. absurd (cc same))

  pub ran_end : (e : End) (s : Status) → Writes e v w (ended s) → (x : Made sys i r h (λ k. StoresTell k new kept) u v []) → Follows L S D sys i unread r h x.run x.done x.rest e → Ran L S D sys i unread r h new kept u w s
  ran_end e s writes x follows = by (ended s) refl writes
    where
      by : (o : Option End) → ended s ≡ o → Writes e v w o → Ran L S D sys i unread r h new kept u w s
      by (Some told) is y =
          let line : List ℕ = as_line (end_text told) in
          ran_of L S D sys checked i unread r h new kept u w s line (then_tail line x y.1) (subst (Closes L S D sys i unread r h x.run x.done x.rest line) (sym is) (refl, follows_told x.run x.done x.rest e told y.0 follows))
      by None is y =
          let front : List ℕ = y.2.front in
          ran_of L S D sys checked i unread r h new kept u w s front (then_tail front x y.2.written) (subst (Closes L S D sys i unread r h x.run x.done x.rest front) (sym is) (inr (y.0, y.2.rest, follows_told x.run x.done x.rest e y.0 y.1 follows, y.2.parts)))

  -- the same of what stood before the end line
  pub ran_stood : (e : End) (s : Status) → (e ≡ end.Input → L) → (e ≡ end.Recorder → S) → Writes e v w (ended s) → Stands sys i unread r h (λ k. StoresTell k new kept) u v (Ok e) → Ran L S D sys i unread r h new kept u w s
  ran_stood e s lines stores writes x = ran_end e s writes x.0 (by_failing L S D sys i unread r h x.0.run x.0.done x.0.rest e lines stores x.1)

-- where the document was read, its failing isn't needed
pub ran_weaker : (L S D : Type 0) (sys : System) (i : List ℕ) (unread : List ℕ) (r : Readings) (h : Contents) (new : Option Histories) (kept : Option (Name → List Snapshot)) (u w : Option (List ℕ)) (s : Status) → Ran L S ⊥ sys i unread r h new kept u w s → Ran L S D sys i unread r h new kept u w s
ran_weaker L S D sys i unread r h new kept u w s x = record {
  tail = x.tail;
  made = x.made;
  closes = by (ended s) x.closes;
  consistent = x.consistent;
  session = x.session;
  well = x.well;
}
  where
    weaker : (k : Sort) (e : End) → FollowsBy L S ⊥ sys i unread r h x.made.run x.made.done x.made.rest k e → FollowsBy L S D sys i unread r h x.made.run x.made.done x.made.rest k e
    weaker itself e y = y
    weaker stopped e y = y
    weaker in_lines e y = y
    weaker unbegun e y = absurd y.1

    by : (o : Option End) → Closes L S ⊥ sys i unread r h x.made.run x.made.done x.made.rest x.tail o → Closes L S D sys i unread r h x.made.run x.made.done x.made.rest x.tail o
    by (Some e) y = (y.0, weaker (sort_of e) e y.1)
    by None (inl front) = inl front
    by None (inr y) = inr (y.0, y.1, weaker (sort_of y.0) y.0 y.2, y.3)

-- what it leaves is consistent
pub ran_consistent : (L S D : Type 0) (sys : System) (i : List ℕ) (unread : List ℕ) (r : Readings) (h : Contents) (new : Option Histories) (kept : Option (Name → List Snapshot)) (u w : Option (List ℕ)) (s : Status) → Ran L S D sys i unread r h new kept u w s → LeavesConsistent sys h.histories new
ran_consistent L S D sys i unread r h new kept u w s x = record { histories = (left_by x.made.done h).histories; stores = x.made.held.histories; consistent = x.consistent }

-- the sink failed in a text of the run
pub ran_text : (L S D : Type 0) (sys : System) → IsCheckedSystem sys → (i : List ℕ) (unread : List ℕ) (r : Readings) (h : Contents) (new : Option Histories) (kept : Option (Name → List Snapshot)) (u w : Option (List ℕ)) → (front : List ℕ) (x : Made sys i r h (λ k. StoresTell k new kept) u w front) → IsFrontOf front x.rest
    → Ran L S D sys i unread r h new kept u w status.Sink
ran_text L S D sys checked i unread r h new kept u w front x next = ran_of L S D sys checked i unread r h new kept u w status.Sink front x (inl next)

-- nothing was run, since the document couldn't be read, or memory ran out
pub ran_unread : (L S D : Type 0) → D → (sys : System) → IsCheckedSystem sys → (i : List ℕ) (unread : List ℕ) (r : Readings) (h : Contents) (new : Option Histories) (kept : Option (Name → List Snapshot)) (u w : Option (List ℕ)) (s : Status) → StoresTell h new kept → Writes end.System u w (ended s) → Ran L S D sys i unread r h new kept u w s
ran_unread L S D failed sys checked i unread r h new kept u w s same writes = ran_end L S D sys checked i unread r h new kept u u w end.System s writes (made_none sys i r h (λ k. StoresTell k new kept) u u same refl) (refl, failed, refl)

pub ran_starved : (L S D : Type 0) (sys : System) → IsCheckedSystem sys → (i : List ℕ) (unread : List ℕ) (r : Readings) (h : Contents) (new : Option Histories) (kept : Option (Name → List Snapshot)) (u w : Option (List ℕ)) (s : Status) → StoresTell h new kept → Writes end.Memory u w (ended s) → Ran L S D sys i unread r h new kept u w s
ran_starved L S D sys checked i unread r h new kept u w s same writes = ran_end L S D sys checked i unread r h new kept u u w end.Memory s writes (made_none sys i r h (λ k. StoresTell k new kept) u u same refl) (λ is. absurd (cc is))

-- an end that is told as itself, by the status
pub writes_so : (e : End) (s : Status) (v w : Option (List ℕ)) → Writes e v w (ended s) → (told : End) → ended s ≡ Some told → IsToldAs e told × Appends v w (as_line (end_text told))
writes_so e s v w writes told is = subst (Writes e v w) is writes

-- an end of this sort, which isn't that of want of memory, is the one that was told
pub of_sort : (k : Sort) (e : End) (s : Status) (v w : Option (List ℕ)) → (sort_of end.Memory ≡ k → ⊥) → Writes e v w (ended s) → sorted s ≡ Some k → (ended s ≡ Some e) × (sort_of e ≡ k)
of_sort k e s v w not writes sort = by (ended s) refl writes (sort)
  where
    by : (o : Option End) → ended s ≡ o → Writes e v w o → option_map sort_of o ≡ Some k → (ended s ≡ Some e) × (sort_of e ≡ k)
    by None is y same = absurd (cc same)
    by (Some told) is y same =
        let at : sort_of told ≡ k = cc same in
        let one : told ≡ e = told_as e told y.0 (λ memory. not (ap sort_of (sym memory) ∙ at)) in
        (is ∙ ap Some one, ap sort_of (sym one) ∙ at)

-- an end that is told, and isn't that of want of memory, is the one that was to be told
pub same_end : (e k : End) (s : Status) (v w : Option (List ℕ)) → (k ≡ end.Memory → ⊥) → Writes e v w (ended s) → ended s ≡ Some k → e ≡ k
same_end e k s v w not writes told = sym (told_as e k (writes_so e s v w writes k told).0 not)

-- wrong words are told as such, but for a failing sink
pub usage_told : (s : Status) (v w : Option (List ℕ)) → Writes end.Usage v w (ended s) → (s ≡ status.Usage) ⊎ (s ≡ status.Sink)
usage_told status.Usage v w x = inl refl
usage_told status.Sink v w x = inr refl
usage_told status.Memory v w (inl same, line) = absurd (cc same)
usage_told status.Memory v w (inr same, line) = absurd (cc same.1)
usage_told s v w (inl same, line) = absurd (cc same)
usage_told s v w (inr same, line) = absurd (cc same.0)

pub usage_front : (s : Status) (v w : Option (List ℕ)) → Writes end.Usage v w (ended s) → s ≡ status.Sink → AppendsFront v w (as_line (end_text end.Usage))
usage_front s v w writes is = by (subst (λ y. Writes end.Usage v w (ended y)) is writes)
  where
    by : Writes end.Usage v w None → AppendsFront v w (as_line (end_text end.Usage))
    by (told, inl same, front) = subst (λ y. AppendsFront v w (as_line (end_text y))) same front
    by (told, inr same, front) = absurd (cc same.1)

-- the status of a run that couldn't be loaded
pub load_told : (f : LoadFault) (s : Status) (v w : Option (List ℕ)) → Writes (end_of_load f) v w (ended s) → (s ≡ status_of_load f) ⊎ ((s ≡ status.Sink) ⊎ (s ≡ status.Memory))
load_told f s v w writes = by (ended s) refl writes
  where
    memory : (y : Status) → ended y ≡ Some end.Memory → y ≡ status.Memory
    memory status.Memory is = refl
    memory y is = absurd (cc is)

    system : (y : Status) → ended y ≡ Some end.System → y ≡ status.System
    system status.System is = refl
    system y is = absurd (cc is)

    of_fault : (g : LoadFault) → ended s ≡ Some (end_of_load g) → s ≡ status_of_load g
    of_fault (fault.Declaration code path) is = ended_declaration s code path is
    of_fault fault.Failed is = system s is
    of_fault fault.NoMemory is = memory s is

    by : (o : Option End) → ended s ≡ o → Writes (end_of_load f) v w o → (s ≡ status_of_load f) ⊎ ((s ≡ status.Sink) ⊎ (s ≡ status.Memory))
    by None is y = inr (inl (none_told s is))
    by (Some told) is (inl same, line) = inl (of_fault f (is ∙ ap Some same))
    by (Some told) is (inr same, line) = inr (inr (memory s (is ∙ ap Some same.0)))

-- the end of a run that couldn't be loaded comes before it, or tells want of memory
-- a front of the line of an end of which this holds, as it does of want of memory
pub early_front : (P : End → Type 0) (e : End) (s : Status) (u w : Option (List ℕ)) → P e → P end.Memory → Writes e u w (ended s) → s ≡ status.Sink → (x : End) × P x × AppendsFront u w (as_line (end_text x))
early_front P e s u w so starved writes is = by (subst (λ y. Writes e u w (ended y)) is writes)
  where
    told : (x : End) → IsToldAs e x → P x
    told x (inl same) = subst P (sym same) so
    told x (inr same) = subst P (sym same.0) starved

    by : Writes e u w None → (x : End) × P x × AppendsFront u w (as_line (end_text x))
    by y = (y.0, told y.0 y.1, y.2)

-- a status that tells that a follower is ahead, or want of memory, or a failed recorder
told_ahead : (s : Status) (app leader : Name) (tracked last : ℕ) → ended s ≡ Some (end.Ahead app leader tracked last) → s ≡ status.Ahead app leader tracked last
told_ahead (status.Ahead a l t k) app leader tracked last is =
    let first : a ≡ app = cc is in
    let second : l ≡ leader = cc is in
    let third : t ≡ tracked = cc is in
    let fourth : k ≡ last = cc is in
    (λ j. status.Ahead (first j) (second j) (third j) (fourth j))
told_ahead s app leader tracked last is = absurd (cc is)

told_memory : (s : Status) → ended s ≡ Some end.Memory → s ≡ status.Memory
told_memory status.Memory is = refl
told_memory s is = absurd (cc is)

told_recorder : (s : Status) → ended s ≡ Some end.Recorder → s ≡ status.Recorder
told_recorder status.Recorder is = refl
told_recorder s is = absurd (cc is)

-- where one is ahead the end of the run is that one, or something failed
ahead_told : (a : Ahead) (s : Status) (e : End) → AheadEnd (Some a) e → ended s ≡ Some e → AheadExactly (Some a) s
ahead_told a s (end.Ahead app leader tracked last) so is =
    let same : a ≡ record { app = app; leader = leader; tracked = tracked; last = last } = cc so in
    inl (told_ahead s app leader tracked last is ∙ sym (ap (λ (b : Ahead). status.Ahead b.app b.leader b.tracked b.last) same))
ahead_told a s end.Memory so is = inr (inl (inr (inr (told_memory s is))))
ahead_told a s end.Recorder so is = inr (inr (told_recorder s is))
ahead_told a s e so is = absurd (cc so)

-- how a run that came to its end is told, by whether one is ahead
pub ahead_exactly : (o : Option Ahead) (e : End) (s : Status) (v w : Option (List ℕ)) → AheadEnd o e → Writes e v w (ended s) → AheadExactly o s
ahead_exactly (Some a) e s v w so writes = by (ended s) refl writes
  where
    by : (t : Option End) → ended s ≡ t → Writes e v w t → AheadExactly (Some a) s
    by None is y = inr (inl (inr (inl (none_told s is))))
    by (Some told) is (inl same, line) = ahead_told a s e so (is ∙ ap Some same)
    by (Some told) is (inr same, line) = inr (inl (inr (inr (told_memory s (is ∙ ap Some same.0)))))
ahead_exactly None e s v w so writes = λ a is.
    let told : e ≡ end.Ahead a.app a.leader a.tracked a.last = same_end e (end.Ahead a.app a.leader a.tracked a.last) s v w (λ same. absurd (cc same)) writes (ap ended is) in
    let none : None ≡ Some a = subst (AheadEnd None) told so in absurd (cc none)

-- a run whose sink failed
pub ahead_cut : (o : Option Ahead) (s : Status) → IsStopped s → AheadExactly o s
ahead_cut (Some a) s so = inr (inl so)
ahead_cut None s (inl is) = λ a same. let clash : status.System ≡ status.Ahead a.app a.leader a.tracked a.last = sym is ∙ same in absurd (cc clash)
ahead_cut None s (inr (inl is)) = λ a same. let clash : status.Sink ≡ status.Ahead a.app a.leader a.tracked a.last = sym is ∙ same in absurd (cc clash)
ahead_cut None s (inr (inr is)) = λ a same. let clash : status.Memory ≡ status.Ahead a.app a.leader a.tracked a.last = sym is ∙ same in absurd (cc clash)
