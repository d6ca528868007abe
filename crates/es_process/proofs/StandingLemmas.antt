-- Parts of a run, one after another.
use Rattle.std.proofs.Common.{◌≡◌, ℕ, List, [], ◌∷◌, ◌++◌, Option, Some, None, refl, sym, ap, ◌∙◌, subst, append-nil, append_assoc}
use Rattle.std.specs.Io.KnownBytes.{Appends}
use Rattle.es_model.specs.declared.event.Recording.{Recording}
use Rattle.es_model.specs.declared.snapshot.Snapshot.{Snapshot}
use Rattle.es_model.specs.History.{Histories}
use Rattle.es_model.specs.Values.{Name}
use Rattle.es_lines.specs.declared.ends.End.{End}
use Rattle.es_lines.specs.declared.ends.End.TheVariants.{Refused, Turns, Unreadable, Full}
use Rattle.es_process.specs.declared.faults.RunFault.{RunFault}
use Rattle.es_process.specs.declared.faults.RunFault.TheVariants as fault
use Rattle.es_process.specs.Contents.{Contents}
use Rattle.es_process.specs.SingleThread.{Place, Outcome, goes_on, turn_at, Step, records, snaps, writes, snaps_each, Run, Goes, steps_of, left_by, written_by}
use Rattle.es_process.specs.Standing.{State, Places, standing, Came, Ended, CutShort, Faulted, Cut, IsFrontOf}
use Rattle.es_process.specs.Terms.{Terms}
use Rattle.es_process.proofs.SingleThreadLemmas.{Goes-none, Goes-one, Goes-then, Goes-run, Goes-after, left_by-append, written_by-append, written_by-snaps}

-- bytes that were written one after another
pub appends_nothing : (u : Option (List ℕ)) → Appends u u []
appends_nothing None = tt
appends_nothing (Some xs) = sym (append-nil xs)

pub appends_then : (u v w : Option (List ℕ)) (a b : List ℕ) → Appends u v a → Appends v w b → Appends u w (a ++ b)
appends_then None v w a b x y = tt
appends_then (Some xs) None w a b x y = absurd x
appends_then (Some xs) (Some ys) None a b x y = y
appends_then (Some xs) (Some ys) (Some zs) a b x y = y ∙ ap (λ (t : List ℕ). t ++ b) x ∙ append_assoc xs a b

-- nothing is a front of every text
pub front_none : (steps : List Step) → IsFrontOf [] steps
front_none [] = refl
front_none (records app r ∷ rest) = refl
front_none (snaps app s ∷ rest) = refl
front_none (writes t ∷ rest) = (_, refl)

-- the first of some snapshots are put before the others
snaps_each-append : (app : Name) (front rest : List Snapshot) → snaps_each app (front ++ rest) ≡ snaps_each app front ++ snaps_each app rest
snaps_each-append app [] rest = refl
snaps_each-append app (s ∷ front) rest = ap (λ (x : List Step). snaps app s ∷ x) (snaps_each-append app front rest)

-- a recording and its snapshots, and what is done after them, in two parts
pub adds-parts : (app : Name) (r : Recording) (ss front rest : List Snapshot) (behind : List Step) → ss ≡ front ++ rest → (records app r ∷ snaps_each app ss) ++ behind ≡ (records app r ∷ snaps_each app front) ++ (snaps_each app rest ++ behind)
adds-parts app r ss front rest behind parts =
    ap (λ (x : List Snapshot). (records app r ∷ snaps_each app x) ++ behind) parts
    ∙ ap (λ (x : List Step). (records app r ∷ x) ++ behind) (snaps_each-append app front rest)
    ∙ append_assoc (records app r ∷ snaps_each app front) (snaps_each app rest) behind

-- they write nothing, and then what the others do
pub written_by-added : (app : Name) (r : Recording) (ss : List Snapshot) (behind : List Step) → written_by ((records app r ∷ snaps_each app ss) ++ behind) ≡ written_by behind
written_by-added app r ss behind = written_by-append (records app r ∷ snaps_each app ss) behind ∙ ap (λ (x : List ℕ). x ++ written_by behind) (written_by-snaps app ss)

module _ (t : Terms) where
  pub Cut-none : (openings : Histories) (at : Place) → Cut t openings at [] []
  Cut-none openings at = record { of_run = λ run is. record { rest = run.steps; parts = refl; next = front_none run.steps } }

  pub Cut-after : (openings : Histories) (at now : Place) (steps done : List Step) (front : List ℕ) → Goes t.rules t.options openings at now steps → Cut t openings now done front → Cut t openings at (steps ++ done) front
  Cut-after openings at now steps done front so cut = record {
    of_run = λ run is.
        let later = Goes-after t.rules t.options openings at now steps run so is in
        let first = cut.of_run later.run later.is in
        record {
          rest = first.rest;
          parts = ap (λ (r : Run). r.steps) later.parts ∙ ap (λ (x : List Step). steps ++ x) first.parts ∙ sym (append_assoc steps done first.rest);
          next = first.next;
        };
  }

  -- inside a turn
  pub Cut-turn : (openings : Histories) (at next : Place) (outcome : Outcome) (done rest : List Step) (front : List ℕ) → turn_at t.rules t.options openings at ≡ goes_on outcome next → steps_of outcome ≡ done ++ rest
      → ((more : List Step) → IsFrontOf front (rest ++ more)) → Cut t openings at done front
  Cut-turn openings at next outcome done rest front turn parts fits = record {
    of_run = λ run is.
        let later = Goes-after t.rules t.options openings at next (steps_of outcome) run (Goes-one t.rules t.options openings at next outcome turn) is in
        record {
          rest = rest ++ later.run.steps;
          parts = ap (λ (r : Run). r.steps) later.parts ∙ ap (λ (x : List Step). x ++ later.run.steps) parts ∙ append_assoc done rest later.run.steps;
          next = fits later.run.steps;
        };
  }

  -- one part of a run, and then another
  module _ (at : Places) (H : State → Type 0) (u v : Option (List ℕ)) (mid : State → Places) (x : Came t at H u v mid) where
    pub came_then : (K : State → Type 0) (w : Option (List ℕ)) (next : State → Places) → Came t (mid x.state) K v w next → Came t at K u w next
    came_then K w next y = record {
      state = y.state;
      steps = x.steps ++ y.steps;
      held = y.held;
      goes = λ σ. Goes-then t.rules t.options σ.openings (at σ) (mid x.state σ) (next y.state σ) x.steps y.steps (x.goes σ) (y.goes σ);
      written = subst (Appends u w) (sym (written_by-append x.steps y.steps)) (appends_then u v w (written_by x.steps) (written_by y.steps) x.written y.written);
    }

    pub came_ended : (L : Contents → Type 0) (w : Option (List ℕ)) (end : End) → Ended t (mid x.state) L v w end → Ended t at L u w end
    came_ended L w end y = record {
      steps = x.steps ++ y.steps;
      contents = y.contents;
      held = y.held;
      run = λ σ. Goes-run t.rules t.options σ.openings (at σ) (mid x.state σ) x.steps (record { steps = y.steps; end = end }) (x.goes σ) (y.run σ);
      made = λ σ. left_by-append x.steps y.steps (at σ).contents ∙ ap (left_by y.steps) (x.goes σ).left ∙ y.made σ;
      written = subst (Appends u w) (sym (written_by-append x.steps y.steps)) (appends_then u v w (written_by x.steps) (written_by y.steps) x.written y.written);
    }

    pub came_cut : (L : Contents → Type 0) (w : Option (List ℕ)) (front : List ℕ) → CutShort t (mid x.state) L v w front → CutShort t at L u w front
    came_cut L w front y = record {
      done = x.steps ++ y.done;
      contents = y.contents;
      held = y.held;
      cut = λ σ. Cut-after σ.openings (at σ) (mid x.state σ) x.steps y.done front (x.goes σ) (y.cut σ);
      made = λ σ. left_by-append x.steps y.done (at σ).contents ∙ ap (left_by y.done) (x.goes σ).left ∙ y.made σ;
      written = subst (Appends u w) (sym (append_assoc (written_by x.steps) (written_by y.done) front) ∙ ap (λ (t : List ℕ). t ++ front) (sym (written_by-append x.steps y.done)))
          (appends_then u v w (written_by x.steps) (written_by y.done ++ front) x.written y.written);
    }

    pub came_faulted : (f : RunFault) (L : Contents → Type 0) (w : Option (List ℕ)) → Faulted t (mid x.state) f L v w → Faulted t at f L u w
    came_faulted (fault.Refused app leader id recordings code rule) L w y = came_ended L w (Refused app leader id recordings code rule) y
    came_faulted (fault.Turns app turns) L w y = came_ended L w (Turns app turns) y
    came_faulted (fault.Unreadable app id) L w y = came_ended L w (Unreadable app id) y
    came_faulted (fault.Full app last capacity) L w y = came_ended L w (Full app last capacity) y
    came_faulted fault.Recorder L w y = came_cut L w [] y
    came_faulted fault.NoMemory L w y = came_cut L w [] y

  -- nothing is done
  pub stays : (s : State) (prompted : List Name) (pending : List (Name × Name)) (H : State → Type 0) (u : Option (List ℕ)) → H s → Came t (standing s prompted pending) H u u (λ next. standing next prompted pending)
  stays s prompted pending H u held = record { state = s; steps = []; held = held; goes = λ σ. Goes-none t.rules t.options σ.openings (standing s prompted pending σ); written = appends_nothing u }

  pub cut_here : (s : State) (prompted : List Name) (pending : List (Name × Name)) (L : Contents → Type 0) (u : Option (List ℕ)) → L s.contents → CutShort t (standing s prompted pending) L u u []
  cut_here s prompted pending L u held = record {
    done = [];
    contents = s.contents;
    held = held;
    cut = λ σ. Cut-none σ.openings (standing s prompted pending σ);
    made = λ σ. refl;
    written = appends_nothing u;
  }
