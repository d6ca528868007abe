-- The loop over the lines of a run, and what it leaves where it stops.
use Rattle.std.proofs.Common.{◌≡◌, inl, inr, ◌+◌, ◌++◌, ℕ, Bool, true, false, if◌then◌else◌, List, [], ◌∷◌, Option, Result, Ok, Err, refl, sym, ap, ◌∙◌, subst, append_assoc, length-append, arith}
use Rattle.std.specs.Io.KnownBytes.{Appends}
use Rattle.es_model.specs.declared.declaration.System.{System}
use Rattle.es_model.specs.Lines.{Line, over}
use Rattle.es_decl.specs.Pairs.{leaders_in}
use Rattle.es_lines.specs.declared.ends.End.{End}
use Rattle.es_lines.specs.declared.ends.End.TheVariants as end
use Rattle.es_process.specs.declared.faults.RunFault.{RunFault}
use Rattle.es_process.specs.declared.faults.RunFault.TheVariants as fault
use Rattle.es_process.specs.Answer.{Options}
use Rattle.es_process.specs.Contents.{Contents}
use Rattle.es_process.specs.Drains.{Drains}
use Rattle.es_process.specs.Decision.{Rules}
use Rattle.es_process.specs.SingleThread.{Goes, stops_lines, up_to_stop, written_by}
use Rattle.es_process.specs.Standing.{State, Setting, stand, standing, Came, Ended, CutShort, Faulted}
use Rattle.es_process.specs.SystemRules.{rules_of}
use Rattle.es_process.specs.Terms.{Terms, terms}
use Rattle.es_process.proofs.SingleThreadLemmas.{Goes-then, Goes-end, written_by-append}
use Rattle.es_process.proofs.StandingLemmas.{appends_nothing, appends_then, Cut-none, came_cut, came_faulted}
use Rattle.es_single.specs.Answers.{at_line}
use Rattle.es_top.specs.declared.serve.Stop.{Stop}
use Rattle.es_top.specs.declared.serve.Stop.TheVariants as stop
use Rattle.es_top.specs.inner.Serves.{AnswersLine, TellsStop, TakesTurn, NoneOver, NoneStops, whole, served, Answered, Begun, Serves}

-- the lines up to the one that asks to stop, behind some of which none does
going_if : {A : Type 0} (b : Bool) (x y : A) → b ≡ false → (if b then x else y) ≡ y
going_if true x y is = absurd (cc is)
going_if false x y is = refl

stopping_if : {A : Type 0} (b : Bool) (x y : A) → b ≡ true → (if b then x else y) ≡ x
stopping_if true x y is = refl
stopping_if false x y is = absurd (cc is)

pub stop-behind : (rules : Rules) (lines rest : List Line) → NoneStops rules lines → up_to_stop rules (lines ++ rest) ≡ lines ++ up_to_stop rules rest
stop-behind rules [] rest going = refl
stop-behind rules (line ∷ lines) rest going =
    ap (λ (l : List Line). line ∷ l) (going_if (stops_lines rules line) [] (up_to_stop rules (lines ++ rest)) going.0 ∙ stop-behind rules lines rest going.1)

stop-here : (rules : Rules) (line : Line) (rest : List Line) → stops_lines rules line ≡ true → up_to_stop rules (line ∷ rest) ≡ line ∷ []
stop-here rules line rest is = ap (λ (l : List Line). line ∷ l) (stopping_if (stops_lines rules line) [] (up_to_stop rules rest) is)

pub none_stops : (rules : Rules) (lines : List Line) (line : Line) → NoneStops rules lines → stops_lines rules line ≡ false → NoneStops rules (lines ++ line ∷ [])
none_stops rules [] line none not = (not, tt)
none_stops rules (l ∷ lines) line none not = (none.0, none_stops rules lines line none.1 not)

module _ (t : Terms) where
  -- a line that was taken, and what answering it left
  pub turned : (s : State) (H : State → Type 0) (ls rest : List Line) (line : Line) (L : Contents → Type 0) (u w : Option (List ℕ)) (result : Result (Unit {0}) Stop) → (line ≡ over → ⊥) → ls ≡ line ∷ rest → TellsStop t.rules line result → AnswersLine t s H line L u w result
      → TakesTurn t s H ls rest L u w result
  turned s H ls rest line L u w (Ok x) not parts tells so = (line, parts, not, tells, so)
  turned s H ls rest line L u w (Err stop.Asked) not parts tells so = (line, parts, not, tells, so)
  turned s H ls rest line L u w (Err (stop.Fault f)) not parts tells so = inr (record { line = line; rest = rest; parts = parts; of_it = so })
  turned s H ls rest line L u w (Err stop.Sink) not parts tells so = record { line = line; rest = rest; parts = parts; of_it = so }
  turned s H ls rest line L u w (Err stop.End) not parts tells so = absurd so
  turned s H ls rest line L u w (Err stop.Over) not parts tells so = absurd so
  turned s H ls rest line L u w (Err stop.Read) not parts tells so = absurd so

pub none_over : (lines : List Line) (line : Line) → NoneOver lines → (line ≡ over → ⊥) → NoneOver (lines ++ line ∷ [])
none_over [] line none not = (not, tt)
none_over (l ∷ lines) line none not = (none.0, none_over lines line none.1 not)

module _ (t : Terms) (s : State) where
  abbrev pub begun : (H : State → Type 0) (L : Contents → Type 0) (u : Option (List ℕ)) (y : Unit {0}) (x : Drains t s H L (leaders_in t.rules.pairs) u (Ok y)) → Begun t s x.state u u
  begun H L u y x = record { steps = x.steps; goes = λ more openings. x.goes (record { openings = openings; lines = more; answered = 0 }); written = x.written }

  abbrev pub none_answered : (n : State) (H : State → Type 0) (ls : List Line) (u v : Option (List ℕ)) → Begun t s n u v → H n → Answered t s H ls ls 0 u v
  none_answered n H ls u v x held = record { taken = []; parts = refl; counted = refl; within = tt; going = tt; state = n; steps = x.steps; held = held; goes = λ more openings. x.goes more openings; written = x.written }

  module _ (H : State → Type 0) (ls rest : List Line) (count : ℕ) (u v : Option (List ℕ)) (x : Answered t s H ls rest count u v) where
    abbrev pub one_answered : (K : State → Type 0) (w : Option (List ℕ)) (L : Contents → Type 0) (coming : List Line) (y : TakesTurn t x.state K rest coming L v w (Ok tt)) → Answered t s K ls coming (count + 1) u w
    one_answered K w L coming y = record {
      taken = x.taken ++ y.0 ∷ [];
      parts = x.parts ∙ ap (λ (l : List Line). x.taken ++ l) y.1 ∙ sym (append_assoc x.taken (y.0 ∷ []) coming);
      counted = omega (arith, x.counted, length-append x.taken (y.0 ∷ []));
      within = none_over x.taken y.0 x.within y.2;
      going = none_stops t.rules x.taken y.0 x.going y.3;
      state = y.4.state;
      steps = x.steps ++ y.4.steps;
      held = y.4.held;
      goes = λ more openings.
          subst (λ l. Goes t.rules t.options openings (stand s (leaders_in t.rules.pairs) [] l 0) (stand y.4.state [] [] more (count + 1)) (x.steps ++ y.4.steps)) (sym (append_assoc x.taken (y.0 ∷ []) more))
          (Goes-then t.rules t.options openings (stand s (leaders_in t.rules.pairs) [] (x.taken ++ y.0 ∷ more) 0) (stand x.state [] [] (y.0 ∷ more) count) (stand y.4.state [] [] more (count + 1)) x.steps y.4.steps (x.goes (y.0 ∷ more) openings)
          (y.4.goes (record { openings = openings; lines = more; answered = count })));
      written = subst (Appends u w) (sym (written_by-append x.steps y.4.steps)) (appends_then u v w (written_by x.steps) (written_by y.4.steps) x.written y.4.written);
    }

    -- the lines to be answered are those that were, and what is left of the others
    pub left_lines : (others : List Line) → rest ≡ others → up_to_stop t.rules ls ≡ x.taken ++ up_to_stop t.rules others
    left_lines others is = ap (up_to_stop t.rules) (x.parts ∙ ap (λ (l : List Line). x.taken ++ l) is) ∙ stop-behind t.rules x.taken others x.going

    -- a line asked to stop, and was answered
    asked_stop : (K : State → Type 0) (w : Option (List ℕ)) (L : Contents → Type 0) (coming : List Line) → TakesTurn t x.state K rest coming L v w (Err stop.Asked) → Came t (whole t s ls) K u w (λ n. served [] (count + 1) n)
    asked_stop K w L coming y = record {
      state = y.4.state;
      steps = x.steps ++ y.4.steps;
      held = y.4.held;
      goes = λ σ.
          subst (λ l. Goes t.rules t.options σ.openings (stand s (leaders_in t.rules.pairs) [] l 0) (stand y.4.state [] [] [] (count + 1)) (x.steps ++ y.4.steps)) (sym (left_lines (y.0 ∷ coming) y.1 ∙ ap (λ (l : List Line). x.taken ++ l) (stop-here t.rules y.0 coming y.3)))
          (Goes-then t.rules t.options σ.openings (stand s (leaders_in t.rules.pairs) [] (x.taken ++ y.0 ∷ []) 0) (stand x.state [] [] (y.0 ∷ []) count) (stand y.4.state [] [] [] (count + 1)) x.steps y.4.steps (x.goes (y.0 ∷ []) σ.openings)
          (y.4.goes (record { openings = σ.openings; lines = []; answered = count })));
      written = subst (Appends u w) (sym (written_by-append x.steps y.4.steps)) (appends_then u v w (written_by x.steps) (written_by y.4.steps) x.written y.4.written);
    }

    -- the run so far, over all lines
    abbrev pub came_far : (others : List Line) → rest ≡ others → Came t (whole t s ls) (λ n. Unit {0}) u v (λ n. served (up_to_stop t.rules others) count n)
    came_far others is = record {
      state = x.state;
      steps = x.steps;
      held = tt;
      goes = λ σ. subst (λ l. Goes t.rules t.options σ.openings (stand s (leaders_in t.rules.pairs) [] l 0) (stand x.state [] [] (up_to_stop t.rules others) count) x.steps) (sym (left_lines others is)) (x.goes (up_to_stop t.rules others) σ.openings);
      written = x.written;
    }

    pub all_answered : (K : State → Type 0) (w : Option (List ℕ)) → rest ≡ [] → K x.state → w ≡ v → Came t (whole t s ls) K u w (λ n. served [] count n)
    all_answered K w is held still =
        let far = came_far [] is in
        record { state = x.state; steps = x.steps; held = held; goes = far.goes; written = subst (λ y. Appends u y (written_by x.steps)) (sym still) x.written }

    pub is_over : (L : Contents → Type 0) (w : Option (List ℕ)) → rest ≡ over ∷ [] → L x.state.contents → w ≡ v → Ended t (whole t s ls) L u w end.Over
    is_over L w is held still =
        let far = came_far (over ∷ []) is in
        record {
          steps = x.steps;
          contents = x.state.contents;
          held = held;
          run = λ σ. Goes-end t.rules t.options σ.openings (whole t s ls σ) (served (over ∷ []) count x.state σ) x.steps end.Over (far.goes σ) refl;
          made = λ σ. (far.goes σ).left;
          written = subst (λ y. Appends u y (written_by x.steps)) (sym still) x.written;
        }

    pub was_reading : (K : State → Type 0) (w : Option (List ℕ)) → K x.state → w ≡ v → Answered t s K ls rest count u w
    was_reading K w held still = record {
      taken = x.taken;
      parts = x.parts;
      counted = x.counted;
      within = x.within;
      going = x.going;
      state = x.state;
      steps = x.steps;
      held = held;
      goes = x.goes;
      written = subst (λ y. Appends u y (written_by x.steps)) (sym still) x.written;
    }

    -- nothing more was done
    idle_cut : (L : Contents → Type 0) (w : Option (List ℕ)) → L x.state.contents → w ≡ v → CutShort t (served (up_to_stop t.rules rest) count x.state) L v w []
    idle_cut L w held still = record {
      done = [];
      contents = x.state.contents;
      held = held;
      cut = λ σ. Cut-none t σ.openings (served (up_to_stop t.rules rest) count x.state σ);
      made = λ σ. refl;
      written = subst (λ y. Appends v y []) (sym still) (appends_nothing v);
    }

    -- what is answered behind a line
    abbrev behind : Line → List Line → List Line
    behind line others = if stops_lines t.rules line then [] else up_to_stop t.rules others

    -- the same line in the one setting in which it stands
    abbrev here : List Line → Setting → Setting
    here others σ = record { openings = σ.openings; lines = others; answered = count }

    cut_there : (L : Contents → Type 0) (w : Option (List ℕ)) (line : Line) (others : List Line) (front : List ℕ) → CutShort t (at_line x.state line) L v w front → CutShort t (served (line ∷ others) count x.state) L v w front
    cut_there L w line others front y = record {
      done = y.done;
      contents = y.contents;
      held = y.held;
      cut = λ σ. y.cut (here others σ);
      made = λ σ. y.made (here others σ);
      written = y.written;
    }

    ended_there : (L : Contents → Type 0) (w : Option (List ℕ)) (line : Line) (others : List Line) (e : End) → Ended t (at_line x.state line) L v w e → Ended t (served (line ∷ others) count x.state) L v w e
    ended_there L w line others e y = record {
      steps = y.steps;
      contents = y.contents;
      held = y.held;
      run = λ σ. y.run (here others σ);
      made = λ σ. y.made (here others σ);
      written = y.written;
    }

    faulted_there : (f : RunFault) (L : Contents → Type 0) (w : Option (List ℕ)) (line : Line) (others : List Line) → Faulted t (at_line x.state line) f L v w → Faulted t (served (line ∷ others) count x.state) f L v w
    faulted_there (fault.Refused app leader id recordings code rule) L w line others y = ended_there L w line others (end.Refused app leader id recordings code rule) y
    faulted_there (fault.Turns app turns) L w line others y = ended_there L w line others (end.Turns app turns) y
    faulted_there (fault.Unreadable app id) L w line others y = ended_there L w line others (end.Unreadable app id) y
    faulted_there (fault.Full app last capacity) L w line others y = ended_there L w line others (end.Full app last capacity) y
    faulted_there fault.Recorder L w line others y = cut_there L w line others [] y
    faulted_there fault.NoMemory L w line others y = cut_there L w line others [] y

    fault_stops : (K : State → Type 0) (coming : List Line) (f : RunFault) (L : Contents → Type 0) (w : Option (List ℕ)) → ((n : State) → K n → L n.contents) → TakesTurn t x.state K rest coming L v w (Err (stop.Fault f)) → Faulted t (whole t s ls) f L u w
    fault_stops K coming f L w told (inl idle) =
        subst (λ g. Faulted t (whole t s ls) g L u w) (sym idle.0)
        (came_cut t (whole t s ls) (λ n. Unit {0}) u v (λ n. served (up_to_stop t.rules rest) count n) (came_far rest refl) L w [] (idle_cut L w (told x.state idle.1.held) idle.1.unwritten))
    fault_stops K coming f L w told (inr first) =
        came_faulted t (whole t s ls) (λ n. Unit {0}) u v (λ n. served (up_to_stop t.rules (first.line ∷ first.rest)) count n) (came_far (first.line ∷ first.rest) first.parts) f L w (faulted_there f L w first.line (behind first.line first.rest) first.of_it)

    pub stopped : (K : State → Type 0) (coming : List Line) (why : Stop) (L : Contents → Type 0) (w : Option (List ℕ)) → ((n : State) → K n → L n.contents) → TakesTurn t x.state K rest coming L v w (Err why) → Serves t s K ls why count L u w
    stopped K coming stop.End L w told so = all_answered K w so.0 so.1.held so.1.unwritten
    stopped K coming stop.Asked L w told so = asked_stop K w L coming so
    stopped K coming stop.Over L w told so = is_over L w so.0 (told x.state so.1.held) so.1.unwritten
    stopped K coming (stop.Fault f) L w told so = fault_stops K coming f L w told so
    stopped K coming stop.Read L w told so = (rest, was_reading K w so.held so.unwritten)
    stopped K coming stop.Sink L w told so =
        (so.of_it.0, came_cut t (whole t s ls) (λ n. Unit {0}) u v (λ n. served (up_to_stop t.rules (so.line ∷ so.rest)) count n) (came_far (so.line ∷ so.rest) so.parts) L w so.of_it.0 (cut_there L w so.line (behind so.line so.rest) so.of_it.0 so.of_it.1))

-- the opening drain failed
abbrev at_first : List Line → Setting → Setting
at_first ls σ = record { openings = σ.openings; lines = ls; answered = 0 }

pub drain_stopped : (t : Terms) (s : State) (ls : List Line) (f : RunFault) (L : Contents → Type 0) (u : Option (List ℕ)) → Faulted t (standing s (leaders_in t.rules.pairs) []) f L u u → Faulted t (whole t s ls) f L u u
drain_stopped t s ls f L u so = by_fault f so
  where
    cut : CutShort t (standing s (leaders_in t.rules.pairs) []) L u u [] → CutShort t (whole t s ls) L u u []
    cut y = record { done = y.done; contents = y.contents; held = y.held; cut = λ σ. y.cut (at_first (up_to_stop t.rules ls) σ); made = λ σ. y.made (at_first (up_to_stop t.rules ls) σ); written = y.written }

    ended : (e : End) → Ended t (standing s (leaders_in t.rules.pairs) []) L u u e → Ended t (whole t s ls) L u u e
    ended e y = record { steps = y.steps; contents = y.contents; held = y.held; run = λ σ. y.run (at_first (up_to_stop t.rules ls) σ); made = λ σ. y.made (at_first (up_to_stop t.rules ls) σ); written = y.written }

    by_fault : (g : RunFault) → Faulted t (standing s (leaders_in t.rules.pairs) []) g L u u → Faulted t (whole t s ls) g L u u
    by_fault (fault.Refused app leader id recordings code rule) y = ended (end.Refused app leader id recordings code rule) y
    by_fault (fault.Turns app turns) y = ended (end.Turns app turns) y
    by_fault (fault.Unreadable app id) y = ended (end.Unreadable app id) y
    by_fault (fault.Full app last capacity) y = ended (end.Full app last capacity) y
    by_fault fault.Recorder y = cut y
    by_fault fault.NoMemory y = cut y

-- a turn over the same system
pub turn_same : (sys other : System) → other ≡ sys → (options : Options) (s : State) (H : State → Type 0) (lines coming : List Line) (L : Contents → Type 0) (u w : Option (List ℕ)) (result : Result (Unit {0}) Stop) → TakesTurn (terms (rules_of other) options) s H lines coming L u w result
    → TakesTurn (terms (rules_of sys) options) s H lines coming L u w result
turn_same sys other same options s H lines coming L u w result so = subst (λ y. TakesTurn (terms (rules_of y) options) s H lines coming L u w result) same so

-- and serving lines over it
pub serve_same : (sys other : System) → other ≡ sys → (options : Options) (s n : State) (H : State → Type 0) (lines : List Line) (why : Stop) (count : ℕ) (L : Contents → Type 0) (u v w : Option (List ℕ))
    → (Begun (terms (rules_of other) options) s n u v → Serves (terms (rules_of other) options) s H lines why count L u w) → Begun (terms (rules_of sys) options) s n u v → Serves (terms (rules_of sys) options) s H lines why count L u w
serve_same sys other same options s n H lines why count L u v w so = subst (λ y. Begun (terms (rules_of y) options) s n u v → Serves (terms (rules_of y) options) s H lines why count L u w) same so
