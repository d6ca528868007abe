-- The run over an opening: at once the end that a follower is ahead there, or the run from the start.
use Rattle.std.proofs.Common.{◌≡◌, ℕ, List, [], Option, Some, None, refl, sym, ap, ◌∙◌, subst}
use Rattle.es_model.specs.Lines.{Line}
use Rattle.es_model.specs.Values.{Name}
use Rattle.es_io.specs.Readings.{Readings}
use Rattle.es_lines.specs.declared.ends.End.TheVariants.{Ok}
use Rattle.es_process.specs.declared.ahead.Ahead.{Ahead}
use Rattle.es_process.specs.Answer.{Options}
use Rattle.es_process.specs.Contents.{Contents}
use Rattle.es_process.specs.Decision.{Rules}
use Rattle.es_process.specs.Reached.{ahead}
use Rattle.es_process.specs.SingleThread.{Run, IsRun, IsRunOver, IsRunUnless, HasOneRunOver, start, ahead_end}
use Rattle.es_process.proofs.DrainLemmas.{run-exists}

module _ (rules : Rules) (options : Options) (opening : Contents) (readings : Readings) (lines : List Line) where
  -- where nobody is ahead, it is the run from the start
  pub run_of_none : (run : Run) → ahead rules.pairs opening.histories ≡ None → IsRunOver rules options opening readings lines run → IsRun rules options opening.histories (start rules opening readings lines) run
  run_of_none run none is = subst (λ a. IsRunUnless a rules options opening readings lines run) none is

  pub none_of_run : (run : Run) → ahead rules.pairs opening.histories ≡ None → IsRun rules options opening.histories (start rules opening readings lines) run → IsRunOver rules options opening readings lines run
  none_of_run run none is = subst (λ a. IsRunUnless a rules options opening readings lines run) (sym none) is

  -- where a follower is ahead, it ends at once
  pub run_of_ahead : (run : Run) (a : Ahead) → ahead rules.pairs opening.histories ≡ Some a → IsRunOver rules options opening readings lines run → run ≡ record { steps = []; end = ahead_end a }
  run_of_ahead run a some is = subst (λ o. IsRunUnless o rules options opening readings lines run) some is

  pub ahead_of_run : (run : Run) (a : Ahead) → ahead rules.pairs opening.histories ≡ Some a → run ≡ record { steps = []; end = ahead_end a } → IsRunOver rules options opening readings lines run
  ahead_of_run run a some is = subst (λ o. IsRunUnless o rules options opening readings lines run) (sym some) is

  none_where_ok : (o : Option Ahead) (run : Run) (added : List (Name × ℕ)) (count : ℕ) → IsRunUnless o rules options opening readings lines run → run.end ≡ Ok added count → o ≡ None
  none_where_ok None run added count is ok = refl
  none_where_ok (Some a) run added count is ok = (let clash : ahead_end a ≡ Ok added count = sym (ap (λ (d : Run). d.end) is) ∙ ok in absurd (cc clash))

  -- a run that ends well has nobody ahead
  pub ok_none : (run : Run) (added : List (Name × ℕ)) (count : ℕ) → IsRunOver rules options opening readings lines run → run.end ≡ Ok added count → ahead rules.pairs opening.histories ≡ None
  ok_none run added count is ok = none_where_ok (ahead rules.pairs opening.histories) run added count is ok

  one_over : (o : Option Ahead) → ahead rules.pairs opening.histories ≡ o → HasOneRunOver rules options opening readings lines
  one_over None none =
      let one = run-exists rules options opening.histories opening readings lines in record {
        run = one.run;
        is = none_of_run one.run none one.is;
        only = λ other is. one.only other (run_of_none other none is);
      }
  one_over (Some a) some = record {
    run = record { steps = []; end = ahead_end a };
    is = ahead_of_run (record { steps = []; end = ahead_end a }) a some refl;
    only = λ other is. run_of_ahead other a some is;
  }

  -- there is exactly one run over an opening
  pub one_run_over : HasOneRunOver rules options opening readings lines
  one_run_over = one_over (ahead rules.pairs opening.histories) refl
