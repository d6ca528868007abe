use Rattle.std.proofs.Common.{arith, ◌∙◌, ap, subst, [], Some, Ok, Err}
use Rattle.es_process.specs.Standing.{HoldContents}
use Rattle.es_process.specs.SystemRules.{rules_of}
use Rattle.es_process.specs.Terms.{terms}
use Rattle.es_process.proofs.HoldsLemmas.{held-contents, rose-then}
use Rattle.es_io.specs.Remains.{lines_from}
use Rattle.es_single.specs.Runner.{HoldsPrompted, apps_of, system_of}
use Rattle.es_top.specs.inner.Taken.{Counted}
use Rattle.es_top.proofs.LoopLemmas.{none_answered, one_answered, stopped, turn_same}
use Rattle.es_top.proofs.StaysLemmas.{lines-none, lines-then, runner-none, runner-then}
use Rattle.es_top.proofs.TakenLemmas.{counted_none, counted_more, counted_taken}
use Rattle.es_top.proofs.serve.answer_all.Goals as goal

pub loop-count-init : goal.loop-count-init
loop-count-init g c = record {
  goes = λ b after left may. (b, after, left, may, (λ base options s n u begun held. none_answered (terms (rules_of (system_of c.args.runner.now)) options) s n _ (lines_from c.args.lines.now b) u _ begun held, counted_none b _));
  clear = c.requires.clear;
  room = omega arith;
  lines = lines-none g.S.Source.left g.S.Source.faults c.args.lines.now c.requires.ends;
  out_later = omega arith;
  ready = c.requires.ready;
  same = runner-none g.R.AggregateRecorder.faults c.args.runner.now;
}

pub loop-count-preserved : goal.loop-count-preserved
loop-count-preserved g c = record {
  goes = λ b after left may.
      let t = (c.in-Ok.ensures {u = tt}).turned b after left may in
      let p = c.loop-count.invariant.goes t.0 t.1 t.2 t.3 in (
        p.0,
        p.1,
        p.2,
        p.3,
        (
          λ base options s n u begun held.
              let so = p.4.0 base options s n u begun held in
              one_answered (terms (rules_of (system_of c.args.runner.now)) options) s _ (lines_from c.args.lines.now p.0) (lines_from c.loop-count.lines t.0) c.loop-count.count u _ so _ _ (HoldContents g.R.AggregateRecorder.history g.R.AggregateRecorder.stable g.R.AggregateRecorder.snapshots base (apps_of c.turn.new.runner)) (lines_from c.turn.new.lines b) (turn_same _ _ c.loop-count.invariant.same.system options so.state (λ next. HoldsPrompted g.R.AggregateRecorder.history g.R.AggregateRecorder.settled g.R.AggregateRecorder.snapshots g.R.AggregateRecorder.capacity base options c.turn.new.runner (Some after) next []) (lines_from c.loop-count.lines t.0) (lines_from c.turn.new.lines b) (HoldContents g.R.AggregateRecorder.history g.R.AggregateRecorder.stable g.R.AggregateRecorder.snapshots base (apps_of c.turn.new.runner)) (g.T.Sink.written c.loop-count.out) (g.T.Sink.written c.turn.new.out) (Ok tt) (t.4.0 base options so.state so.held)),
          counted_more p.0 c.loop-count.count t.0 _ _ p.4.1 b t.4.1,
        ),
      );
  clear = (c.in-Ok.ensures {u = tt}).clear;
  room = omega (arith, (c.in-Ok.ensures {u = tt}).room, c.loop-count.invariant.room);
  lines = lines-then c.loop-count.invariant.lines c.turn.ensures.lines;
  out_later = omega (arith, c.turn.ensures.out_later, c.loop-count.invariant.out_later);
  ready = (c.in-Ok.ensures {u = tt}).ready;
  same = runner-then c.loop-count.invariant.same c.turn.ensures.same;
}

pub returns-in-Err-clause-answered : goal.returns-in-Err-clause-answered
returns-in-Err-clause-answered g c = λ b after left may.
    let t = (c.in-Err.ensures {u = tt}).turned b after left may in
    let p = c.loop-count.invariant.goes t.0 t.1 t.2 t.3 in (
      p.0,
      p.1,
      p.2,
      p.3,
      (
        λ base options s n u begun held.
            let so = p.4.0 base options s n u begun held in
            stopped (terms (rules_of (system_of c.args.runner.now)) options) s _ (lines_from c.args.lines.now p.0) (lines_from c.loop-count.lines t.0) c.loop-count.count u _ so _ (lines_from c.turn.new.lines b) c.in-Err.stop _ _
            (λ m h. held-contents _ _ _ g.met.R.AggregateRecorder.settled_is_whole _ _ base options _ _ m h.holds) (turn_same _ _ c.loop-count.invariant.same.system options so.state (λ next. HoldsPrompted g.R.AggregateRecorder.history g.R.AggregateRecorder.settled g.R.AggregateRecorder.snapshots g.R.AggregateRecorder.capacity base options c.turn.new.runner (Some after) next []) (lines_from c.loop-count.lines t.0) (lines_from c.turn.new.lines b) (HoldContents g.R.AggregateRecorder.history g.R.AggregateRecorder.stable g.R.AggregateRecorder.snapshots base (apps_of c.turn.new.runner)) (g.T.Sink.written c.loop-count.out) (g.T.Sink.written c.turn.new.out) (Err c.in-Err.stop) (t.4.0 base options so.state so.held)),
        λ is. counted_taken p.0 c.loop-count.count t.0 (subst (λ e. Counted p.0 c.loop-count.count t.0 e) (c.turn.ensures.not_ended (c.in-Err.is ∙ ap Err is)) p.4.1) b (t.4.2 (ap Err is)),
      ),
    )

pub returns-in-Err-clause-same : goal.returns-in-Err-clause-same
returns-in-Err-clause-same g c = runner-then c.loop-count.invariant.same c.turn.ensures.same

pub returns-in-Err-clause-lines : goal.returns-in-Err-clause-lines
returns-in-Err-clause-lines g c = lines-then c.loop-count.invariant.lines c.turn.ensures.lines

pub returns-in-Err-clause-recorder : goal.returns-in-Err-clause-recorder
returns-in-Err-clause-recorder g c = λ is. rose-then _ _ _ _ c.loop-count.invariant.same.applications.later (c.turn.ensures.recorder (c.in-Err.is ∙ ap Err is))
