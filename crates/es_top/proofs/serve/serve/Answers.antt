use Rattle.std.proofs.Common.{[], Some}
use Rattle.es_io.specs.Remains.{lines_from}
use Rattle.es_process.specs.Standing.{HoldContents}
use Rattle.es_process.specs.SystemRules.{rules_of}
use Rattle.es_process.specs.Terms.{terms}
use Rattle.es_process.proofs.HoldsLemmas.{rose-then}
use Rattle.es_single.specs.Runner.{HoldsPrompted, apps_of, system_of}
use Rattle.es_top.proofs.LoopLemmas.{begun, drain_stopped, serve_same}
use Rattle.es_top.proofs.StaysLemmas.{lines-none, runner-then}
use Rattle.es_top.proofs.serve.serve.Goals as goal

pub returns-in-Ok-clause-served : goal.returns-in-Ok-clause-served
returns-in-Ok-clause-served g c = λ b after left may.
    let a = c.answer_all.ensures.answered b after left may in
    let d = (c.in-Ok.ensures {u = tt}).drained a.1 a.3 in (
      a.0,
      d.0,
      a.2,
      d.1,
      (
        λ base options s held.
            let x = d.2 base options s (g.T.Sink.written c.args.out.now) held in
            serve_same (system_of c.args.runner.now) _ c.first.ensures.same.system options s x.state (λ next. HoldsPrompted g.R.AggregateRecorder.history g.R.AggregateRecorder.settled g.R.AggregateRecorder.snapshots g.R.AggregateRecorder.capacity base options c.answer_all.new.runner (Some after) next []) (lines_from c.args.lines.now a.0) c.answer_all.result.0 c.answer_all.result.1 (HoldContents g.R.AggregateRecorder.history g.R.AggregateRecorder.stable g.R.AggregateRecorder.snapshots base (apps_of c.answer_all.new.runner)) (g.T.Sink.written c.args.out.now) (g.T.Sink.written c.args.out.now) (g.T.Sink.written c.answer_all.new.out)
            (λ y. a.4.0 base options s x.state (g.T.Sink.written c.args.out.now) y x.held) (begun (terms (rules_of (system_of c.args.runner.now)) options) s _ (HoldContents g.R.AggregateRecorder.history g.R.AggregateRecorder.stable g.R.AggregateRecorder.snapshots base (apps_of c.first.new.self)) (g.T.Sink.written c.args.out.now) tt x),
        a.4.1,
      ),
    )

pub returns-in-Ok-clause-same : goal.returns-in-Ok-clause-same
returns-in-Ok-clause-same g c = runner-then c.first.ensures.same c.answer_all.ensures.same

pub returns-in-Ok-clause-recorder : goal.returns-in-Ok-clause-recorder
returns-in-Ok-clause-recorder g c = λ is. rose-then _ _ _ _ c.first.ensures.same.applications.later (c.answer_all.ensures.recorder is)

pub returns-in-Err-clause-served : goal.returns-in-Err-clause-served
returns-in-Err-clause-served g c = λ b after left may.
    let d = (c.in-Err.ensures {u = tt}).drained after may in (
      b,
      d.0,
      left,
      d.1,
      (
        λ base options s held.
            drain_stopped (terms (rules_of (system_of c.args.runner.now)) options) s (lines_from c.args.lines.now b) c.in-Err.fault _ _ (d.2 base options s (g.T.Sink.written c.args.out.now) held),
        λ is. absurd (cc is),
      ),
    )

pub returns-in-Err-clause-lines : goal.returns-in-Err-clause-lines
returns-in-Err-clause-lines g c = lines-none g.S.Source.left g.S.Source.faults c.args.lines.now c.requires.ends
