use Rattle.std.proofs.Common.{Err, ap, sym, subst, ◌∙◌}
use Rattle.es_lines.specs.Requests.{Answers as Answered, request_in}
use Rattle.es_process.specs.Standing.{HoldContents}
use Rattle.es_process.proofs.HoldsLemmas.{held-contents}
use Rattle.es_single.specs.Runner.{apps_of, system_of}
use Rattle.es_top.proofs.ServesLemmas.{asked_tells, line_refused, refusal_tells, saying_stops}
use Rattle.es_top.proofs.StaysLemmas.{runner-none}
use Rattle.es_top.proofs.serve.answer_line.Goals as goal

pub answer_request-requires-clause-asked : goal.answer_request-requires-clause-asked
answer_request-requires-clause-asked g c = record { line = c.args.line.now; is = ap (λ sys. request_in sys c.args.line.now) (sym c.system.ensures) ∙ (c.in-Ok.ensures {u = tt}).request }

pub returns-in-Ok-clause-answered : goal.returns-in-Ok-clause-answered
returns-in-Ok-clause-answered g c = λ after may.
    let x = c.answer_request.ensures.answered after may in (
      x.0,
      x.1,
      λ base options s held. x.2 base options s c.args.line.now (ap (λ sys. request_in sys c.args.line.now) (sym c.system.ensures) ∙ (c.in-Ok.ensures {u = tt}).request) held,
    )

pub returns-in-Ok-clause-tells : goal.returns-in-Ok-clause-tells
returns-in-Ok-clause-tells g c = asked_tells (system_of c.args.runner.now) c.args.line.now _ c.answer_request.result (ap (λ sys. request_in sys c.args.line.now) (sym c.system.ensures) ∙ (c.in-Ok.ensures {u = tt}).request) c.answer_request.ensures.tells

pub returns-in-Err-clause-answered : goal.returns-in-Err-clause-answered
returns-in-Err-clause-answered g c = λ after may. (
  after,
  may,
  λ base options s held.
      line_refused (system_of c.args.runner.now) options s c.args.line.now _ (HoldContents g.R.AggregateRecorder.history g.R.AggregateRecorder.stable g.R.AggregateRecorder.snapshots base (apps_of c.args.runner.now)) c.in-Err.fault _ _ c.refuse.result (subst (λ sys. Answered (request_in sys c.args.line.now) (Err c.in-Err.fault)) c.system.ensures ((c.in-Err.ensures {u = tt}).request)) c.refuse.ensures.starved c.refuse.ensures.said held (held-contents _ _ _ g.met.R.AggregateRecorder.settled_is_whole _ _ base options _ _ s held.holds),
)

pub returns-in-Err-clause-tells : goal.returns-in-Err-clause-tells
returns-in-Err-clause-tells g c = refusal_tells (system_of c.args.runner.now) c.args.line.now c.in-Err.fault c.refuse.result (subst (λ sys. Answered (request_in sys c.args.line.now) (Err c.in-Err.fault)) c.system.ensures ((c.in-Err.ensures {u = tt}).request)) c.refuse.ensures.starved c.refuse.ensures.stops

pub returns-in-Err-clause-same : goal.returns-in-Err-clause-same
returns-in-Err-clause-same g c = runner-none g.R.AggregateRecorder.faults c.args.runner.now

pub returns-in-Err-clause-stops : goal.returns-in-Err-clause-stops
returns-in-Err-clause-stops g c = saying_stops c.refuse.result c.refuse.ensures.stops
