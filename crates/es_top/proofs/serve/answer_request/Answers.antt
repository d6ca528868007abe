use Rattle.es_process.proofs.HoldsLemmas.{rose-then}
use Rattle.es_single.specs.Runner.{system_of}
use Rattle.es_top.proofs.ServesLemmas.{line_answered}
use Rattle.es_top.proofs.StaysLemmas.{runner-then}
use Rattle.es_top.proofs.serve.answer_request.Goals as goal

pub returns-in-Ok-clause-answered : goal.returns-in-Ok-clause-answered
returns-in-Ok-clause-answered g c = λ after may.
    let y = c.reply_and_drain.ensures.replied after may in
    let x = (c.in-Ok.ensures {u = tt}).answered y.0 y.1 in (
      x.0,
      x.1,
      λ base options s line asked held.
          let z = x.2 base options s line (g.T.Sink.written c.args.out.now) asked held in
          line_answered (system_of c.args.runner.now) options s line _ _ _ c.args.request.now c.in-Ok.reply _ _ c.reply_and_drain.result _ c.line.ensures.same.system asked z (y.2 base options z.state z.prompted z.held),
    )

pub returns-in-Ok-clause-same : goal.returns-in-Ok-clause-same
returns-in-Ok-clause-same g c = runner-then c.line.ensures.same c.reply_and_drain.ensures.same

pub returns-in-Ok-clause-recorder : goal.returns-in-Ok-clause-recorder
returns-in-Ok-clause-recorder g c = λ is. rose-then _ _ _ _ c.line.ensures.same.applications.later (c.reply_and_drain.ensures.recorder is)

pub returns-in-Err-clause-answered : goal.returns-in-Err-clause-answered
returns-in-Err-clause-answered g c = λ after may.
    let x = (c.in-Err.ensures {u = tt}).answered after may in (x.0, x.1, λ base options s line asked held. x.2 base options s line (g.T.Sink.written c.args.out.now) asked held)
