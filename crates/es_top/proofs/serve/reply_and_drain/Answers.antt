use Rattle.es_process.specs.SystemRules.{rules_of}
use Rattle.es_process.specs.Terms.{terms}
use Rattle.es_process.specs.Standing.{HoldContents}
use Rattle.es_process.proofs.HoldsLemmas.{held-contents}
use Rattle.es_single.specs.Runner.{apps_of, system_of}
use Rattle.es_top.proofs.ServesLemmas.{draining_stops, replied, unreplied}
use Rattle.es_top.proofs.serve.reply_and_drain.Goals as goal

pub returns-in-Ok-clause-replied : goal.returns-in-Ok-clause-replied
returns-in-Ok-clause-replied g c = λ after may.
    let x = c.drain_after.ensures.drained after may in (
      x.0,
      x.1,
      λ base options s prompted held.
          replied (terms (rules_of (system_of c.args.runner.now)) options) s _ _ prompted c.args.reply.now (g.T.Sink.written c.args.out.now) (g.T.Sink.written c.say.new.out) c.drain_after.result (c.in-Ok.ensures {u = tt}).said
          (x.2 base options s prompted (g.T.Sink.written c.say.new.out) held),
    )

pub returns-in-Err-clause-replied : goal.returns-in-Err-clause-replied
returns-in-Err-clause-replied g c = λ after may. (
  after,
  may,
  λ base options s prompted held.
      unreplied (terms (rules_of (system_of c.args.runner.now)) options) s _ (HoldContents g.R.AggregateRecorder.history g.R.AggregateRecorder.stable g.R.AggregateRecorder.snapshots base (apps_of c.args.runner.now)) prompted c.args.reply.now _ _ c.in-Err.stop (c.in-Err.ensures {u = tt}).said (held-contents _ _ _ g.met.R.AggregateRecorder.settled_is_whole _ _ base options _ _ s held.holds),
)

pub returns-in-Ok-clause-stops : goal.returns-in-Ok-clause-stops
returns-in-Ok-clause-stops g c = draining_stops c.drain_after.result c.drain_after.ensures.stops
