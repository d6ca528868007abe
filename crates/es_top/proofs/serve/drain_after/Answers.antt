use Rattle.es_process.specs.SystemRules.{rules_of}
use Rattle.es_process.specs.Terms.{terms}
use Rattle.es_single.specs.Runner.{system_of}
use Rattle.es_top.proofs.ServesLemmas.{drained, drain_failed}
use Rattle.es_top.proofs.serve.drain_after.Goals as goal

pub returns-in-Ok-clause-drained : goal.returns-in-Ok-clause-drained
returns-in-Ok-clause-drained g c = λ after may.
    let x = (c.in-Ok.ensures {u = tt}).drained after may in (
      x.0,
      x.1,
      λ base options s prompted u held.
          drained (terms (rules_of (system_of c.args.runner.now)) options) s _ _ prompted u tt (x.2 base options s prompted u held) c.go_on.result c.go_on.ensures.onward,
    )

pub returns-in-Err-clause-drained : goal.returns-in-Err-clause-drained
returns-in-Err-clause-drained g c = λ after may.
    let x = (c.in-Err.ensures {u = tt}).drained after may in (
      x.0,
      x.1,
      λ base options s prompted u held.
          drain_failed (terms (rules_of (system_of c.args.runner.now)) options) s (λ n. Unit {0}) _ prompted u c.in-Err.fault (x.2 base options s prompted u held),
    )
