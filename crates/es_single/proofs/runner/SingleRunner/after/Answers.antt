use Rattle.std.proofs.Common.{Some, subst, sym}
use Rattle.es_process.specs.Drains.{ArePrompted}
use Rattle.es_process.specs.Standing.{Holds, names_in}
use Rattle.es_process.specs.SystemRules.{rules_of}
use Rattle.es_process.specs.Terms.{terms}
use Rattle.es_single.proofs.RunnerLemmas.{drained_back, written_back}
use Rattle.es_single.proofs.runner.SingleRunner.after.Goals as goal

pub returns-clause-drained : goal.returns-clause-drained
returns-clause-drained g c = λ after may.
    let x = c.drain_with.ensures.drained after may in (
      x.0,
      x.1,
      λ base options s prompted u held.
          drained_back g.R.AggregateRecorder.history g.R.AggregateRecorder.stable g.R.AggregateRecorder.settled g.R.AggregateRecorder.snapshots g.R.AggregateRecorder.capacity base options (terms (rules_of c.args.self.now.sys) options) s _ c.drain_with.new.apps (Some after)
          (written_back c.args.self.now.apps.len c.drain_with.new.apps c.as_mut_slice.result.now c.args.self.now.apps.items c.drain_with.auto.apps c.as_mut_slice.ensures.value c.args.self.now.apps.ok.0)
          prompted u c.drain_with.result c.drain_with.ensures.none
          (x.2 base options s prompted u
          (subst (λ (xs : _). Holds g.R.AggregateRecorder.history g.R.AggregateRecorder.settled g.R.AggregateRecorder.snapshots g.R.AggregateRecorder.capacity base options xs (Some x.0) s) (sym c.as_mut_slice.ensures.value) held.holds)
          (subst (λ (xs : _). ArePrompted (names_in xs) c.args.self.now.prompted.items prompted) (sym c.as_mut_slice.ensures.value) held.prompts)),
    )
