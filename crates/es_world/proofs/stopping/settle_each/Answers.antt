use Rattle.std.proofs.Common.{rules, ◌∙◌, ap, arith, map, get_or}
use Rattle.es_world.specs.Told.{histories_in}
use Rattle.es_world.specs.declared.steps.AppHistory.{AppHistory}
use Rattle.es_world.proofs.StopLemmas.{settled-more, settled-all, settled-names, histories-settled}
use Rattle.es_world.proofs.stopping.settle_each.Goals as goal

pub loop-held-preserved : goal.loop-held-preserved
loop-held-preserved c = record {
  settled = settled-more c.args.down.now c.args.kept.now c.args.histories.now c.loop-held.histories c.loop-held.held-index (get_or c.loop-held.histories c.loop-held.held-index c.held-item.result) c.settle.new.held (omega (arith, c.loop-held-test.true)) c.loop-held.invariant.settled (ap (get_or c.loop-held.histories c.loop-held.held-index) c.held-item.is) c.settle.ensures.named c.settle.ensures.left;
  formed = search rules;
}

pub returns-clause-left : goal.returns-clause-left
returns-clause-left c =
    ap histories_in (settled-all c.args.down.now c.args.kept.now c.args.histories.now c.loop-held.histories c.loop-held.held-index (omega (arith, c.loop-held-test.false)) c.loop-held.invariant.settled) ∙ histories-settled c.args.down.now c.args.kept.now c.args.histories.now

pub returns-clause-named : goal.returns-clause-named
returns-clause-named c =
    ap (map (λ (a : AppHistory). a.app)) (settled-all c.args.down.now c.args.kept.now c.args.histories.now c.loop-held.histories c.loop-held.held-index (omega (arith, c.loop-held-test.false)) c.loop-held.invariant.settled)
    ∙ settled-names c.args.down.now c.args.kept.now c.args.histories.now
