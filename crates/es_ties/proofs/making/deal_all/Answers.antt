use Rattle.std.proofs.Common.{rules, arith, length, ◌≡◌}
use Rattle.es_ties.proofs.SeenLemmas.{pens_more}
use Rattle.es_ties.proofs.making.deal_all.Goals as goal

pub loop-log-preserved : goal.loop-log-preserved
loop-log-preserved g c = record {
  dealer = c.deal.ensures.dealer;
  pens = (
      let len : length c.loop-log.pens.items ≡ c.loop-log.log = grind (arith, c.loop-log.invariant.count) in
      pens_more _ _ c.loop-log.pens.items c.push.new.self.items c.deal.result c.loop-log.log (c.in_ok-push.ensures {u = tt}).items len c.loop-log.invariant.pens c.deal.ensures.pen);
  count = search rules;
}
