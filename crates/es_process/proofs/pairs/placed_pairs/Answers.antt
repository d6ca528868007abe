use Rattle.std.proofs.Common.{◌≡◌, ◌∷◌, [], ◌++◌, slice_get, Some, sym, ap, subst, ◌∙◌, ◌<◌, ◌≤◌, length, map, arith}
use Rattle.std.proofs.lemmas.List.{take_all}
use Rattle.es_process.specs.declared.pairs.Pair.{Pair}
use Rattle.es_process.specs.Drains.{IsPairOf, names_of_pair}
use Rattle.es_process.specs.SystemRules.{app_names}
use Rattle.es_process.proofs.PairingLemmas.{are_apps, names_more, each_more}
use Rattle.es_process.proofs.pairs.placed_pairs.Goals as goal

pub loop-pair-preserved : goal.loop-pair-preserved
loop-pair-preserved c =
    let pushed : c.push.new.self.items ≡ c.loop-pair.placed.items ++ c.in_ok-pair_of.field-0 ∷ [] = (c.in_ok-push.ensures {u = tt}).items in
    let within : c.loop-pair.pair-index < length c.as_slice-pair-items.result.now = omega (arith, c.loop-pair-test.true, c.loop-pair.auto.pair-index-end) in
    record {
      found = c.loop-pair.invariant.found;
      leaders = c.loop-pair.invariant.leaders;
      named = ap (map names_of_pair) pushed
          ∙ names_more c.as_slice-pair-items.result.now c.loop-pair.placed.items c.in_ok-pair_of.field-0 c.loop-pair.pair-index c.pair-item.result within c.pair-item.is c.loop-pair.invariant.named (c.in_ok-pair_of.ensures {u = tt}).named;
      each = subst (λ (ps : _). (i : _) (p : Pair) → slice_get ps i ≡ Some p → IsPairOf c.args.sys.now (app_names c.args.sys.now) p) (sym pushed)
          (each_more c.loop-pair.placed.items c.in_ok-pair_of.field-0 c.loop-pair.invariant.each (c.in_ok-pair_of.ensures {u = tt}).placed);
    }

pub returns : goal.returns
returns c = record {
  apps = are_apps c.args.sys.now c.requires;
  all = c.loop-pair.invariant.named ∙ take_all c.loop-pair.pair-index c.as_slice-pair-items.result.now (let past : length c.as_slice-pair-items.result.now ≤ c.loop-pair.pair-index = omega (arith, c.loop-pair-test.false) in past) ∙ c.loop-pair.invariant.found;
  each = c.loop-pair.invariant.each;
}
