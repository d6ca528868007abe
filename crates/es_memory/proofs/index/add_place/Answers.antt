use Rattle.std.proofs.Common.{arith}
use Rattle.std.specs.BTreeMap.Entry.{map_with_value}
use Rattle.es_memory.proofs.IndexLemmas.{at_id-added}
use Rattle.es_memory.proofs.index.add_place.Goals as goal

pub returns : goal.returns
returns c =
    let added = at_id-added c.args.ids.now (map_with_value c.in_ok-ids.field-0 c.push.new.self) c.args.id c.or_default.result.now c.push.new.self c.args.place _ _ c.in_ok-ids.ensures.value c.or_default.ensures.value c.in_ok-push.ensures.items (c.in_ok-ids.ensures.update.0 c.push.new.self) in
    λ q. grind (arith, added q)
