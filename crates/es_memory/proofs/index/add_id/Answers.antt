use Rattle.std.proofs.Common.{arith, ◌∙◌}
use Rattle.std.specs.BTreeMap.Entry.{map_with_value}
use Rattle.es_memory.proofs.IndexLemmas.{at_name-added}
use Rattle.es_memory.proofs.index.add_id.Goals as goal

pub returns : goal.returns
returns c =
    let added = at_name-added c.args.leaders.now (map_with_value c.in_ok-leaders.field-0 c.push.new.self) c.in_ok-key.key c.args.leader.now c.or_default.result.now c.push.new.self c.args.id _ _ ((c.in_ok-key.ensures {u = tt}).ok ∙ c.as_str.ensures) c.in_ok-leaders.ensures.value c.or_default.ensures.value c.in_ok-push.ensures.items (c.in_ok-leaders.ensures.update.0 c.push.new.self) in
    λ q. grind (arith, added q)
