use Rattle.std.proofs.Common.{rules, ◌≡◌, ◌≤◌, ◌^◌, ◌+◌, ◌-◌, ◌*◌, ◌∙◌, length, take, drop, Ok, Err, subst, arith}
use Rattle.es_domain.specs.Decision.{notice, rules_from}
use Rattle.es_domain.specs.inner.Overlay.{AreBelow}
use Rattle.es_domain.proofs.OverlayLemmas.{are_below_more, told_then}
use Rattle.es_domain.proofs.RunLemmas.{Follows, rest_fails, rest_few, rest_may, rule_fails, rule_goes, rule_stops}
use Rattle.es_domain.proofs.rules.+run_rules.Goals as goal

pub run_rule-requires-clause-changed : goal.run_rule-requires-clause-changed
run_rule-requires-clause-changed g t c =
    let few = c.requires.few in
    are_below_more c.args.sys.now (2 ^ 62 + 8 * c.args.number) (2 ^ 63 - 9) c.args.changed (omega (arith, few)) c.requires.changed

pub returns-in-Err-clause-decision : goal.returns-in-Err-clause-decision
returns-in-Err-clause-decision g t c =
    let n = notice c.args.leader.now c.args.id c.args.event.now in
    let rest = take (length c.args.rules.now - 1) (drop 1 c.args.rules.now) in
    rule_fails c.args.sys.now n c.args.at c.args.number (g.A.Aggregates.told c.run_rule.new.reader) c.args.rules.now c.rule-item.result c.args.changed c.run_rule.new.changed c.in-Err.fault c.in-len1-up.len_at_least
    (subst (λ r. Follows c.args.sys.now n c.args.at c.args.number (g.A.Aggregates.told c.run_rule.new.reader) rest r c.args.changed c.run_rule.new.changed (Err c.in-Err.fault)) c.rule-item.is
    (c.in-Err.ensures.step c.args.number (rules_from c.args.sys.now n c.args.at (c.args.number + 1) rest)))

pub returns-in-Stops-clause-decision : goal.returns-in-Stops-clause-decision
returns-in-Stops-clause-decision g t c =
    let n = notice c.args.leader.now c.args.id c.args.event.now in
    let rest = take (length c.args.rules.now - 1) (drop 1 c.args.rules.now) in
    rule_stops c.args.sys.now n c.args.at c.args.number (g.A.Aggregates.told c.run_rule.new.reader) c.args.rules.now c.rule-item.result c.args.changed c.run_rule.new.changed c.in-Ok.step c.in-Stops.code c.in-len1-up.len_at_least c.in-Stops.is
    (subst (λ r. Follows c.args.sys.now n c.args.at c.args.number (g.A.Aggregates.told c.run_rule.new.reader) rest r c.args.changed c.run_rule.new.changed (Ok c.in-Ok.step)) c.rule-item.is
    (c.in-Ok.ensures.step c.args.number (rules_from c.args.sys.now n c.args.at (c.args.number + 1) rest)))

pub run_rules-after-requires : goal.run_rules-after-requires
run_rules-after-requires g t c κs within =
    let n = notice c.args.leader.now c.args.id c.args.event.now in
    let large : 2 ^ 62 ≤ 2 ^ 62 + 8 * c.args.number = omega arith in
    let next : 2 ^ 62 + 8 * c.args.number + 8 ≡ 2 ^ 62 + 8 * (c.args.number + 1) = omega arith in (
      search rules,
      (
        within,
        (
          c.requires.checked,
          (
            c.in-Ok.ensures.same.system ∙ c.requires.system,
            (
              c.requires.id,
              (
                c.requires.version,
                (
                  rest_may c.args.sys.now n c.args.rules.now c.in-len1-up.len_at_least c.requires.rules,
                  (
                    rest_few c.args.number c.args.rules.now c.in-len1-up.len_at_least c.requires.few,
                    subst (λ (limit : _). AreBelow c.args.sys.now limit c.run_rule.new.changed) next (c.in-Ok.ensures.below (2 ^ 62 + 8 * c.args.number) large c.requires.changed),
                  ),
                ),
              ),
            ),
          ),
        ),
      ),
    )

pub returns-in-Err-after-clause-decision : goal.returns-in-Err-after-clause-decision
returns-in-Err-after-clause-decision g t c =
    let n = notice c.args.leader.now c.args.id c.args.event.now in
    let rest = take (length c.args.rules.now - 1) (drop 1 c.args.rules.now) in
    let follows = subst (λ r. Follows c.args.sys.now n c.args.at c.args.number (g.A.Aggregates.told c.run_rule.new.reader) rest r c.args.changed c.run_rule.new.changed (Ok c.in-Ok.step)) c.rule-item.is
    (c.in-Ok.ensures.step c.args.number (rules_from c.args.sys.now n c.args.at (c.args.number + 1) rest)) in
    rest_fails c.args.sys.now n c.args.at c.args.number (g.A.Aggregates.told c.run_rule.new.reader) (g.A.Aggregates.told c.run_rules-after.new.reader) c.args.rules.now c.rule-item.result c.args.changed c.run_rule.new.changed
    c.in-Ok.step c.in-Goes.events c.in-Err-after.fault (c.in-len1-up.len_at_least, c.in-Goes.is, c.in-Err-after.ensures.tells, follows, c.in-Err-after.ensures.decision)

pub returns-in-Err-after-clause-tells : goal.returns-in-Err-after-clause-tells
returns-in-Err-after-clause-tells g t c =
    told_then (g.A.Aggregates.told c.args.reader.now) (g.A.Aggregates.told c.run_rule.new.reader) (g.A.Aggregates.told c.run_rules-after.new.reader) c.in-Ok.ensures.tells c.in-Err-after.ensures.tells

pub returns-in-Ok-joined-clause-decision : goal.returns-in-Ok-joined-clause-decision
returns-in-Ok-joined-clause-decision g t c =
    let n = notice c.args.leader.now c.args.id c.args.event.now in
    let rest = take (length c.args.rules.now - 1) (drop 1 c.args.rules.now) in
    let follows = subst (λ r. Follows c.args.sys.now n c.args.at c.args.number (g.A.Aggregates.told c.run_rule.new.reader) rest r c.args.changed c.run_rule.new.changed (Ok c.in-Ok.step)) c.rule-item.is
    (c.in-Ok.ensures.step c.args.number (rules_from c.args.sys.now n c.args.at (c.args.number + 1) rest)) in
    rule_goes c.args.sys.now n c.args.at c.args.number (g.A.Aggregates.told c.run_rule.new.reader) (g.A.Aggregates.told c.run_rules-after.new.reader) c.args.rules.now c.rule-item.result c.args.changed c.run_rule.new.changed
    c.in-Ok.step c.in-Goes.events c.in-Ok-after.decision c.in-Ok-joined.decision (c.in-len1-up.len_at_least, c.in-Goes.is, c.in-Ok-after.ensures.tells, follows, c.in-Ok-after.ensures.decision) c.in-Ok-joined.ensures.joined

pub returns-in-Ok-joined-clause-tells : goal.returns-in-Ok-joined-clause-tells
returns-in-Ok-joined-clause-tells g t c =
    told_then (g.A.Aggregates.told c.args.reader.now) (g.A.Aggregates.told c.run_rule.new.reader) (g.A.Aggregates.told c.run_rules-after.new.reader) c.in-Ok.ensures.tells c.in-Ok-after.ensures.tells

pub returns-in-Err-joined-clause-tells : goal.returns-in-Err-joined-clause-tells
returns-in-Err-joined-clause-tells g t c =
    told_then (g.A.Aggregates.told c.args.reader.now) (g.A.Aggregates.told c.run_rule.new.reader) (g.A.Aggregates.told c.run_rules-after.new.reader) c.in-Ok.ensures.tells c.in-Ok-after.ensures.tells
