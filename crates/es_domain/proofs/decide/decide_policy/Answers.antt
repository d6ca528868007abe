use Rattle.std.proofs.Common.{◌≡◌, ◌≤◌, ◌+◌, Some, length, subst, sym, arith, rules}
use Rattle.es_model.specs.Declaration.{app_named}
use Rattle.es_domain.specs.inner.Asking.{AllMayBeAsked}
use Rattle.es_domain.specs.Decision.{notice}
use Rattle.es_domain.proofs.AskingLemmas.{all_may_be_asked, few_rules}
use Rattle.es_domain.proofs.decide.decide_policy.Goals as goal

pub run_rules-requires-clause-rules : goal.run_rules-requires-clause-rules
run_rules-requires-clause-rules g c =
    let n = notice c.args.leader.now c.args.id c.args.event.now in
    let is : app_named c.args.sys.now.apps c.args.app.now ≡ Some c.in-Some.follower.now = search rules in
    subst (AllMayBeAsked c.args.sys.now n) (sym c.as_slice-rules.ensures) (all_may_be_asked c.args.sys.now c.args.app.now c.in-Some.follower.now n c.requires.checked is c.requires.notice)

pub run_rules-requires-clause-few : goal.run_rules-requires-clause-few
run_rules-requires-clause-few g c =
    let is : app_named c.args.sys.now.apps c.args.app.now ≡ Some c.in-Some.follower.now = search rules in
    let few = few_rules c.args.sys.now c.args.app.now c.in-Some.follower.now c.requires.checked is in
    subst (λ rs. 1 + length rs ≤ 65) (sym c.as_slice-rules.ensures) (omega (arith, few))
