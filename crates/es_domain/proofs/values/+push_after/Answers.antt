use Rattle.std.proofs.Common.{rules, sym, subst}
use Rattle.es_domain.specs.inner.Evaluation.{AddsValues}
use Rattle.es_domain.proofs.ValuesLemmas.{head_assigned, rest_assigned, rest_follows, after_split, after_kinds_split, after_kinds_empty}
use Rattle.es_domain.proofs.values.+push_after.Goals as goal

pub value_after-requires : goal.value_after-requires
value_after-requires t c = head_assigned c.args.fields.now c.args.assigns.now c.args.env.now _ c.in-len1-up.len_at_least c.requires.checked

pub push_after-requires : goal.push_after-requires
push_after-requires t c = (
  search rules,
  (
    rest_assigned c.args.fields.now c.args.assigns.now c.args.env.now c.in-len1-up.len_at_least c.requires.checked,
    rest_follows c.args.after.now c.push.new.self c.args.fields.now _ c.in_ok-copy-in-len1-up.field-0 c.in_ok-value-in-len1-up.value
        c.in-len1-up.len_at_least c.requires.rising c.in_ok-copy-in-len1-up.ensures c.in_ok-push-in-len1-up.ensures.ok,
  ),
)

pub returns-in-empty-clause-kinds : goal.returns-in-empty-clause-kinds
returns-in-empty-clause-kinds t c =
    λ front wanted are were can. after_kinds_empty c.args.after.now c.args.fields.now front wanted c.in-empty.len_below are were

pub returns-in_ok-push-in-len1-up-clause-values : goal.returns-in_ok-push-in-len1-up-clause-values
returns-in_ok-push-in-len1-up-clause-values t c =
    subst (λ m. AddsValues m c.push_after.new.after c.push_after.result)
    (sym (after_split c.args.after.now c.push.new.self c.args.fields.now c.args.assigns.now c.args.env.now _ _ _ c.in_ok-copy-in-len1-up.field-0 c.in_ok-value-in-len1-up.value
    c.in-len1-up.len_at_least c.in_ok-value-in-len1-up.ensures.value c.in_ok-copy-in-len1-up.ensures c.in_ok-push-in-len1-up.ensures.ok))
    c.push_after.ensures.values

pub returns-in_ok-push-in-len1-up-clause-kinds : goal.returns-in_ok-push-in-len1-up-clause-kinds
returns-in_ok-push-in-len1-up-clause-kinds t c = λ front wanted are were can.
    after_kinds_split c.push_after.result c.args.after.now c.push.new.self c.push_after.new.after c.args.fields.now c.args.assigns.now c.args.env.now _ _ _
    c.in_ok-copy-in-len1-up.field-0 c.in_ok-value-in-len1-up.value front wanted
    c.in-len1-up.len_at_least c.in_ok-copy-in-len1-up.ensures c.in_ok-push-in-len1-up.ensures.ok are were can
    c.in_ok-value-in-len1-up.ensures.kind c.push_after.ensures.kinds
