use Rattle.std.proofs.Common.{rules, sym, subst}
use Rattle.es_domain.specs.inner.Evaluation.{AddsValues}
use Rattle.es_domain.proofs.ValuesLemmas.{head_checked, rest_checked, rest_follows, values_split, kinds_split, kinds_empty}
use Rattle.es_domain.proofs.values.+push_values.Goals as goal

pub value_of-requires : goal.value_of-requires
value_of-requires t c = head_checked c.args.assigns.now c.args.env.now _ c.in-len1-up.len_at_least c.requires.checked

pub push_values-requires : goal.push_values-requires
push_values-requires t c = (
  search rules,
  (
    rest_checked c.args.assigns.now c.args.env.now c.in-len1-up.len_at_least c.requires.checked,
    rest_follows c.args.fields.now c.push.new.self c.args.assigns.now _ c.in_ok-copy-in-len1-up.field-0 c.in_ok-value-in-len1-up.value
        c.in-len1-up.len_at_least c.requires.rising c.in_ok-copy-in-len1-up.ensures c.in_ok-push-in-len1-up.ensures.ok,
  ),
)

pub returns-in-empty-clause-kinds : goal.returns-in-empty-clause-kinds
returns-in-empty-clause-kinds t c =
    λ front wanted. kinds_empty c.args.fields.now c.args.assigns.now c.args.env.now front wanted c.in-empty.len_below

pub returns-in_ok-push-in-len1-up-clause-values : goal.returns-in_ok-push-in-len1-up-clause-values
returns-in_ok-push-in-len1-up-clause-values t c =
    subst (λ m. AddsValues m c.push_values.new.fields c.push_values.result)
    (sym (values_split c.args.fields.now c.push.new.self c.args.assigns.now c.args.env.now _ _ c.in_ok-copy-in-len1-up.field-0 c.in_ok-value-in-len1-up.value
    c.in-len1-up.len_at_least c.in_ok-value-in-len1-up.ensures.value c.in_ok-copy-in-len1-up.ensures c.in_ok-push-in-len1-up.ensures.ok))
    c.push_values.ensures.values

pub returns-in_ok-push-in-len1-up-clause-kinds : goal.returns-in_ok-push-in-len1-up-clause-kinds
returns-in_ok-push-in-len1-up-clause-kinds t c = λ front wanted are checked.
    kinds_split c.push_values.result c.args.fields.now c.push.new.self c.push_values.new.fields c.args.assigns.now c.args.env.now _ _
    c.in_ok-copy-in-len1-up.field-0 c.in_ok-value-in-len1-up.value front wanted
    c.in-len1-up.len_at_least c.in_ok-copy-in-len1-up.ensures c.in_ok-push-in-len1-up.ensures.ok are checked
    c.in_ok-value-in-len1-up.ensures.kind c.push_values.ensures.kinds
