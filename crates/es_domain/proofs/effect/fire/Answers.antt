use Rattle.std.proofs.Common.{◌≡◌, ◌∙◌, IsTrue, Some, sym, subst, ap, rules}
use Rattle.es_model.specs.Declaration.{event_in}
use Rattle.es_model.specs.Names.{topic_of}
use Rattle.es_model.specs.Rising.{IsRising}
use Rattle.es_model.specs.Values.{are_of_kinds}
use Rattle.es_domain.specs.inner.Evaluation.{AreChecked}
use Rattle.es_domain.specs.Fold.{later_in}
use Rattle.es_domain.proofs.FiringLemmas.{fired_ready}
use Rattle.es_domain.proofs.FoldLemmas.{one_event, later_of}
use Rattle.es_domain.proofs.effect.fire.Goals as goal

pub values_of-requires : goal.values_of-requires
values_of-requires c =
    let can = c.requires.fields in
    let named : c.in_ok-topic.topic ≡ topic_of c.args.class.now.name c.args.trigger.now.event = c.in_ok-topic.ensures ∙ (λ i. topic_of (c.as_str.ensures i) (c.as_str-2.ensures i)) in
    let found : event_in c.args.class.now c.in_ok-topic.topic ≡ Some c.in-Some.event_class.now = search rules in
    let rising : IsRising can.event.fields = subst (λ e. IsRising e.fields) (one_event c.args.class.now c.in_ok-topic.topic _ c.in-Some.event_class.now can.event named found can.later) c.rises.ensures in
    (can.event.fields, subst (λ env. AreChecked can.event.fields c.args.trigger.now.fields env) (sym c.in_ok-env.ensures) (can.gives rising c.rises-2.ensures c.args.aggregate.now c.requires.ready.fields))

pub trigger-requires-clause-fields : goal.trigger-requires-clause-fields
trigger-requires-clause-fields c =
    let can = c.requires.fields in
    let named : c.in_ok-topic.topic ≡ topic_of c.args.class.now.name c.args.trigger.now.event = c.in_ok-topic.ensures ∙ (λ i. topic_of (c.as_str.ensures i) (c.as_str-2.ensures i)) in
    let found : event_in c.args.class.now c.in_ok-topic.topic ≡ Some c.in-Some.event_class.now = search rules in
    let rising : IsRising can.event.fields = subst (λ e. IsRising e.fields) (one_event c.args.class.now c.in_ok-topic.topic _ c.in-Some.event_class.now can.event named found can.later) c.rises.ensures in
    let are : IsTrue (are_of_kinds c.in_ok-fields.fields can.event.fields) =
    c.in_ok-fields.ensures.kinds can.event.fields
    (subst (λ env. AreChecked can.event.fields c.args.trigger.now.fields env) (sym c.in_ok-env.ensures) (can.gives rising c.rises-2.ensures c.args.aggregate.now c.requires.ready.fields)) in
    later_of c.args.sys.now c.args.class.now c.args.aggregate.now.class c.in_ok-topic.topic _ can.event c.in_ok-fields.fields c.requires.class c.requires.ready.class named can.later are

pub returns-clause-ready : goal.returns-clause-ready
returns-clause-ready c =
    let can = c.requires.fields in
    let named : c.in_ok-topic.topic ≡ topic_of c.args.class.now.name c.args.trigger.now.event = c.in_ok-topic.ensures ∙ (λ i. topic_of (c.as_str.ensures i) (c.as_str-2.ensures i)) in
    let found : event_in c.args.class.now c.in_ok-topic.topic ≡ Some c.in-Some.event_class.now = search rules in
    let rising : IsRising can.event.fields = subst (λ e. IsRising e.fields) (one_event c.args.class.now c.in_ok-topic.topic _ c.in-Some.event_class.now can.event named found can.later) c.rises.ensures in
    let are : IsTrue (are_of_kinds c.in_ok-fields.fields can.event.fields) =
    c.in_ok-fields.ensures.kinds can.event.fields
    (subst (λ env. AreChecked can.event.fields c.args.trigger.now.fields env) (sym c.in_ok-env.ensures) (can.gives rising c.rises-2.ensures c.args.aggregate.now c.requires.ready.fields)) in
    fired_ready c.args.sys.now c.args.class.now can.event c.in_ok-topic.topic c.in_ok-fields.fields c.args.at c.requires.checked c.requires.class
    (ap (later_in (Some c.args.class.now)) named ∙ can.later) are c.trigger.result c.args.aggregate.now c.trigger.new.self c.trigger.ensures.outcome c.trigger.ensures.fields
