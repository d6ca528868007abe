use Rattle.std.proofs.Common.{◌≡◌, ◌∙◌, Option, Some, codes, sym, ap}
use Rattle.es_model.specs.Declaration.{event_named}
use Rattle.es_model.specs.declared.declaration.Class.{Class}
use Rattle.es_model.specs.declared.declaration.EventClass.{EventClass}
use Rattle.es_mapper.specs.Mapping.{class_value, version_value, with_some, stamped, state_of}
use Rattle.es_mapper.proofs.stored.state_of.Goals as goal

pub returns-in_ok-put_some-in-Some-2 : goal.returns-in_ok-put_some-in-Some-2
returns-in_ok-put_some-in-Some-2 c =
    let e = c.args.event.now in
    let class : Class = c.in-Some.class.now in
    let declared : EventClass = c.in-Some.declared.now in
    let named : event_named c.args.sys.now.classes e.topic ≡ Some (class, declared) = ap (event_named c.args.sys.now.classes) (sym c.as_str.ensures) ∙ sym c.in-Some.ensures in
    let of_class : c.in_ok-class-in-Some.class ≡ class_value class e.topic = c.in_ok-class-in-Some.ensures ∙ ap (class_value class) c.as_str-in-Some.ensures in
    let once : c.put_some.new.fields ≡ with_some (class_value class e.topic) (codes "originator_topic") (stamped e) =
    c.in_ok-put_some-in-Some.ensures ∙ (λ i. with_some (of_class i) (codes "originator_topic") (c.in_ok-fields.ensures i)) in
    let twice : c.put_some-in-Some.new.fields ≡ with_some (version_value declared) (codes "class_version") (with_some (class_value class e.topic) (codes "originator_topic") (stamped e)) =
    c.in_ok-put_some-in-Some-2.ensures ∙ (λ i. with_some (c.version_value.ensures i) (codes "class_version") (once i)) in
    twice ∙ sym (ap (λ (o : Option (Class × EventClass)). state_of o e) named)
