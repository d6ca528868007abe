use Rattle.std.proofs.Common.{◌≡◌, ◌∙◌, Err, None, sym, ap, rules}
use Rattle.es_model.specs.Declaration.{event_named}
use Rattle.es_mapper.specs.Mapping.{IsMapped}
use Rattle.es_mapper.specs.declared.fault.MapFault.TheVariants as fault
use Rattle.es_mapper.proofs.MappedLemmas.{mapped-gives}
use Rattle.es_mapper.proofs.MappingLemmas.{mapped-one, mapped-none}
use Rattle.es_mapper.proofs.domain.to_domain.Goals as goal

pub returns-in-Some-clause-one : goal.returns-in-Some-clause-one
returns-in-Some-clause-one c =
    let mapped : IsMapped c.args.sys.now c.args.stored.now c.with_class.result = c.with_class.ensures c.args.sys.now (ap (event_named c.args.sys.now.classes) (sym c.as_str.ensures) ∙ sym c.in-Some.ensures) in
    mapped-one c.args.sys.now c.args.stored.now c.with_class.result mapped

pub returns-in-Some-clause-none : goal.returns-in-Some-clause-none
returns-in-Some-clause-none c =
    let mapped : IsMapped c.args.sys.now c.args.stored.now c.with_class.result = c.with_class.ensures c.args.sys.now (ap (event_named c.args.sys.now.classes) (sym c.as_str.ensures) ∙ sym c.in-Some.ensures) in
    mapped-none c.args.sys.now c.args.stored.now c.with_class.result mapped

pub returns-in-Some-clause-event : goal.returns-in-Some-clause-event
returns-in-Some-clause-event c =
    let mapped : IsMapped c.args.sys.now c.args.stored.now c.with_class.result = c.with_class.ensures c.args.sys.now (ap (event_named c.args.sys.now.classes) (sym c.as_str.ensures) ∙ sym c.in-Some.ensures) in
    mapped-gives c.args.sys.now c.args.stored.now c.with_class.result mapped

pub returns-in-None-clause-event : goal.returns-in-None-clause-event
returns-in-None-clause-event c =
    let named : event_named c.args.sys.now.classes c.args.stored.now.topic ≡ None = search rules in
    mapped-gives c.args.sys.now c.args.stored.now (Err fault.Topic) named
