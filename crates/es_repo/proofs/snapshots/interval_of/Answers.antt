use Rattle.std.proofs.Common.{◌≡◌, ◌∙◌, Some, sym, ap}
use Rattle.es_model.specs.Declaration.{event_named}
use Rattle.es_repo.proofs.NumbersLemmas.{positive-interval}
use Rattle.es_repo.proofs.snapshots.interval_of.Goals as goal

pub returns-in-Some-clause-positive : goal.returns-in-Some-clause-positive
returns-in-Some-clause-positive c =
    let sys = c.args.sys.now in
    let topic = c.args.event.now.topic in
    let is : event_named sys.classes topic ≡ Some (c.in-Some.class.now, c.in-Some.field-0-1.now) = ap (event_named sys.classes) (sym c.as_str.ensures) ∙ sym c.in-Some.ensures in
    positive-interval sys topic c.in-Some.class.now c.in-Some.field-0-1.now c.requires is
