use Rattle.std.proofs.Common.{◌≡◌, Some, None, rules}
use Rattle.es_domain.specs.inner.Overlay.{latest}
use Rattle.es_domain.proofs.OverlayLemmas.{find_told, kept_below, kept_told}
use Rattle.es_domain.proofs.ToldLemmas.{found_tells}
use Rattle.es_domain.proofs.rules.find.Goals as goal

pub returns-in-Ok-clause-answer : goal.returns-in-Ok-clause-answer
returns-in-Ok-clause-answer g c =
    let last : latest c.args.changed.now c.args.id ≡ Some c.in-Some.aggregate.now = search rules in
    let same : c.in-Ok.aggregate ≡ c.in-Some.aggregate.now = search rules in
    kept_told (g.A.Aggregates.system c.args.reader.now) (g.A.Aggregates.told c.args.reader.now) c.args.changed.now c.args.id c.in-Some.aggregate.now c.in-Ok.aggregate last same c.requires.changed

pub returns-in-Ok-clause-below : goal.returns-in-Ok-clause-below
returns-in-Ok-clause-below g c =
    let last : latest c.args.changed.now c.args.id ≡ Some c.in-Some.aggregate.now = search rules in
    let same : c.in-Ok.aggregate ≡ c.in-Some.aggregate.now = search rules in
    λ limit large are. kept_below (g.A.Aggregates.system c.args.reader.now) limit c.args.changed.now c.args.id c.in-Some.aggregate.now c.in-Ok.aggregate last same are

pub returns-in-None-clause-answer : goal.returns-in-None-clause-answer
returns-in-None-clause-answer g c =
    let none : latest c.args.changed.now c.args.id ≡ None = search rules in
    find_told (g.A.Aggregates.system c.args.reader.now) (g.A.Aggregates.told c.args.reader.now) (g.A.Aggregates.told c.find.new.self) c.args.changed.now c.args.id c.find.result none c.find.ensures.answer

pub returns-in-None-clause-tells : goal.returns-in-None-clause-tells
returns-in-None-clause-tells g c = found_tells _ _ c.args.id _ c.find.result c.find.ensures.answer
