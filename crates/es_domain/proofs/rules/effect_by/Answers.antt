use Rattle.es_domain.specs.inner.Overlay.{overlaid}
use Rattle.es_domain.proofs.GrowthLemmas.{effect_below}
use Rattle.es_domain.proofs.OverlayLemmas.{found_below, found_known}
use Rattle.es_domain.proofs.RunLemmas.{effect_fault, effect_told}
use Rattle.es_domain.proofs.rules.effect_by.Goals as goal

pub returns-in-Err-clause-answer : goal.returns-in-Err-clause-answer
returns-in-Err-clause-answer g c =
    effect_fault c.args.sys.now c.args.command.now c.args.at (g.A.Aggregates.told c.find.new.reader) (λ readings. overlaid c.args.changed.now readings c.args.command.now.id) c.in-Err.fault
    (rw c.requires.system at c.in-Err.ensures.answer)

pub effect_on-requires-clause-found : goal.effect_on-requires-clause-found
effect_on-requires-clause-found g c =
    found_known (g.A.Aggregates.system c.args.reader.now) c.args.sys.now c.args.changed.now c.in-Ok.found c.requires.system c.requires.changed c.in-Ok.ensures.below

pub returns-in-Ok-effect_on-clause-answer : goal.returns-in-Ok-effect_on-clause-answer
returns-in-Ok-effect_on-clause-answer g c =
    effect_told c.args.sys.now c.args.command.now c.args.at (g.A.Aggregates.told c.find.new.reader) (λ readings. overlaid c.args.changed.now readings c.args.command.now.id) c.in-Ok.found c.in-Ok-effect_on.effect
    (rw c.requires.system at c.in-Ok.ensures.answer) c.in-Ok-effect_on.ensures.effect

pub returns-in-Ok-effect_on-clause-below : goal.returns-in-Ok-effect_on-clause-below
returns-in-Ok-effect_on-clause-below g c = λ limit large are.
    effect_below c.args.sys.now c.args.command.now c.args.at c.in-Ok.found limit c.requires.checked large
    (found_below (g.A.Aggregates.system c.args.reader.now) c.args.sys.now limit c.args.changed.now c.in-Ok.found c.requires.system large are c.in-Ok.ensures.below)
    c.in-Ok-effect_on.effect c.requires.command c.in-Ok-effect_on.ensures.effect c.in-Ok-effect_on.ensures.ready
