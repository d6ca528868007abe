use Rattle.std.proofs.Common.{◌∙◌, ap}
use Rattle.es_domain.specs.Decision.{decision_of}
use Rattle.es_domain.proofs.ToldLemmas.{command_told, command_fault, found_tells}
use Rattle.es_domain.proofs.decide.decide_command.Goals as goal

pub returns-in-Err-clause-decision : goal.returns-in-Err-clause-decision
returns-in-Err-clause-decision g c =
    command_fault c.args.sys.now c.args.command.now c.args.at (g.A.Aggregates.told c.args.reader.now) (g.A.Aggregates.told c.find.new.self) c.in-Err.fault
    (rw c.requires.system at c.in-Err.ensures.answer)

pub returns-in-Err-clause-tells : goal.returns-in-Err-clause-tells
returns-in-Err-clause-tells g c = found_tells _ _ c.args.command.now.id _ c.find.result c.find.ensures.answer

pub returns-in-Ok-effect_on-clause-decision : goal.returns-in-Ok-effect_on-clause-decision
returns-in-Ok-effect_on-clause-decision g c =
    command_told c.args.sys.now c.args.command.now c.args.at (g.A.Aggregates.told c.args.reader.now) (g.A.Aggregates.told c.find.new.self) c.in-Ok.found c.decision_of.result
    (rw c.requires.system at c.in-Ok.ensures.answer) (c.decision_of.ensures ∙ ap (decision_of 0) c.in-Ok-effect_on.ensures.effect)

pub returns-in-Ok-effect_on-clause-tells : goal.returns-in-Ok-effect_on-clause-tells
returns-in-Ok-effect_on-clause-tells g c = found_tells _ _ c.args.command.now.id _ c.find.result c.find.ensures.answer

pub returns-in-Err-effect_on-clause-tells : goal.returns-in-Err-effect_on-clause-tells
returns-in-Err-effect_on-clause-tells g c = found_tells _ _ c.args.command.now.id _ c.find.result c.find.ensures.answer
