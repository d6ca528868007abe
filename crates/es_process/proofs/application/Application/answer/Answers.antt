use Rattle.es_lines.specs.declared.request.Request.TheVariants.{Do, Snapshot}
use Rattle.es_process.specs.SystemRules.{rules_of}
use Rattle.es_process.proofs.ApplicationLemmas.{request_as, ok_always}
use Rattle.es_process.proofs.application.Application.answer.Goals as goal

pub returns-in-Do-clause-leaves : goal.returns-in-Do-clause-leaves
returns-in-Do-clause-leaves g c = λ after may.
    let x = c.answer_command.ensures.leaves after may in (
      x.0,
      x.1,
      λ logs h q r told kept reading.
          request_as (rules_of c.args.sys.now) _ _ h q logs c.args.request.now (Do c.in-Do.app c.in-Do.command) _ r c.answer_command.result _ _ _ c.in-Do.is (x.2 logs h q r told kept reading),
    )

pub returns-in-Snapshot-clause-leaves : goal.returns-in-Snapshot-clause-leaves
returns-in-Snapshot-clause-leaves g c = λ after may. (
  after,
  may,
  λ logs h q r told kept reading.
      request_as (rules_of c.args.sys.now) _ _ h q logs c.args.request.now (Snapshot c.in-Snapshot.app c.in-Snapshot.id) _ r c.take_snapshot.result _ _ _ c.in-Snapshot.is
      (c.take_snapshot.ensures.leaves h q told kept, ok_always c.take_snapshot.result reading),
)
