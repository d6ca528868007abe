use Rattle.std.proofs.Common.{◌≡◌, ◌∙◌, ◌+◌, ap, sym, arith, take, drop, take-append-drop, take_all, get_or, subst}
use Rattle.es_process.specs.SystemRules.{rules_of}
use Rattle.es_world.specs.Answers.{made}
use Rattle.es_world.specs.Steps.{left_after, world_of}
use Rattle.es_world.specs.World.{Runs}
use Rattle.es_world.proofs.AnswerLaws.{law_of_runs}
use Rattle.es_world.proofs.StepLemmas.{after-next, err-made}
use Rattle.es_world.proofs.world.World.run.Goals as goal

pub returns-in_err-step-clause-made : goal.returns-in_err-step-clause-made
returns-in_err-step-clause-made c =
    err-made c.args.self.now.sys (world_of c.args.self.now) c.args.steps.now c.from_residual.result (world_of c.step.new.self) c.from_residual.ensures.0 (take c.loop-step.step-index c.args.steps.now) (drop c.loop-step.step-index c.args.steps.now)
    (sym (take-append-drop c.loop-step.step-index c.args.steps.now)) ((c.in_err-step.ensures {u = tt}).made ∙ c.loop-step.invariant.made)

pub returns-clause-runs : goal.returns-clause-runs
returns-clause-runs c =
    let all = take_all c.loop-step.step-index c.args.steps.now (omega (arith, c.loop-step-test.false)) in
    subst (Runs (rules_of c.args.self.now.sys) (world_of c.args.self.now) c.args.steps.now) (sym (c.loop-step.invariant.made ∙ ap (left_after c.args.self.now.sys (world_of c.args.self.now)) all))
    (law_of_runs c.args.self.now.sys (world_of c.args.self.now) c.args.steps.now)

pub loop-step-preserved : goal.loop-step-preserved
loop-step-preserved c =
    let s = get_or c.args.steps.now c.loop-step.step-index c.step-item.result in
    let on : left_after c.args.self.now.sys (world_of c.args.self.now) (take (c.loop-step.step-index + 1) c.args.steps.now) ≡ (made c.args.self.now.sys (left_after c.args.self.now.sys (world_of c.args.self.now) (take c.loop-step.step-index c.args.steps.now)) s).left =
    after-next c.args.self.now.sys (world_of c.args.self.now) c.args.steps.now c.loop-step.step-index s (omega (arith, c.loop-step-test.true)) (ap (get_or c.args.steps.now c.loop-step.step-index) c.step-item.is) in
    record {
      made = c.in_ok-step.ensures.made.1 ∙ ap (λ t. (made c.loop-step.self.sys (world_of c.loop-step.self) t).left) c.step-item.is ∙ (λ i. (made (c.loop-step.invariant.system i) (c.loop-step.invariant.made i) s).left) ∙ sym on;
      system = c.step.ensures.system ∙ c.loop-step.invariant.system;
    }
