use Rattle.std.proofs.Common.{◌≡◌, take}
use Rattle.es_world.specs.Steps.{left_after, system_of, world_of}
use Rattle.es_world.proofs.world.World.run.Given as goal

abbrev pub invariant-loop-step : goal.invariant-loop-step
invariant-loop-step l = record {
  made : world_of l.self ≡ left_after (system_of l.initial.self) (world_of l.initial.self) (take l.step-index l.steps);
  system : system_of l.self ≡ system_of l.initial.self;
}
