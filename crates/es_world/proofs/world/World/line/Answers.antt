use Rattle.std.proofs.Common.{rules}
use Rattle.es_model.specs.Declaration.{app_named}
use Rattle.es_world.proofs.StepLemmas.{declared-placed, listed-app}
use Rattle.es_world.proofs.world.World.line.Goals as goal

pub command-requires-clause-there : goal.command-requires-clause-there
command-requires-clause-there c =
    declared-placed c.args.self.now.sys c.args.self.now.histories.items c.args.app.now c.args.self.now.named (listed-app (app_named c.args.self.now.sys.apps c.args.app.now) c.in-Some.command.class (search rules))
