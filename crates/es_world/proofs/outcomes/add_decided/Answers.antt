use Rattle.es_world.proofs.LeftLemmas.{left_decided}
use Rattle.es_world.proofs.outcomes.add_decided.Goals as goal

pub returns-in-Events : goal.returns-in-Events
returns-in-Events c = λ h told. left_decided c.args.app.now c.args.cause c.args.at c.args.verdict _ h _ _ c.in-Events.is (c.add.ensures h told)
