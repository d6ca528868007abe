use Rattle.std.proofs.Common.{arith, get_or, ap}
use Rattle.es_world.specs.Answers.{commanded}
use Rattle.es_world.proofs.PlaceLemmas.{left_in, names-set}
use Rattle.es_world.proofs.places.command_at.Goals as goal

pub returns-clause-leaves : goal.returns-clause-leaves
returns-clause-leaves c =
    left_in c.args.histories.now c.place.result c.args.app.now (get_or c.args.histories.now c.place.result c.index-histories-place.result) c.command_in.new.held (λ name h. commanded c.args.sys.now name h c.args.text c.args.at c.args.command.now) c.command_in.result
    c.place.ensures.place (omega (arith, c.place.ensures.place, c.requires.there)) (ap (get_or c.args.histories.now c.place.result) c.index-histories-place.is) c.command_in.ensures.named c.command_in.ensures.leaves

pub returns-clause-named : goal.returns-clause-named
returns-clause-named c =
    names-set c.args.histories.now c.place.result (get_or c.args.histories.now c.place.result c.index-histories-place.result) c.command_in.new.held (ap (get_or c.args.histories.now c.place.result) c.index-histories-place.is) c.command_in.ensures.named
