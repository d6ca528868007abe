use Rattle.std.proofs.Common.{arith, get_or, ap, sym, subst, IsTrue, is_some}
use Rattle.es_model.specs.Declaration.{app_named}
use Rattle.es_world.specs.Answers.{come_to}
use Rattle.es_world.proofs.PlaceLemmas.{named_at, left_in, names-set}
use Rattle.es_world.proofs.places.notification_at.Goals as goal

pub notification_in-requires-clause-app : goal.notification_in-requires-clause-app
notification_in-requires-clause-app c =
    let entry = named_at c.args.histories.now c.place.result c.args.app.now (get_or c.args.histories.now c.place.result c.index-histories-place.result) c.place.ensures.place (omega (arith, c.place.ensures.place, c.requires.there)) (ap (get_or c.args.histories.now c.place.result) c.index-histories-place.is) in
    subst (λ n. IsTrue (is_some (app_named c.args.sys.now.apps n))) (sym entry.0) c.requires.app

pub returns-clause-leaves : goal.returns-clause-leaves
returns-clause-leaves c = λ entries there.
    left_in c.args.histories.now c.place.result c.args.app.now (get_or c.args.histories.now c.place.result c.index-histories-place.result) c.notification_in.new.held (λ name h. come_to c.args.sys.now name h entries c.args.leader.now c.args.notification.now.id c.args.at) c.notification_in.result
    c.place.ensures.place (omega (arith, c.place.ensures.place, c.requires.there)) (ap (get_or c.args.histories.now c.place.result) c.index-histories-place.is) c.notification_in.ensures.named (c.notification_in.ensures.leaves entries there)

pub returns-clause-named : goal.returns-clause-named
returns-clause-named c =
    names-set c.args.histories.now c.place.result (get_or c.args.histories.now c.place.result c.index-histories-place.result) c.notification_in.new.held (ap (get_or c.args.histories.now c.place.result) c.index-histories-place.is) c.notification_in.ensures.named
