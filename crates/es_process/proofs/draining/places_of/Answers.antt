use Rattle.std.proofs.Common.{Contains, ◌<◌, length, sym, ap, ◌∙◌, slice_get, subst, arith}
use Rattle.es_process.specs.Standing.{names_in}
use Rattle.es_process.specs.declared.application.Application.{Application}
use Rattle.es_process.proofs.PairingLemmas.{place-found, prompted-more}
use Rattle.es_process.proofs.draining.places_of.Goals as goal

pub loop-name-preserved : goal.loop-name-preserved
loop-name-preserved g c =
    let within : c.loop-name.name-index < length c.args.names.now = omega (arith, c.loop-name-test.true, c.loop-name.auto.name-index-end) in
    prompted-more (names_in c.args.apps.now) c.loop-name.queue.items c.push_place.new.queue.items c.args.names.now c.loop-name.name-index c.place_of.result c.name-item.result within c.name-item.is (c.in_ok-push_place.ensures {u = tt})
    (ap (slice_get (names_in c.args.apps.now)) c.place_of.ensures ∙ place-found (λ (a : Application _). a.name) c.args.apps.now c.name-item.result (subst (Contains (names_in c.args.apps.now)) (sym c.name-item.is) (c.requires c.loop-name.name-index c.name-item.result within))) c.loop-name.invariant
