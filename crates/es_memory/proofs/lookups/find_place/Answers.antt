use Rattle.std.proofs.Common.{◌<◌, ◌+◌, ◌^◌, ◌≡◌, ◌∙◌, arith, length, subst, sym}
use Rattle.std.specs.Prelude.{IfSome, All}
use Rattle.std.proofs.lemmas.List.Elements.{All-weaker}
use Rattle.es_model.specs.History.{log}
use Rattle.es_memory.specs.inner.Index.{places_from, Stands}
use Rattle.es_memory.proofs.EventLemmas.{place-version, places-small}
use Rattle.es_memory.proofs.lookups.find_place.Goals as goal
use Rattle.es_memory.proofs.lookups.find_place.Goals.{After-places_of}

places : (c : After-places_of) → c.places_of.result.now ≡ places_from 0 (log c.args.history.now) c.args.id
places c =
    let stands = subst (λ o. IfSome o (Stands c.args.history.now)) c.in-Some.is c.requires.stands in
    c.places_of.ensures ∙ stands.0 c.args.id

pub place_at-requires : goal.place_at-requires
place_at-requires c =
    let es = log c.args.history.now in
    subst (All (λ p. p < 2 ^ 62)) (sym (places c)) (All-weaker (λ p. p < 0 + length es) (λ p. p < 2 ^ 62) (λ p small. omega (arith, small, c.requires.few)) (places_from 0 es c.args.id) (places-small 0 es c.args.id))

pub returns-in-Some : goal.returns-in-Some
returns-in-Some c =
    let stands = subst (λ o. IfSome o (Stands c.args.history.now)) c.in-Some.is c.requires.stands in
    c.place_at.ensures ∙ place-version (log c.args.history.now) c.args.id c.args.version c.places_of.result.now c.requires.follow (c.places_of.ensures ∙ stands.0 c.args.id)
