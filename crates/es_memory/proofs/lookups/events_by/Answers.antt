use Rattle.std.proofs.Common.{◌≡◌, ◌∙◌, ap, drop}
use Rattle.std.specs.Option.{unwrap_or}
use Rattle.es_model.specs.History.{log}
use Rattle.es_recorder.specs.Selections.{first_of}
use Rattle.es_memory.specs.inner.Cuts.{ends_of}
use Rattle.es_memory.specs.inner.Index.{places_from}
use Rattle.es_memory.proofs.PlaceLemmas.{part-within, select-places}
use Rattle.es_memory.proofs.lookups.events_by.Goals as goal
use Rattle.es_memory.proofs.lookups.events_by.Goals.{After-ends-places}

part : (c : After-ends-places) → c.ends-places.result.now ≡ ends_of c.args.desc c.args.limit (drop (unwrap_or c.args.gt 0) (first_of c.args.lte (places_from 0 (log c.args.history.now) c.args.id)))
part c =
    c.ends-places.ensures
    ∙ ap (ends_of c.args.desc c.args.limit) (c.between.ensures ∙ ap (λ places. drop (unwrap_or c.args.gt 0) (first_of c.args.lte places)) (c.places_of.ensures ∙ c.requires.stands.0 c.args.id))

pub events_at-requires-clause-within : goal.events_at-requires-clause-within
events_at-requires-clause-within c = part-within (log c.args.history.now) c.args.id c.args.gt c.args.lte c.args.desc c.args.limit c.ends-places.result.now (part c)

pub returns : goal.returns
returns c =
    let a = c.args in
    let is = c.ends-places.ensures ∙ ap (ends_of a.desc a.limit) (c.between.ensures ∙ ap (λ places. drop (unwrap_or a.gt 0) (first_of a.lte places)) (c.places_of.ensures ∙ c.requires.stands.0 a.id)) in
    c.ordered.ensures ∙ select-places (log a.history.now) a.id a.gt a.lte a.desc a.limit c.ends-places.result.now c.in_ok-found.found c.requires.follow is c.in_ok-found.ensures
