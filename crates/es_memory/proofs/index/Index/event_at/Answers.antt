use Rattle.std.proofs.Common.{arith, rules, ◌≡◌, sym, ◌∙◌, ap, length, get_or, ◌<◌}
use Rattle.es_memory.proofs.IndexLemmas.{place-within, place-event}
use Rattle.es_memory.proofs.index.Index.event_at.Goals as goal
use Rattle.es_memory.proofs.index.Index.event_at.Goals.{After-as_slice-events}
use Rattle.es_model.specs.declared.event.Recording.{Recording}

events : (c : After-as_slice-events) → c.as_slice-events.result.now ≡ c.index-history-recording.result.events
events c = c.as_slice-events.ensures ∙ ap (λ (r : Recording). r.events) (sym c.index-history-recording.is)

within : (c : After-as_slice-events) → c.index.result.now.1 < length c.as_slice-events.result.now
within c =
    let few = place-within c.args.history.now c.args.self.now.places.items c.args.place c.index.result.now c.index-history-recording.result c.requires.places c.requires.within c.index.ensures c.index-history-recording.is in
    omega (arith, ap length (events c), few)

pub bounds-events-event : goal.bounds-events-event
bounds-events-event c = within c

pub offset_bounds-events-event : goal.offset_bounds-events-event
offset_bounds-events-event c = let few = within c in search rules

pub returns : goal.returns
returns c =
    let same : c.as_slice-events.result.now ≡ c.index-history-recording.result.events = c.as_slice-events.ensures ∙ ap (λ (r : Recording). r.events) (sym c.index-history-recording.is) in
    let event = c.index-events-event.is ∙ (λ i. get_or (same i) c.index.result.now.1 c.index-events-event.result) in
    place-event c.args.history.now c.args.self.now.places.items c.args.place c.index.result.now c.index-history-recording.result c.index-events-event.result c.requires.places c.requires.within c.index.ensures c.index-history-recording.is event
