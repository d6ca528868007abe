use Rattle.std.proofs.Common.{◌≡◌, ◌<◌, ◌^◌, ◌+◌, List, [], ◌∷◌, ◌++◌, length, sym, subst, ap, ◌∙◌}
use Rattle.std.specs.Prelude.{All}
use Rattle.es_model.specs.declared.event.StoredEvent.{StoredEvent}
use Rattle.es_sqlite.proofs.NumberLemmas.{length-push, All-push}
use Rattle.es_sqlite.proofs.reading.events_of.Goals as goal

pub loop-row-preserved : goal.loop-row-preserved
loop-row-preserved c =
    let added : c.push.new.self ≡ c.loop-row.events ++ c.in_ok-event.event ∷ [] = (c.in_ok-push.ensures {u = tt}).ok in
    let P : StoredEvent → Type 0 = λ e. e.originator_version < 2 ^ 62 in
    record {
      count = ap (λ (es : List StoredEvent). length es) added ∙ length-push c.loop-row.events c.in_ok-event.event ∙ ap (λ n. n + 1) c.loop-row.invariant.count;
      versions = subst (All P) (sym added) (All-push P c.loop-row.events c.in_ok-event.event c.loop-row.invariant.versions (c.in_ok-event.ensures {u = tt}).small);
    }
