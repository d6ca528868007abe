use Rattle.std.proofs.Common.{◌≡◌, ◌∙◌, ap, sym, subst}
use Rattle.es_model.specs.History.{log}
use Rattle.es_recorder.specs.Selections.{select_events, AreVersions}
use Rattle.es_recorder.proofs.SelectionLemmas.{AreVersions-select}
use Rattle.es_memory.proofs.memory.MemoryRecorderAggregateRecorder.select_events.Goals as goal

pub returns-clause-numbers : goal.returns-clause-numbers
returns-clause-numbers c =
    let a = c.args in
    let is : c.in_ok-find_events.field-0 ≡ select_events (log a.self.now.history) a.id a.gt a.lte a.desc a.limit
    = c.in_ok-find_events.ensures ∙ ap (λ h. select_events (log h) a.id a.gt a.lte a.desc a.limit) c.as_slice-history.ensures in
    subst (AreVersions a.limit) (sym is) (AreVersions-select a.self.now.history a.id a.gt a.lte a.desc a.limit a.self.now.formed)
