use Rattle.std.proofs.Common.{◌≡◌, ◌∙◌, ap, sym, subst}
use Rattle.es_model.specs.History.{log}
use Rattle.es_recorder.specs.Selections.{select_notifications, AreSelected}
use Rattle.es_recorder.proofs.SelectionLemmas.{selected}
use Rattle.es_memory.proofs.memory.MemoryRecorderApplicationRecorder.select_notifications.Goals as goal

pub returns-clause-numbers : goal.returns-clause-numbers
returns-clause-numbers c =
    let start = c.args.start in
    let limit = c.args.limit in
    let is : c.in_ok-find_notifications.field-0 ≡ select_notifications (log c.args.self.now.history) start limit = c.in_ok-find_notifications.ensures ∙ ap (λ h. select_notifications (log h) start limit) c.as_slice-history.ensures in
    subst (AreSelected start limit) (sym is) (selected c.args.self.now.history start limit c.args.self.now.formed)
