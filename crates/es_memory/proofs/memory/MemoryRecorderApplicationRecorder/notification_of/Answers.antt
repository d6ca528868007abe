use Rattle.std.proofs.Common.{◌≡◌, ◌<◌, ◌^◌, ◌∙◌, ap, sym, subst, IfSome}
use Rattle.es_model.specs.History.{log}
use Rattle.es_recorder.specs.Selections as selections
use Rattle.es_recorder.proofs.SelectionLemmas.{notification_of-small}
use Rattle.es_memory.proofs.memory.MemoryRecorderApplicationRecorder.notification_of.Goals as goal

pub returns-clause-small : goal.returns-clause-small
returns-clause-small c =
    let a = c.args in
    let is : c.find_place.result ≡ selections.notification_of (log a.self.now.history) a.id a.version = c.find_place.ensures ∙ ap (λ h. selections.notification_of (log h) a.id a.version) c.as_slice.ensures in
    subst (λ o. IfSome o (λ n. n < 2 ^ 62)) (sym is) (notification_of-small a.self.now.history a.id a.version a.self.now.formed)
