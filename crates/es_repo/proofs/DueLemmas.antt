-- The snapshot that is due after an event.
use Rattle.std.proofs.Common.{◌≡◌, ◌∙◌, ℕ, Bool, true, if◌then◌else◌, List, Option, None, Some, Result, IfOk, IfSome, sym, ap, subst}
use Rattle.es_model.specs.History.{log}
use Rattle.es_model.specs.declared.declaration.System.{System}
use Rattle.es_model.specs.declared.event.Recording.{Recording}
use Rattle.es_model.specs.declared.event.StoredEvent.{StoredEvent}
use Rattle.es_model.specs.declared.memory.CallFault.{CallFault}
use Rattle.es_model.specs.declared.snapshot.Snapshot.{Snapshot}
use Rattle.es_domain.specs.Readings.{Reading}
use Rattle.es_domain.specs.declared.aggregate.Aggregate.{Aggregate}
use Rattle.es_domain.specs.declared.find.FindFault.{FindFault}
use Rattle.es_repo.specs.Readings.{reading_at}
use Rattle.es_repo.specs.Snapshots.{is_multiple, interval_of, snapshot_read, due_after}
use Rattle.es_repo.specs.inner.Reader.{Reads}

module _ (sys : System) (e : StoredEvent) where
  read-due : (h : List Recording) (b : Bool) → b ≡ true → (result : Result (Option Snapshot) CallFault) → IfOk result (λ s. s ≡ snapshot_read sys (reading_at sys (log h) e.originator_id (Some e.originator_version)))
      → IfOk result (λ s. s ≡ (if b then snapshot_read sys (reading_at sys (log h) e.originator_id (Some e.originator_version)) else None))
  read-due h b is result taken =
      subst (λ t. IfOk result (λ s. s ≡ (if t then snapshot_read sys (reading_at sys (log h) e.originator_id (Some e.originator_version)) else None))) (sym is) taken

  -- what is read at a multiple of the interval is due
  pub due-told : (history : Option (List Recording)) (interval : Option ℕ) (due : Bool) (found : Result (Option Aggregate) FindFault) (result : Result (Option Snapshot) CallFault) → interval ≡ interval_of sys e → due ≡ is_multiple interval e.originator_version → due ≡ true
      → IfSome history (λ h. Reads (reading_at sys (log h) e.originator_id (Some e.originator_version)) found) → ((reading : Reading) → Reads reading found → IfOk result (λ s. s ≡ snapshot_read sys reading))
      → IfSome history (λ h. IfOk result (λ s. s ≡ due_after sys (log h) e))
  due-told None interval due found result its tested is reads taken = tt
  due-told (Some h) interval due found result its tested is reads taken =
      let at_multiple : is_multiple (interval_of sys e) e.originator_version ≡ true = ap (λ (o : Option ℕ). is_multiple o e.originator_version) (sym its) ∙ sym tested ∙ is in
      read-due h (is_multiple (interval_of sys e) e.originator_version) at_multiple result (taken (reading_at sys (log h) e.originator_id (Some e.originator_version)) reads)
