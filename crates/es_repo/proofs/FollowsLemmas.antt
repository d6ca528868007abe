-- What is decided comes next over the log.
use Rattle.std.proofs.Common.{◌≡◌, ◌∙◌, ◌+◌, ℕ, ℤ, Bool, true, false, List, [], ◌∷◌, ◌++◌, map, None, Some, Ok, Err, refl, sym, ap, subst, if◌then◌else◌}
use Rattle.std.specs.Str.{bytes_eq}
use Rattle.std.proofs.lemmas.Bool.Decides.{Decides-eqb}
use Rattle.es_model.specs.History.{latest}
use Rattle.es_model.specs.Values.{Name, Id}
use Rattle.es_model.specs.declared.declaration.System.{System}
use Rattle.es_model.specs.declared.domain_event.DomainEvent.{DomainEvent}
use Rattle.es_model.specs.declared.event.StoredEvent.{StoredEvent}
use Rattle.es_mapper.specs.Mapping.{stored}
use Rattle.es_domain.specs.Decision.{Decided, Notice, command_decision, policy_decision}
use Rattle.es_domain.specs.declared.command.Command.{Command}
use Rattle.es_domain.specs.declared.command.Decision.TheVariants as decision
use Rattle.es_domain.specs.declared.find.FindFault.TheVariants.{Unreadable, Failed, NoMemory}
use Rattle.es_domain.proofs.NextLemmas.{raised, AreNext, IsNext, command-next, policy-next}
use Rattle.es_recorder.specs.Insert.{first_conflict}
use Rattle.es_recorder.specs.declared.recorder.InsertFault.TheVariants.{Conflict}
use Rattle.es_repo.specs.Policies.{policy_by, readings_with}
use Rattle.es_repo.specs.Readings.{readings_of}
use Rattle.es_repo.specs.Verdicts.{verdict_of, FollowsIn}
use Rattle.es_repo.proofs.LogLemmas.{latest-own, latest-other}
use Rattle.es_repo.proofs.PolicyLemmas.{policy-over}
use Rattle.es_repo.proofs.StandingLemmas.{standing}

module _ (sys : System) where
  raised-step : (b : Bool) (events : List StoredEvent) (e : DomainEvent) (id : Id) (count : Id → ℕ) → bytes_eq e.originator_id id ≡ b → count id ≡ latest events id → (if b then count id + 1 else count id) ≡ latest (events ++ stored sys e ∷ []) id
  raised-step true events e id count own is = ap (λ n. n + 1) is ∙ sym (latest-own id events (stored sys e) own)
  raised-step false events e id count other is = is ∙ sym (latest-other id events (stored sys e) other)

  conflict-step : (events : List StoredEvent) (e : DomainEvent) (es : List StoredEvent) → e.originator_version ≡ latest events e.originator_id + 1 → first_conflict events (stored sys e ∷ es) ≡ first_conflict (events ++ stored sys e ∷ []) es
  conflict-step events e es is =
      ap (λ b. if b then first_conflict (events ++ stored sys e ∷ []) es else Some (Conflict e.originator_id e.originator_version (latest events e.originator_id)))
      ((Decides-eqb e.originator_version (latest events e.originator_id + 1)).1 is)

  -- events that come next don't conflict with a log
  no-conflict : (events : List StoredEvent) (count : Id → ℕ) (es : List DomainEvent) → ((id : Id) → count id ≡ latest events id) → AreNext count es → first_conflict events (map (stored sys) es) ≡ None
  no-conflict events count [] counts are = refl
  no-conflict events count (e ∷ es) counts are =
      let next : e.originator_version ≡ latest events e.originator_id + 1 = are.0 ∙ ap (λ n. n + 1) (counts e.originator_id) in
      conflict-step events e (map (stored sys) es) next
      ∙ no-conflict (events ++ stored sys e ∷ []) (raised count e.originator_id) es (λ id. raised-step (bytes_eq e.originator_id id) events e id count refl (counts id)) are.1

  next-follows : (events : List StoredEvent) (d : Decided) → IsNext (latest events) d → FollowsIn events (verdict_of sys d)
  next-follows events (Ok (decision.Events es)) next = no-conflict events (latest events) es (λ id. refl) next
  next-follows events (Ok (decision.Refused code rule)) next = tt
  next-follows events (Err (Unreadable id)) next = tt
  next-follows events (Err Failed) next = tt
  next-follows events (Err NoMemory) next = tt

  -- what a command decides comes next
  pub command-follows : (events : List StoredEvent) (c : Command) (at : ℤ) → FollowsIn events (verdict_of sys (command_decision sys c at (readings_of sys events)))
  command-follows events c at =
      next-follows events (command_decision sys c at (readings_of sys events)) (command-next sys (latest events) (readings_of sys events) c at (λ id now is. standing sys events id now is))

  -- what a policy decides comes next
  pub policy-follows : (events : List StoredEvent) (app : Name) (n : Notice) (at : ℤ) → FollowsIn events (verdict_of sys (policy_by sys app n at (readings_with sys events)))
  policy-follows events app n at =
      subst (λ d. FollowsIn events (verdict_of sys d)) (sym (policy-over sys events app n at))
      (next-follows events (policy_decision sys app n at (readings_of sys events)) (policy-next sys (latest events) (readings_of sys events) app n at (λ id now is. standing sys events id now is)))
