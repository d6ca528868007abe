-- What a repository answers, by what was read.
use Rattle.std.proofs.Common.{◌≡◌, ℕ, List, [], ◌∷◌, Option, None, Some, Result, Ok, Err, IfOk, IfSome, refl, sym, subst}
use Rattle.es_model.specs.History.{log}
use Rattle.es_model.specs.Values.{Id}
use Rattle.es_model.specs.declared.declaration.System.{System}
use Rattle.es_model.specs.declared.event.Notification.{Notification}
use Rattle.es_model.specs.declared.event.Recording.{Recording}
use Rattle.es_mapper.specs.Mapped.{event_of}
use Rattle.es_domain.specs.Readings.{folded, IsFound, FindHasCause}
use Rattle.es_domain.specs.declared.aggregate.Aggregate.{Aggregate}
use Rattle.es_domain.specs.declared.find.FindFault.{FindFault}
use Rattle.es_domain.specs.declared.find.FindFault.TheVariants.{Unreadable, Failed, NoMemory}
use Rattle.es_repo.specs.Readings.{notifications_upto, advanced_by, after_entry, read_from, reading_at}
use Rattle.es_repo.specs.Repository.{Gets, GetHasCause}
use Rattle.es_repo.specs.declared.repository.RepoFault.{RepoFault}
use Rattle.es_repo.specs.inner.Reader.{Reads}
use Rattle.es_repo.specs.inner.Repository.{answer_of}

-- none is read only of no notifications
module _ (sys : System) where
  none-read : (found : Option Aggregate) (ns : List Notification) → read_from sys found ns ≡ folded None → (found ≡ None) × (ns ≡ [])
  none-read found [] is = let none : found ≡ None = cc in (none, refl)
  none-read found (n ∷ ns) is = by-step (advanced_by sys found (event_of sys n.event)) is (λ a. none-read (Some a) ns)
    where
      by-step : (o : Option Aggregate) → after_entry n.id o (λ a. read_from sys (Some a) ns) ≡ folded None → ((a : Aggregate) → read_from sys (Some a) ns ≡ folded None → (Some a ≡ None) × (ns ≡ [])) → (found ≡ None) × (n ∷ ns ≡ [])
      by-step None h rest = absurd (cc h)
      by-step (Some a) h rest = let more = rest a h in absurd (cc more.0)

  gets : (ns : List Notification) (found : Result (Option Aggregate) FindFault) → Reads (read_from sys None ns) found → Gets sys ns (answer_of found)
  gets ns (Ok (Some a)) reads = reads
  gets ns (Ok None) reads = (none-read None ns reads).1
  gets ns (Err (Unreadable id)) reads = reads
  gets ns (Err Failed) reads = tt
  gets ns (Err NoMemory) reads = tt

  -- where the history is told
  pub gets-told : (history : Option (List Recording)) (id : Id) (version : Option ℕ) (found : Result (Option Aggregate) FindFault) (result : Result Aggregate RepoFault) → result ≡ answer_of found → IfSome history (λ h. Reads (reading_at sys (log h) id version) found)
      → IfSome history (λ h. Gets sys (notifications_upto (log h) id version) result)
  gets-told None id version found result is reads = tt
  gets-told (Some h) id version found result is reads = subst (Gets sys (notifications_upto (log h) id version)) (sym is) (gets (notifications_upto (log h) id version) found reads)

  found-of : (id : Id) (found : Result (Option Aggregate) FindFault) → IfOk found (λ o. IfSome o (IsFound sys id)) → IfOk (answer_of found) (IsFound sys id)
  found-of id (Ok (Some a)) known = known
  found-of id (Ok None) known = tt
  found-of id (Err (Unreadable n)) known = tt
  found-of id (Err Failed) known = tt
  found-of id (Err NoMemory) known = tt

  -- told or not
  pub found-told : (id : Id) (found : Result (Option Aggregate) FindFault) (result : Result Aggregate RepoFault) → result ≡ answer_of found → IfOk found (λ o. IfSome o (IsFound sys id)) → IfOk result (IsFound sys id)
  found-told id found result is known = subst (λ r. IfOk r (IsFound sys id)) (sym is) (found-of id found known)

cause-of : (before now : ℕ) (found : Result (Option Aggregate) FindFault) → FindHasCause before now found → GetHasCause before now (answer_of found)
cause-of before now (Ok (Some a)) cause = record { later = cause.later; failed = λ h. absurd (cc h) }
cause-of before now (Ok None) cause = record { later = cause.later; failed = λ h. absurd (cc h) }
cause-of before now (Err (Unreadable n)) cause = record { later = cause.later; failed = λ h. absurd (cc h) }
cause-of before now (Err Failed) cause = record { later = cause.later; failed = λ h. cause.failed refl }
cause-of before now (Err NoMemory) cause = record { later = cause.later; failed = λ h. absurd (cc h) }

pub got-cause : (before now : ℕ) (found : Result (Option Aggregate) FindFault) (result : Result Aggregate RepoFault) → result ≡ answer_of found → FindHasCause before now found → GetHasCause before now result
got-cause before now found result is cause = subst (GetHasCause before now) (sym is) (cause-of before now found cause)
