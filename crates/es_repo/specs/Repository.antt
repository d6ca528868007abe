-- What a repository answers.
use Rattle.std.specs.Prelude.{ℕ, ◌≡◌, ◌≤◌, List, [], None, Some, Result, Ok, Err}
use Rattle.es_model.specs.Causes.{Rose}
use Rattle.es_model.specs.declared.declaration.System.{System}
use Rattle.es_model.specs.declared.event.Notification.{Notification}
use Rattle.es_domain.specs.Readings.{folded, unreadable}
use Rattle.es_domain.specs.declared.aggregate.Aggregate.{Aggregate}
use Rattle.es_repo.specs.Readings.{read_from}
use Rattle.es_repo.specs.declared.repository.RepoFault.{RepoFault}
use Rattle.es_repo.specs.declared.repository.RepoFault.TheVariants.{NotFound, Unreadable, Failed, NoMemory}

-- the answer by an aggregate's notifications: what they fold to, none only where there are none of them, or the first without a meaning; the recorder may fail, and memory be short
abbrev pub Gets : System → List Notification → Result Aggregate RepoFault → Type 0
Gets sys ns (Ok a) = read_from sys None ns ≡ folded (Some a)
Gets sys ns (Err NotFound) = ns ≡ []
Gets sys ns (Err (Unreadable id)) = read_from sys None ns ≡ unreadable id
Gets sys ns (Err Failed) = Unit {0}
Gets sys ns (Err NoMemory) = Unit {0}

-- the count of faults never falls, and the answer that the recorder failed comes only where it rose
pub record GetHasCause (before now : ℕ) (result : Result Aggregate RepoFault) : Type 0 where
  pub later : before ≤ now
  pub failed : result ≡ Err Failed → Rose before now
