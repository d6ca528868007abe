-- What a repository answers by what was read.
use Rattle.std.specs.Prelude.{Option, None, Some, Result, Ok, Err}
use Rattle.es_domain.specs.declared.aggregate.Aggregate.{Aggregate}
use Rattle.es_domain.specs.declared.find.FindFault.{FindFault}
use Rattle.es_domain.specs.declared.find.FindFault.TheVariants as find_fault
use Rattle.es_repo.specs.declared.repository.RepoFault.{RepoFault}
use Rattle.es_repo.specs.declared.repository.RepoFault.TheVariants.{NotFound, Unreadable, Failed, NoMemory}

abbrev pub answer_of : Result (Option Aggregate) FindFault → Result Aggregate RepoFault
answer_of (Ok (Some a)) = Ok a
answer_of (Ok None) = Err NotFound
answer_of (Err (find_fault.Unreadable id)) = Err (Unreadable id)
answer_of (Err find_fault.Failed) = Err Failed
answer_of (Err find_fault.NoMemory) = Err NoMemory
