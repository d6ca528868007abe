-- What applications decide, and the rules of a system.
use Rattle.std.specs.Prelude.{ℕ, ℤ, List, Option}
use Rattle.es_model.specs.declared.event.StoredEvent.{StoredEvent}
use Rattle.es_model.specs.declared.event.Recording.{Recording}
use Rattle.es_model.specs.declared.event.Cause.{Cause}
use Rattle.es_model.specs.declared.snapshot.Snapshot.{Snapshot}
use Rattle.es_model.specs.History.{Histories, log}
use Rattle.es_model.specs.Values.{Name, Id}
use Rattle.es_domain.specs.declared.aggregate.Aggregate.{Aggregate}
use Rattle.es_domain.specs.Readings.{Reading}
use Rattle.es_lines.specs.Requests.{Asked}

-- the log of each application, as a decision sees it
abbrev pub Logs : Type 0
Logs = Name → List StoredEvent

abbrev pub logs_of : Histories → Logs
logs_of histories = λ app. log (histories app)

-- new events; or a refusal by its code and the number of the policy's rule, which is 0 for a command; or an entry that is needed and has no meaning, by its application and notification id
pub data Decision : Type 0 where
  events : List StoredEvent → Decision
  refused : List ℕ → ℕ → Decision
  unreadable : Name → ℕ → Decision

-- a system: its applications by name; which application leads which, the pairs of leader and follower in their order; what a line asks; what is read of an aggregate over an application's recordings, at a version or at its latest; how many notifications a section of an application's log has at most; the snapshot of an aggregate, and the one that is to be taken after an event among the recordings; and what an application decides on a cause, over its recordings so far and the logs of its leaders, at a moment
pub record Rules : Type 0 where
  pub names : List Name
  pub pairs : List (Name × Name)
  pub request : List ℕ → Asked
  pub read : List Recording → Id → Option ℕ → Reading
  pub section_size : Name → ℕ
  pub snapshot : Aggregate → Snapshot
  pub due : List Recording → StoredEvent → Option Snapshot
  pub decide : Name → List Recording → Logs → Cause → ℤ → Decision
