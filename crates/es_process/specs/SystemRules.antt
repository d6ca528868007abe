-- The rules of a declared system.
use Rattle.std.specs.Prelude.{ℕ, ℤ, ◌-◌, List, [], ◌∷◌, map, slice_get, Option, None, Some}
use Rattle.es_model.specs.History.{log}
use Rattle.es_model.specs.Rising.{with_item}
use Rattle.es_model.specs.Values.{Name}
use Rattle.es_model.specs.declared.declaration.System.{System}
use Rattle.es_model.specs.declared.domain_event.DomainEvent.{DomainEvent}
use Rattle.es_model.specs.declared.event.Cause.{Cause}
use Rattle.es_model.specs.declared.event.Cause.TheVariants.{Command, Notification}
use Rattle.es_model.specs.declared.event.Recording.{Recording}
use Rattle.es_model.specs.declared.event.StoredEvent.{StoredEvent}
use Rattle.es_mapper.specs.Mapped.{event_of}
use Rattle.es_decl.specs.Pairs.{pairs_of}
use Rattle.es_domain.specs.Decision.{notice}
use Rattle.es_repo.specs.Verdicts.{command_verdict, policy_verdict}
use Rattle.es_repo.specs.declared.verdict.Verdict.{Verdict}
use Rattle.es_repo.specs.declared.verdict.Verdict.TheVariants as verdict
use Rattle.es_repo.specs.Readings.{reading_at}
use Rattle.es_repo.specs.Snapshots.{snapshot_of, due_after}
use Rattle.es_lines.specs.Requests.{Asked, asks, refused as not_asked, request_in}
use Rattle.es_lines.specs.declared.request.Request.TheVariants.{Do, Get, Log, Tracking, Snapshot, Sync, Stop}
use Rattle.es_process.specs.Decision.{Rules, Logs, Decision, events, refused, unreadable}
use Rattle.es_process.specs.Questions.{section_size}

-- something for each of some names, in byte order of the names
abbrev pub in_order : {A : Type 0} → (Name → A) → List Name → List (Name × A)
in_order f [] = []
in_order f (n ∷ ns) = with_item (in_order f ns) n (f n)

abbrev pub app_names : System → List Name
app_names sys = map (λ a. a.name) sys.apps

-- the applications by name, in byte order
abbrev pub names_of : System → List Name
names_of sys = map (λ x. x.0) (in_order (λ n. tt {0}) (app_names sys))

-- what is decided, by the application that decides it
abbrev pub decision_of : Name → Verdict → Decision
decision_of app (verdict.Events es) = events es
decision_of app (verdict.Refused code rule) = refused code rule
decision_of app (verdict.Unreadable id) = unreadable app id

-- what is decided on the command that a text asks; no cause but such a text comes to be decided
abbrev pub decide_asked : System → Name → List Recording → ℤ → Asked → Decision
decide_asked sys app before at (asks (Do other c)) = decision_of app (command_verdict sys c at before)
decide_asked sys app before at (asks (Get other id version)) = refused [] 0
decide_asked sys app before at (asks (Log other section)) = refused [] 0
decide_asked sys app before at (asks (Tracking other leader)) = refused [] 0
decide_asked sys app before at (asks (Snapshot other id)) = refused [] 0
decide_asked sys app before at (asks Sync) = refused [] 0
decide_asked sys app before at (asks Stop) = refused [] 0
decide_asked sys app before at (not_asked fault) = refused [] 0

-- what is decided on a leader's event, where the entry has a meaning
abbrev pub decide_event : System → Name → List Recording → Name → ℕ → ℤ → Option DomainEvent → Decision
decide_event sys app before leader id at None = unreadable leader id
decide_event sys app before leader id at (Some e) = decision_of app (policy_verdict sys app (notice leader id e) at before)

-- what is decided on a leader's entry, where it is there; ids count from 1
abbrev pub decide_entry : System → Name → List Recording → Name → ℕ → ℤ → Option StoredEvent → Decision
decide_entry sys app before leader id at None = unreadable leader id
decide_entry sys app before leader id at (Some e) = decide_event sys app before leader id at (event_of sys e)

abbrev pub decide_cause : System → Name → List Recording → Logs → Cause → ℤ → Decision
decide_cause sys app before logs (Command text) at = decide_asked sys app before at (request_in sys text)
decide_cause sys app before logs (Notification leader id) at = decide_entry sys app before leader id at (slice_get (logs leader) (id - 1))

-- the rules of a system
abbrev pub rules_of : System → Rules
rules_of sys = record {
  names = names_of sys;
  pairs = pairs_of sys.pipes;
  request = request_in sys;
  read = λ h id version. reading_at sys (log h) id version;
  section_size = section_size sys;
  snapshot = snapshot_of sys;
  due = λ h e. due_after sys (log h) e;
  decide = decide_cause sys;
}
