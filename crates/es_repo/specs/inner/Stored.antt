-- New events that are read back as they are stored.
use Rattle.std.specs.Prelude.{◌≡◌, All, Some}
use Rattle.es_model.specs.declared.declaration.System.{System}
use Rattle.es_model.specs.declared.domain_event.DomainEvent.{DomainEvent}
use Rattle.es_mapper.specs.Mapped.{event_of}
use Rattle.es_mapper.specs.Mapping.{stored}
use Rattle.es_domain.specs.declared.command.Decision.{Decision}
use Rattle.es_domain.specs.declared.command.Decision.TheVariants as decision

-- what an event is stored as stands for the event itself
abbrev pub IsReadBack : System → DomainEvent → Type 0
IsReadBack sys e = event_of sys (stored sys e) ≡ Some e

abbrev pub AreReadBack : System → Decision → Type 0
AreReadBack sys (decision.Events es) = All (IsReadBack sys) es
AreReadBack sys (decision.Refused code rule) = Unit {0}
