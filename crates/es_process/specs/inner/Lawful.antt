-- What the rules of a system keep to.
use Rattle.std.specs.Prelude.{◌≡◌, ◌-◌, ℕ, ℤ, List, slice_get, Contains, Some}
use Rattle.es_model.specs.declared.event.Recording.{Recording}
use Rattle.es_model.specs.declared.event.Cause.TheVariants.{Command, Notification}
use Rattle.es_model.specs.Values.{Name}
use Rattle.es_domain.specs.declared.command.Command.{Command as CommandOf}
use Rattle.es_lines.specs.CommandText.{command_text}
use Rattle.es_lines.specs.Requests.{asks, app_asked}
use Rattle.es_lines.specs.declared.request.Request.{Request}
use Rattle.es_lines.specs.declared.request.Request.TheVariants.{Do}
use Rattle.es_process.specs.Decision.{Rules, Logs}

-- of the leaders' logs, what is decided on a command depends on nothing, and what is decided on a notification depends on its own entry alone
pub record IsLocal (rules : Rules) : Type 0 where
  pub commands : (app : Name) (before : List Recording) (logs others : Logs) (asked : List ℕ) (at : ℤ) → rules.decide app before logs (Command asked) at ≡ rules.decide app before others (Command asked) at
  pub notifications : (app : Name) (before : List Recording) (logs others : Logs) (leader : Name) (id : ℕ) (at : ℤ)
      → slice_get (logs leader) (id - 1) ≡ slice_get (others leader) (id - 1) → rules.decide app before logs (Notification leader id) at ≡ rules.decide app before others (Notification leader id) at

-- besides, the text that a command is kept as asks the same, the application of which a line asks something is declared, and so are the two of each pair
pub record IsLawful (rules : Rules) : Type 0 where
  pub local : IsLocal rules
  pub canonical : (line : List ℕ) (app : Name) (c : CommandOf) → rules.request line ≡ asks (Do app c) → rules.request (command_text app c) ≡ asks (Do app c)
  pub named : (line : List ℕ) (r : Request) (app : Name) → rules.request line ≡ asks r → app_asked r ≡ Some app → Contains rules.names app
  pub paired : (p : Name × Name) → Contains rules.pairs p → Contains rules.names p.0 × Contains rules.names p.1
