-- Consistent histories: each follows its opening over the others, and no two recordings cause each other.
use Rattle.std.specs.Prelude.{◌≡◌, ◌+◌, ℕ, zero, suc, nat_le, Bool, true, List, length, take, slice_get, Contains, if◌then◌else◌, Option, Some, None}
use Rattle.es_model.specs.declared.event.Recording.{Recording}
use Rattle.es_model.specs.declared.event.Cause.{Cause}
use Rattle.es_model.specs.declared.event.Cause.TheVariants.{Command, Notification}
use Rattle.es_model.specs.History.{Histories, log}
use Rattle.es_model.specs.Values.{Name}
use Rattle.es_process.specs.Decision.{Rules, logs_of}
use Rattle.es_process.specs.Follows.{Follows}

-- how many recordings of each history are taken, from its beginning on
abbrev pub Fronts : Type 0
Fronts = Name → ℕ

-- a cause may be taken where it is a command, or a notification in the log of what is taken of its leader's history
abbrev pub may_take : Histories → Fronts → Cause → Bool
may_take histories fronts (Command asked) = true
may_take histories fronts (Notification leader id) = nat_le id (length (log (take (fronts leader) (histories leader))))

-- a front after a round, by the recording that is next
abbrev pub next_front : Histories → Fronts → ℕ → Option Recording → ℕ
next_front histories fronts front None = front
next_front histories fronts front (Some r) = if may_take histories fronts r.cause then front + 1 else front

-- one round: each front takes its next recording where the cause may be taken as the round begins
abbrev pub round : Histories → Fronts → Fronts
round histories fronts = λ app. next_front histories fronts (fronts app) (slice_get (histories app) (fronts app))

-- so many rounds
unfoldable pub rounds : ℕ → Histories → Fronts → Fronts
rounds zero histories fronts = fronts
rounds (suc n) histories fronts = round histories (rounds n histories fronts)

abbrev pub lengths_of : Histories → Fronts
lengths_of histories = λ app. length (histories app)

-- histories are grounded over their openings: some number of rounds, which begin with the openings, takes the whole history of each declared application
pub record IsGrounded (names : List Name) (openings histories : Histories) : Type 0 where
  pub count : ℕ
  pub all : (app : Name) → Contains names app → rounds count histories (lengths_of openings) app ≡ length (histories app)

-- the history of each declared application follows its opening over the logs that the histories have in the end, and all are grounded
pub record IsConsistent (rules : Rules) (openings histories : Histories) : Type 0 where
  pub follow : (app : Name) → Contains rules.names app → Follows rules app (openings app) (histories app) (logs_of histories)
  pub grounded : IsGrounded rules.names openings histories
