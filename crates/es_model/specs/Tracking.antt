-- How far a history tracks its leaders.
use Rattle.std.specs.Prelude.{ℕ, List, [], ◌∷◌, if◌then◌else◌, max}
use Rattle.std.specs.Str.{bytes_eq}
use Rattle.es_model.specs.declared.event.Recording.{Recording}
use Rattle.es_model.specs.declared.event.Cause.{Cause}
use Rattle.es_model.specs.declared.event.Cause.TheVariants.{Command, Notification}
use Rattle.es_model.specs.Values.{Name}

-- the notification id that a cause has of a leader, else 0
abbrev pub id_from : Cause → Name → ℕ
id_from (Command text) leader = 0
id_from (Notification from id) leader = if bytes_eq from leader then id else 0

-- the greatest notification id of a leader among the causes, else 0
abbrev pub tracked_in : List Recording → Name → ℕ
tracked_in [] leader = 0
tracked_in (r ∷ h) leader = max (id_from r.cause leader) (tracked_in h leader)
