-- Sections of a notification log.
use Rattle.std.specs.Prelude.{ℕ, ◌+◌, ◌-◌, ◌==◌, nat_le, min, max, Bool, ◌&&◌, List, ◌∷◌, ◌++◌, length, take, filter, slice_get, if◌then◌else◌, Option, Some, None, option_map}
use Rattle.std.specs.Char.{is_ascii_digit}
use Rattle.std.specs.Fmt.{decimal}
use Rattle.std.specs.List.{list_all, before_first, after_first}
use Rattle.std.specs.Option.{option_zip}
use Rattle.std.specs.Str.Parse.{digits_value}
use Rattle.es_model.specs.declared.event.Notification.{Notification}
use Rattle.es_model.specs.declared.limits.TheConstants.{MOST_ASKED, MOST_DIGITS}

-- ---- what a text asks for

-- one to thirteen digits, of a number that may be asked for
abbrev pub is_number : List ℕ → Bool
is_number ds = nat_le 1 (length ds) && nat_le (length ds) MOST_DIGITS && list_all is_ascii_digit ds && nat_le (digits_value 10 ds) MOST_ASKED

abbrev pub number_of : List ℕ → Option ℕ
number_of ds = if is_number ds then Some (digits_value 10 ds) else None

abbrev pub is_comma : ℕ → Bool
is_comma b = b == 44

-- the first and the last id that a text asks for, if it is two numbers with a comma between them; what follows the first comma has no other one, since that is no digit
abbrev pub bounds_of : List ℕ → Option (ℕ × ℕ)
bounds_of text = option_zip (number_of (before_first is_comma text)) (number_of (after_first is_comma text))

-- the text that asks for two ids
abbrev pub text_of : ℕ × ℕ → List ℕ
text_of b = decimal b.0 ++ 44 ∷ decimal b.1

-- ---- what a section has

-- the id from which on it has notifications
abbrev pub start_of : ℕ → ℕ
start_of first = max 1 first

-- how many it has at most: as many as from its start to the last id, and no more than its size
abbrev pub limit_of : ℕ → ℕ → ℕ → ℕ
limit_of first last size = min (last + 1 - start_of first) size

abbrev pub items_of : List Notification → ℕ → ℕ → List Notification
items_of log start limit = take limit (filter (λ n. nat_le start n.id) log)

abbrev pub first_of : List Notification → Option Notification
first_of ns = slice_get ns 0

abbrev pub last_of : List Notification → Option Notification
last_of ns = slice_get ns (length ns - 1)

-- the ids of its first and its last notification
abbrev pub ids_of : List Notification → Option (ℕ × ℕ)
ids_of ns = option_zip (option_map (λ n. n.id) (first_of ns)) (option_map (λ n. n.id) (last_of ns))

-- the ids to ask for next, where it has as many as it may
abbrev pub next_of : ℕ → List Notification → Option (ℕ × ℕ)
next_of limit ns = if length ns == limit then option_map (λ n. (n.id + 1, n.id + limit)) (last_of ns) else None
