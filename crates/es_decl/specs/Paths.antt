-- JSON pointers, step by step.
use Rattle.std.specs.Prelude.{ℕ, ◌==◌, List, ◌∷◌, codes, decimal, flat_map, if◌then◌else◌}
use Rattle.std.specs.Str.{chars}
use Rattle.std.specs.Char.{encode_utf8}
use Rattle.es_model.specs.Values.{Name}

-- a character of a name, with `~` as `~0` and `/` as `~1`
abbrev pub escaped_char : ℕ → List ℕ
escaped_char c = if c == 126 then codes "~0" else (if c == 47 then codes "~1" else encode_utf8 c)

abbrev pub escaped : Name → List ℕ
escaped name = flat_map escaped_char (chars name)

-- the step to a member of an object
abbrev pub member_step : Name → List ℕ
member_step name = 47 ∷ escaped name

-- the step to an item of an array, counted from 0
abbrev pub item_step : ℕ → List ℕ
item_step n = 47 ∷ decimal n
