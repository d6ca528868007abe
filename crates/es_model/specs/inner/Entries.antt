-- What stands at a place among names with items.
use Rattle.std.specs.Prelude.{Bool, false, Option, None, Some}
use Rattle.std.specs.Str.{bytes_eq}
use Rattle.es_model.specs.Values.{Name}

-- there is an entry, and it has a name
abbrev pub has_name : {A : Type 0} → Option (Name × A) → Name → Bool
has_name None name = false
has_name (Some x) name = bytes_eq x.0 name
