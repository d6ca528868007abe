-- The words of the command line.
use Rattle.std.specs.Prelude.{ℕ, ◌==◌, Bool, false, not, ◌&&◌, List, [], ◌∷◌, codes, string_bytes, String, if◌then◌else◌, Option, Some, None}
use Rattle.std.specs.declared.alloc.Global.{Global}
use Rattle.std.specs.Str.{bytes_eq}

-- a word that names a system has a byte, and doesn't begin with `-`
abbrev pub names_system : List ℕ → Bool
names_system [] = false
names_system (c ∷ cs) = not (c == 45)

-- the words are `run` and a system's name, and no others
abbrev pub system_in : List (String Global) → Option (List ℕ)
system_in (mode ∷ system ∷ []) = if bytes_eq (string_bytes mode) (codes "run") && names_system (string_bytes system) then Some (string_bytes system) else None
system_in words = None
