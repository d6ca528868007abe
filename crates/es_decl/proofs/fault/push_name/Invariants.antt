use Rattle.std.proofs.Common.{◌≡◌, ◌++◌, IsUtf8, string_bytes, chars}
use Rattle.std.specs.Prelude.{flat_map}
use Rattle.std.specs.Str.Iter.{chars_rest}
use Rattle.es_decl.specs.Paths.{escaped, escaped_char}
use Rattle.es_decl.proofs.fault.push_name.Given as goal

abbrev pub invariant-loop-letter : goal.invariant-loop-letter
invariant-loop-letter l =
    IsUtf8 (chars_rest l.letter-iterator)
    × (string_bytes l.path ++ flat_map escaped_char (chars (chars_rest l.letter-iterator)) ≡ string_bytes l.fn.path ++ escaped l.fn.name)
