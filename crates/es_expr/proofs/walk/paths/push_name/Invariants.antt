use Rattle.std.proofs.Common.{◌≡◌, ◌++◌, length, drop, string_bytes}
use Rattle.std.specs.Str.{chars}
use Rattle.es_expr.specs.Misfits.{escaped}
use Rattle.es_expr.proofs.walk.paths.push_name.Given as goal

abbrev pub invariant-loop-c : goal.invariant-loop-c
invariant-loop-c l =
    string_bytes l.text ++ escaped (drop (length l.yielded) (chars l.name)) ≡ string_bytes l.initial.text ++ escaped (chars l.name)
