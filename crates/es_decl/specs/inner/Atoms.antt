-- What an atom is, if it is of a kind.
use Rattle.std.specs.Prelude.{ℤ, Option, None, Some}
use Rattle.es_model.specs.Scaled.{Scaled}
use Rattle.es_model.specs.declared.value.Atom.{Atom}
use Rattle.es_model.specs.declared.value.Atom.TheVariants as atom

abbrev pub moment_of : Atom → Option ℤ
moment_of (atom.Moment m) = Some m
moment_of a = None

abbrev pub decimal_of : Atom → Option Scaled
decimal_of (atom.Decimal d) = Some d
decimal_of a = None
