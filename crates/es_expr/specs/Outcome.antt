-- What an expression means: a value, or that a limit is passed, or that an operand is of a wrong kind.
use Rattle.std.specs.Prelude.{ℤ, pos, negsuc, int_le, nat_le, length, Bool, true, ◌&&◌, if◌then◌else◌}
use Rattle.es_model.specs.declared.limits.TheConstants.{MOST_TEXT_BYTES, MOST_ITEMS}
use Rattle.es_model.specs.declared.value.Atom.TheVariants as atom
use Rattle.es_model.specs.declared.value.Value.{Value}
use Rattle.es_model.specs.declared.value.Value.TheVariants as value

pub data Outcome : Type 0 where
  is : Value → Outcome
  over : Outcome
  stuck : Outcome

-- what follows from a value
abbrev pub bind : Outcome → (Value → Outcome) → Outcome
bind (is v) f = f v
bind over f = over
bind stuck f = stuck

abbrev pub is_in_i64 : ℤ → Bool
is_in_i64 z = int_le (negsuc 9223372036854775807) z && int_le z (pos 9223372036854775807)

-- a number of 64 bits with a sign, a text and a list that are no longer than they may be
abbrev pub is_within : Value → Bool
is_within (value.One (atom.Int z)) = is_in_i64 z
is_within (value.One (atom.Text t)) = nat_le (length t) MOST_TEXT_BYTES
is_within (value.One a) = true
is_within (value.List items) = nat_le (length items) MOST_ITEMS

abbrev pub within : Value → Outcome
within v = if is_within v then is v else over
