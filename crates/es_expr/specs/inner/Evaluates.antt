-- What an evaluation answers before a check.
use Rattle.std.specs.Prelude.{◌≡◌, Result, Ok, Err}
use Rattle.es_model.specs.declared.value.Value.{Value}
use Rattle.es_expr.specs.Outcome.{Outcome, is, over, stuck}
use Rattle.es_expr.specs.declared.fault.Trouble.{Trouble}
use Rattle.es_expr.specs.declared.fault.Trouble.TheVariants as trouble

-- this value, that a limit is passed, or, where an operand is of a wrong kind, that the evaluation is stuck
abbrev pub Evaluates : Outcome → Result Value Trouble → Type 0
Evaluates m (Ok v) = m ≡ is v
Evaluates m (Err trouble.Over) = m ≡ over
Evaluates m (Err trouble.Stuck) = m ≡ stuck
Evaluates m (Err trouble.NoMemory) = Unit {0}
