-- What an expression means over a record of values.
use Rattle.std.specs.Prelude.{◌≡◌, Bool, true, false, [], Option, Some, None, Result, Ok, Err}
use Rattle.es_model.specs.Rising.{item_of}
use Rattle.es_model.specs.Values.{Record}
use Rattle.es_model.specs.declared.expr.Expr.{Expr, fold-Expr}
use Rattle.es_model.specs.declared.expr.Expr.TheOpen.{Expr-F}
use Rattle.es_model.specs.declared.value.Atom.TheVariants as atom
use Rattle.es_model.specs.declared.value.Value.{Value}
use Rattle.es_model.specs.declared.value.Value.TheVariants.{One, List as Many}
use Rattle.es_expr.specs.Operators.{truth, apply, apply_one, decided}
use Rattle.es_expr.specs.Outcome.{Outcome, is, over, stuck, bind, within}
use Rattle.es_expr.specs.Shapes.{Shape, literal, empty, named, one, two, choice, shape}
use Rattle.es_expr.specs.declared.fault.EvalFault.{EvalFault}
use Rattle.es_expr.specs.declared.fault.EvalFault.TheVariants.{Overflow, NoMemory}
use Rattle.es_model.specs.declared.operators.Binary.{Binary}
use Rattle.es_model.specs.declared.operators.Unary.{Unary}

abbrev pub found : Option Value → Outcome
found (Some v) = within v
found None = stuck

abbrev pub unless : Option Bool → Outcome → Outcome
unless (Some b) later = truth b
unless None later = later

-- one of two, by a truth value
abbrev pub choose : Outcome → Outcome → Value → Outcome
choose first second (One (atom.Bool true)) = first
choose first second (One (atom.Bool false)) = second
choose first second _ = stuck

abbrev pub of_one : Unary → Outcome → Outcome
of_one op a = bind (bind a (apply_one op)) within

-- the second operand is not evaluated where the first one decides
abbrev pub of_two : Binary → Outcome → Outcome → Outcome
of_two op a b = bind a (λ x. unless (decided op x) (bind (bind b (apply op x)) within))

abbrev pub of_choice : Outcome → Outcome → Outcome → Outcome
of_choice a b c = bind a (choose b c)

-- what a shape means, by what its operands mean
abbrev pub by_shape : Shape (Record → Outcome) → Record → Outcome
by_shape (literal a) env = within (One a)
by_shape (empty kind) env = is (Many [])
by_shape (named name) env = found (item_of env name)
by_shape (one op a) env = of_one op (a env)
by_shape (two op a b) env = of_two op (a env) (b env)
by_shape (choice a b c) env = of_choice (a env) (b env) (c env)

abbrev pub step : Expr-F (Record → Outcome) → Record → Outcome
step y = by_shape (shape y)

abbrev pub den : Expr → Record → Outcome
den = fold-Expr (Record → Outcome) step

-- what an evaluation answers: this value, that a limit is passed, or that there was no memory
abbrev pub Gives : Outcome → Result Value EvalFault → Type 0
Gives m (Ok v) = m ≡ is v
Gives m (Err Overflow) = m ≡ over
Gives m (Err NoMemory) = Unit {0}

-- the same of a truth value
abbrev pub Tells : Outcome → Result Bool EvalFault → Type 0
Tells m (Ok b) = m ≡ truth b
Tells m (Err Overflow) = m ≡ over
Tells m (Err NoMemory) = Unit {0}
