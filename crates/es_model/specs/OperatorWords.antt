-- The operators of expressions, and the words that declarations have for them.
use Rattle.std.specs.Prelude.{List, [], ◌∷◌, codes, if◌then◌else◌, Option, None, Some}
use Rattle.std.specs.Str.{bytes_eq}
use Rattle.es_model.specs.Values.{Name}
use Rattle.es_model.specs.declared.expr.Expr.{Expr}
use Rattle.es_model.specs.declared.expr.Expr as expr
use Rattle.es_model.specs.declared.operators.Unary.{Unary}
use Rattle.es_model.specs.declared.operators.Unary.TheVariants.{Not, Len, Show}
use Rattle.es_model.specs.declared.operators.Binary.{Binary}
use Rattle.es_model.specs.declared.operators.Binary.TheVariants.{Add, Sub, Mul, Eq, Ne, Lt, Le, And, Or, Concat, Append, Contains, Uuid5}
use Rattle.es_model.specs.declared.operators.Operator.{Operator}
use Rattle.es_model.specs.declared.operators.Operator.TheVariants.{One, Two, Choice}

-- the word of an operator over one operand
abbrev pub unary_word : Unary → Name
unary_word Not = codes "not"
unary_word Len = codes "len"
unary_word Show = codes "show"

-- the word of an operator over two operands
abbrev pub binary_word : Binary → Name
binary_word Add = codes "add"
binary_word Sub = codes "sub"
binary_word Mul = codes "mul"
binary_word Eq = codes "eq"
binary_word Ne = codes "ne"
binary_word Lt = codes "lt"
binary_word Le = codes "le"
binary_word And = codes "and"
binary_word Or = codes "or"
binary_word Concat = codes "concat"
binary_word Append = codes "append"
binary_word Contains = codes "contains"
binary_word Uuid5 = codes "uuid5"

-- the word of a choice
abbrev pub choice_word : Name
choice_word = codes "if"

-- the word of each operator
abbrev pub word_of : Operator → Name
word_of (One op) = unary_word op
word_of (Two op) = binary_word op
word_of Choice = choice_word

abbrev pub operators : List Operator
operators =
    One Not ∷ One Len ∷ One Show
    ∷ Two Add ∷ Two Sub ∷ Two Mul
    ∷ Two Eq ∷ Two Ne ∷ Two Lt ∷ Two Le
    ∷ Two And ∷ Two Or
    ∷ Two Concat ∷ Two Append ∷ Two Contains ∷ Two Uuid5
    ∷ Choice ∷ []

-- the first operator of a list that has a word
abbrev pub among : List Operator → Name → Option Operator
among [] word = None
among (x ∷ xs) word = if bytes_eq word (word_of x) then Some x else among xs word

-- the operator that a word stands for
abbrev pub operator_of : Name → Option Operator
operator_of word = among operators word

-- an operator over its operand
abbrev pub over_one : Unary → Expr → Expr
over_one Not a = expr.Not a
over_one Len a = expr.Len a
over_one Show a = expr.Show a

-- an operator over its operands
abbrev pub over_two : Binary → Expr → Expr → Expr
over_two Add a b = expr.Add a b
over_two Sub a b = expr.Sub a b
over_two Mul a b = expr.Mul a b
over_two Eq a b = expr.Eq a b
over_two Ne a b = expr.Ne a b
over_two Lt a b = expr.Lt a b
over_two Le a b = expr.Le a b
over_two And a b = expr.And a b
over_two Or a b = expr.Or a b
over_two Concat a b = expr.Concat a b
over_two Append a b = expr.Append a b
over_two Contains a b = expr.Contains a b
over_two Uuid5 a b = expr.Uuid5 a b
