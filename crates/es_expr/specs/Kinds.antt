-- The kind of an expression, or its first fault, over kinds of names.
use Rattle.std.specs.Prelude.{◌≡◌, ℕ, Bool, true, false, List, [], ◌++◌, codes, Option, Some, None, Result, Ok, Err, if◌then◌else◌}
use Rattle.es_model.specs.Rising.{item_of}
use Rattle.es_model.specs.Values.{Name}
use Rattle.es_model.specs.declared.expr.Expr.{Expr, fold-Expr}
use Rattle.es_model.specs.declared.expr.Expr.TheOpen.{Expr-F}
use Rattle.es_model.specs.declared.value.Atom.{Atom}
use Rattle.es_model.specs.declared.value.Atom.TheVariants as atom
use Rattle.es_model.specs.declared.value.AtomKind.{AtomKind}
use Rattle.es_model.specs.declared.value.AtomKind.TheVariants as kind
use Rattle.es_model.specs.declared.value.Kind.{Kind}
use Rattle.es_model.specs.declared.value.Kind.TheVariants.{One, List as Many}
use Rattle.es_expr.specs.Shapes.{Shape, literal, empty, named, one, two, choice, shape}
use Rattle.es_expr.specs.declared.fault.ExprFault.{ExprFault}
use Rattle.es_expr.specs.declared.fault.ExprFault.TheVariants.{Unknown, Kind as Wrong, NoMemory}
use Rattle.es_model.specs.OperatorWords.{unary_word, binary_word, choice_word}
use Rattle.es_model.specs.declared.operators.Binary.{Binary}
use Rattle.es_model.specs.declared.operators.Binary.TheVariants.{Add, Sub, Mul, Eq, Ne, Lt, Le, And, Or, Concat, Append, Contains, Uuid5}
use Rattle.es_model.specs.declared.operators.Unary.{Unary}
use Rattle.es_model.specs.declared.operators.Unary.TheVariants.{Not, Len, Show}

abbrev pub is_same_atom_kind : AtomKind → AtomKind → Bool
is_same_atom_kind kind.Bool kind.Bool = true
is_same_atom_kind kind.Int kind.Int = true
is_same_atom_kind kind.Text kind.Text = true
is_same_atom_kind kind.Uuid kind.Uuid = true
is_same_atom_kind kind.Moment kind.Moment = true
is_same_atom_kind kind.Decimal kind.Decimal = true
is_same_atom_kind _ _ = false

abbrev pub is_same_kind : Kind → Kind → Bool
is_same_kind (One a) (One b) = is_same_atom_kind a b
is_same_kind (Many a) (Many b) = is_same_atom_kind a b
is_same_kind _ _ = false

-- ---- the table of the operators

-- the kinds of the left operand
abbrev pub takes : Binary → Kind → Bool
takes Add (One kind.Int) = true
takes Sub (One kind.Int) = true
takes Mul (One kind.Int) = true
takes Eq k = true
takes Ne k = true
takes Lt (One kind.Int) = true
takes Lt (One kind.Moment) = true
takes Lt (One kind.Text) = true
takes Le (One kind.Int) = true
takes Le (One kind.Moment) = true
takes Le (One kind.Text) = true
takes And (One kind.Bool) = true
takes Or (One kind.Bool) = true
takes Concat (One kind.Text) = true
takes Append (Many k) = true
takes Contains (Many k) = true
takes Uuid5 (One kind.Uuid) = true
takes _ _ = false

-- the kinds of the right operand, after that of the left one
abbrev pub follows : Binary → Kind → Kind → Bool
follows Append (Many k) l = is_same_kind (One k) l
follows Append (One k) l = false
follows Contains (Many k) l = is_same_kind (One k) l
follows Contains (One k) l = false
follows Uuid5 k l = is_same_kind (One kind.Text) l
follows _ k l = is_same_kind k l

-- the kind of the value, by that of the left operand
abbrev pub gives : Binary → Kind → Kind
gives Add k = One kind.Int
gives Sub k = One kind.Int
gives Mul k = One kind.Int
gives Eq k = One kind.Bool
gives Ne k = One kind.Bool
gives Lt k = One kind.Bool
gives Le k = One kind.Bool
gives And k = One kind.Bool
gives Or k = One kind.Bool
gives Concat k = One kind.Text
gives Append k = k
gives Contains k = One kind.Bool
gives Uuid5 k = One kind.Uuid

abbrev pub unary_takes : Unary → Kind → Bool
unary_takes Not (One kind.Bool) = true
unary_takes Len (One kind.Text) = true
unary_takes Len (Many k) = true
unary_takes Show (One kind.Int) = true
unary_takes Show (One kind.Uuid) = true
unary_takes _ _ = false

abbrev pub unary_gives : Unary → Kind
unary_gives Not = One kind.Bool
unary_gives Len = One kind.Int
unary_gives Show = One kind.Text

-- a literal's kind; there is no literal of null
abbrev pub literal_kind : Atom → Option Kind
literal_kind atom.Null = None
literal_kind (atom.Bool truth) = Some (One kind.Bool)
literal_kind (atom.Int number) = Some (One kind.Int)
literal_kind (atom.Text text) = Some (One kind.Text)
literal_kind (atom.Uuid id) = Some (One kind.Uuid)
literal_kind (atom.Moment moment) = Some (One kind.Moment)
literal_kind (atom.Decimal decimal) = Some (One kind.Decimal)

-- ---- the walk

-- a kind or a fault, with the path of the faulty operand from the expression
abbrev pub Judged : Type 0
Judged = Result Kind ExprFault

abbrev pub operand_path : List ℕ → List ℕ → List ℕ
operand_path operator place = codes "/" ++ operator ++ codes "/" ++ place

-- the fault of an operand, from the expression round it
abbrev pub under : List ℕ → Judged → Judged
under path (Ok k) = Ok k
under path (Err (Unknown rest)) = Err (Unknown (path ++ rest))
under path (Err (Wrong rest)) = Err (Wrong (path ++ rest))
under path (Err NoMemory) = Err NoMemory

abbrev pub and_then : Judged → (Kind → Judged) → Judged
and_then (Ok k) f = f k
and_then (Err e) f = Err e

-- an operand, in itself and then against the wanted kinds, and then the rest
abbrev pub operand : List ℕ → (Kind → Bool) → Judged → (Kind → Judged) → Judged
operand path is_wanted a rest = and_then (under path a) (λ k. if is_wanted k then rest k else Err (Wrong path))

abbrev pub known : Option Kind → Judged
known (Some k) = Ok k
known None = Err (Unknown [])

abbrev pub kind_of_one : Unary → Judged → Judged
kind_of_one op a = operand (operand_path (unary_word op) (codes "0")) (unary_takes op) a (λ k. Ok (unary_gives op))

abbrev pub kind_of_two : Binary → Judged → Judged → Judged
kind_of_two op a b =
    operand (operand_path (binary_word op) (codes "0")) (takes op) a (λ k.
    operand (operand_path (binary_word op) (codes "1")) (follows op k) b (λ l. Ok (gives op k)))

abbrev pub kind_of_choice : Judged → Judged → Judged → Judged
kind_of_choice a b c =
    operand (operand_path choice_word (codes "0")) (is_same_kind (One kind.Bool)) a (λ k.
    operand (operand_path choice_word (codes "1")) (λ l. true) b (λ l.
    operand (operand_path choice_word (codes "2")) (is_same_kind l) c Ok))

abbrev pub Env : Type 0
Env = List (Name × Kind)

-- the kind of a shape, by those of its operands
abbrev pub kind_by_shape : Shape (Env → Judged) → Env → Judged
kind_by_shape (literal a) env = known (literal_kind a)
kind_by_shape (empty k) env = Ok (Many k)
kind_by_shape (named name) env = known (item_of env name)
kind_by_shape (one op a) env = kind_of_one op (a env)
kind_by_shape (two op a b) env = kind_of_two op (a env) (b env)
kind_by_shape (choice a b c) env = kind_of_choice (a env) (b env) (c env)

abbrev pub step : Expr-F (Env → Judged) → Env → Judged
step y = kind_by_shape (shape y)

abbrev pub kind_of : Expr → Env → Judged
kind_of = fold-Expr (Env → Judged) step

-- what a check answers: this, or that there was no memory
abbrev pub Judges : Judged → Judged → Type 0
Judges j (Ok k) = j ≡ Ok k
Judges j (Err (Unknown path)) = j ≡ Err (Unknown path)
Judges j (Err (Wrong path)) = j ≡ Err (Wrong path)
Judges j (Err NoMemory) = Unit {0}
