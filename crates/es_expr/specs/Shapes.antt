-- The shapes of expressions: what has no operands, and the operator over one, two or three.
use Rattle.es_model.specs.Values.{Name}
use Rattle.es_model.specs.declared.expr.Expr.TheOpen.{Expr-F}
use Rattle.es_model.specs.declared.value.Atom.{Atom}
use Rattle.es_model.specs.declared.value.Atom.TheVariants as atom
use Rattle.es_model.specs.declared.value.AtomKind.{AtomKind}
use Rattle.es_model.specs.declared.operators.Binary.{Binary}
use Rattle.es_model.specs.declared.operators.Binary.TheVariants.{Add, Sub, Mul, Eq, Ne, Lt, Le, And, Or, Concat, Append, Contains, Uuid5}
use Rattle.es_model.specs.declared.operators.Unary.{Unary}
use Rattle.es_model.specs.declared.operators.Unary.TheVariants.{Not, Len, Show}

pub data Shape (A : Type 0) : Type 0 where
  literal : Atom → Shape A
  empty : AtomKind → Shape A
  named : Name → Shape A
  one : Unary → A → Shape A
  two : Binary → A → A → Shape A
  choice : A → A → A → Shape A

abbrev pub shape : {A : Type 0} → Expr-F A → Shape A
shape (Expr-F.Bool truth) = literal (atom.Bool truth)
shape (Expr-F.Int number) = literal (atom.Int number)
shape (Expr-F.Text text) = literal (atom.Text text)
shape (Expr-F.Uuid id) = literal (atom.Uuid id)
shape (Expr-F.Moment moment) = literal (atom.Moment moment)
shape (Expr-F.Decimal decimal) = literal (atom.Decimal decimal)
shape (Expr-F.None kind) = empty kind
shape (Expr-F.Get name) = named name
shape (Expr-F.Add a b) = two Add a b
shape (Expr-F.Sub a b) = two Sub a b
shape (Expr-F.Mul a b) = two Mul a b
shape (Expr-F.Eq a b) = two Eq a b
shape (Expr-F.Ne a b) = two Ne a b
shape (Expr-F.Lt a b) = two Lt a b
shape (Expr-F.Le a b) = two Le a b
shape (Expr-F.And a b) = two And a b
shape (Expr-F.Or a b) = two Or a b
shape (Expr-F.Not a) = one Not a
shape (Expr-F.If a b c) = choice a b c
shape (Expr-F.Concat a b) = two Concat a b
shape (Expr-F.Append a b) = two Append a b
shape (Expr-F.Contains a b) = two Contains a b
shape (Expr-F.Len a) = one Len a
shape (Expr-F.Show a) = one Show a
shape (Expr-F.Uuid5 a b) = two Uuid5 a b
