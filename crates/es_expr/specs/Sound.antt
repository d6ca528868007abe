-- When an expression may be evaluated over a record of values.
use Rattle.std.specs.Prelude.{◌≡◌, Bool, true, false, ◌&&◌, [], ◌∷◌, Option, None, Some, Ok}
use Rattle.es_model.specs.Rising.{item_of}
use Rattle.es_model.specs.Values.{Name, Record, fits}
use Rattle.es_model.specs.declared.expr.Expr.{Expr}
use Rattle.es_model.specs.declared.value.AtomKind.TheVariants as atom_kind
use Rattle.es_model.specs.declared.value.Kind.{Kind}
use Rattle.es_model.specs.declared.value.Kind.TheVariants as kind
use Rattle.es_model.specs.declared.value.Value.{Value}
use Rattle.es_expr.specs.Kinds.{Env, kind_of}

-- each name of a kind has a value that fits it
abbrev pub Fits : Record → Env → Type 0
Fits env kinds = (name : Name) (k : Kind) → item_of kinds name ≡ Some k → (v : Value) × (item_of env name ≡ Some v) × (fits v k ≡ true)

-- the same as a test, name by name
abbrev pub has_fitting : Option Value → Kind → Bool
has_fitting None k = false
has_fitting (Some v) k = fits v k

abbrev pub fit : Record → Env → Bool
fit env [] = true
fit env (x ∷ kinds) = has_fitting (item_of env x.0) x.1 && fit env kinds

-- over kinds which the values fit, the expression is of a kind
pub record IsCheckedAs (k : Kind) (e : Expr) (env : Record) : Type 0 where
  pub kinds : Env
  pub fits : Fits env kinds
  pub checks : kind_of e kinds ≡ Ok k

-- over some kinds which the values fit, the expression has no fault
abbrev pub IsChecked : Expr → Record → Type 0
IsChecked e env = (k : Kind) × IsCheckedAs k e env

-- and it is a truth value
abbrev pub IsTest : Expr → Record → Type 0
IsTest = IsCheckedAs (kind.One atom_kind.Bool)
