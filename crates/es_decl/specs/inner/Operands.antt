-- What is said of the operands in the body of a word, and of the items themselves.
use Rattle.std.specs.Prelude.{ℕ, List}
use Rattle.serde_json.specs.Data.{Data}
use Rattle.serde_json.specs.View.{items_view}
use Rattle.serde_json.specs.declared.value.Value.{Value}
use Rattle.es_model.specs.declared.declaration.Code.TheVariants as code
use Rattle.es_model.specs.declared.expr.Expr.{Expr}
use Rattle.es_decl.specs.Expressions.{operands, each, spelled, deeper, more}
use Rattle.es_decl.specs.Readings.{Reading, here}

abbrev pub spelled_operands : Data → List (Reading Expr)
spelled_operands = operands (here code.Form) spelled

abbrev pub operand_depths : Data → List ℕ
operand_depths = operands 1 deeper

abbrev pub operand_nodes : Data → List ℕ
operand_nodes = operands 1 more

abbrev pub spelled_items : List Value → List (Reading Expr)
spelled_items vs = each (here code.Form) spelled (items_view vs)

abbrev pub item_depths : List Value → List ℕ
item_depths vs = each 1 deeper (items_view vs)

abbrev pub item_nodes : List Value → List ℕ
item_nodes vs = each 1 more (items_view vs)
