use Rattle.serde_json.specs.View.{view}
use Rattle.es_decl.specs.Expressions.{spells, size_test}
use Rattle.es_decl.proofs.expressions.ExpressionPart.read.Goals as goal

pub returns : goal.returns
returns c = let d = view c.args.tree.now in c.around.ensures (spells d) (size_test d) c.spelled.ensures c.test_size.ensures
