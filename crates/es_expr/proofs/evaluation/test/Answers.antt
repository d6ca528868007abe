use Rattle.es_model.specs.declared.value.AtomKind.TheVariants as atom_kind
use Rattle.es_model.specs.declared.value.Kind.TheVariants as kind
use Rattle.es_expr.proofs.evaluation.test.Goals as goal

pub eval-requires : goal.eval-requires
eval-requires c = (kind.One atom_kind.Bool, c.requires)
