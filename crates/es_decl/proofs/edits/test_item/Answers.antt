use Rattle.es_model.specs.declared.names.NameForm.TheVariants.{Field}
use Rattle.es_decl.specs.Names.{name_test}
use Rattle.es_decl.proofs.edits.test_item.Goals as goal

pub returns : goal.returns
returns c = c.in_item.ensures (name_test Field c.args.name.now) c.test_name.ensures
