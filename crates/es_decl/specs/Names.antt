-- What is wrong with a name.
use Rattle.std.specs.Prelude.{if◌then◌else◌}
use Rattle.es_model.specs.Names.{has_name_length, is_spelled}
use Rattle.es_model.specs.Values.{Name}
use Rattle.es_model.specs.declared.declaration.Code.TheVariants as code
use Rattle.es_model.specs.declared.names.NameForm.{NameForm}
use Rattle.es_decl.specs.Readings.{Reading, fine, here}

-- a bad length comes before a bad spelling
abbrev pub name_test : NameForm → Name → Reading (Unit {0})
name_test form name = if has_name_length name then (if is_spelled form name then fine else here code.Name) else here code.Limit
