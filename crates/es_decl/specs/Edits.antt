-- Edits of the fields of an event, from one class version to the next.
use Rattle.std.specs.Prelude.{[], codes, if◌then◌else◌, Ok}
use Rattle.std.specs.Str.{bytes_eq}
use Rattle.serde_json.specs.Data.{Data, string}
use Rattle.es_model.specs.Values.{Name}
use Rattle.es_model.specs.declared.declaration.Code.TheVariants as code
use Rattle.es_model.specs.declared.declaration.Edit.{Edit}
use Rattle.es_model.specs.declared.declaration.Edit.TheVariants.{Add, Rename, Drop}
use Rattle.es_model.specs.declared.expr.Expr.{Expr, fold-Expr}
use Rattle.es_model.specs.declared.expr.Expr.TheOpen.{Expr-F}
use Rattle.es_model.specs.declared.value.Atom.TheVariants as atom
use Rattle.es_model.specs.declared.value.Value.{Value}
use Rattle.es_model.specs.declared.value.Value.TheVariants.{One, List as Many}
use Rattle.es_model.specs.declared.names.NameForm.TheVariants as form
use Rattle.es_decl.specs.Expressions.{literal}
use Rattle.es_decl.specs.Names.{name_test}
use Rattle.es_decl.specs.Parts.{sole, two}
use Rattle.es_decl.specs.Paths.{member_step, item_step}
use Rattle.es_decl.specs.Readings.{Reading, here, and_then, under}

-- the value of a literal; a name and an operator have none
abbrev pub value_step : Expr-F (Reading Value) → Reading Value
value_step (Expr-F.Bool b) = Ok (One (atom.Bool b))
value_step (Expr-F.Int n) = Ok (One (atom.Int n))
value_step (Expr-F.Text t) = Ok (One (atom.Text t))
value_step (Expr-F.Uuid u) = Ok (One (atom.Uuid u))
value_step (Expr-F.Moment m) = Ok (One (atom.Moment m))
value_step (Expr-F.Decimal d) = Ok (One (atom.Decimal d))
value_step (Expr-F.None k) = Ok (Many [])
value_step e = here code.Form

abbrev pub value_of : Expr → Reading Value
value_of = fold-Expr (Reading Value) value_step

-- a literal
abbrev pub constant : Data → Reading Value
constant = sole (λ w body. and_then (literal w body) value_of)

abbrev pub add_of : Name → Data → Reading Edit
add_of n d = and_then (under (item_step 0) (name_test form.Field n)) (λ _. and_then (under (item_step 1) (constant d)) (λ v. Ok (Add n v)))

abbrev pub rename_of : Name → Name → Reading Edit
rename_of a b = and_then (under (item_step 0) (name_test form.Field a)) (λ _. and_then (under (item_step 1) (name_test form.Field b)) (λ _. Ok (Rename a b)))

abbrev pub drop_of : Name → Reading Edit
drop_of n = and_then (name_test form.Field n) (λ _. Ok (Drop n))

abbrev pub added_pair : Data → Data → Reading Edit
added_pair (string n) d = under (member_step (codes "add")) (add_of n d)
added_pair e d = here code.Form

-- a field's name and a literal
abbrev pub added : Data → Reading Edit
added = two added_pair

abbrev pub renamed_pair : Data → Data → Reading Edit
renamed_pair (string a) (string b) = under (member_step (codes "rename")) (rename_of a b)
renamed_pair d e = here code.Form

-- two names of fields
abbrev pub renamed : Data → Reading Edit
renamed = two renamed_pair

-- a field's name
abbrev pub dropped : Data → Reading Edit
dropped (string n) = under (member_step (codes "drop")) (drop_of n)
dropped d = here code.Form

abbrev pub edit_by : Name → Data → Reading Edit
edit_by w body =
    if bytes_eq w (codes "add") then added body else (
    if bytes_eq w (codes "rename") then renamed body else (
    if bytes_eq w (codes "drop") then dropped body else here code.Form))

-- an object with one member, whose name says what the edit does
abbrev pub edit : Data → Reading Edit
edit = sole edit_by
