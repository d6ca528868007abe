-- How kinds are written.
use Rattle.std.specs.Prelude.{codes, if◌then◌else◌, Option, None, Some, option_map, Ok}
use Rattle.std.specs.Str.{bytes_eq}
use Rattle.serde_json.specs.Data.{Data, string}
use Rattle.es_model.specs.Values.{Name}
use Rattle.es_model.specs.declared.declaration.Code.TheVariants as code
use Rattle.es_model.specs.declared.value.AtomKind.{AtomKind}
use Rattle.es_model.specs.declared.value.AtomKind.TheVariants.{Bool, Int, Text, Uuid, Moment, Decimal}
use Rattle.es_model.specs.declared.value.Kind.{Kind}
use Rattle.es_model.specs.declared.value.Kind.TheVariants as kinds
use Rattle.es_decl.specs.Readings.{Reading, here}

-- what a word stands for, if anything
abbrev pub known : {A : Type 0} → Option A → Reading A
known (Some x) = Ok x
known None = here code.Form

abbrev pub atom_kind_named : Name → Option AtomKind
atom_kind_named w =
    if bytes_eq w (codes "bool") then Some Bool else (
    if bytes_eq w (codes "int") then Some Int else (
    if bytes_eq w (codes "text") then Some Text else (
    if bytes_eq w (codes "uuid") then Some Uuid else (
    if bytes_eq w (codes "moment") then Some Moment else (
    if bytes_eq w (codes "decimal") then Some Decimal else None)))))

-- the kind of the items of lists
abbrev pub item_kind_named : Name → Option AtomKind
item_kind_named w =
    if bytes_eq w (codes "list:bool") then Some Bool else (
    if bytes_eq w (codes "list:int") then Some Int else (
    if bytes_eq w (codes "list:text") then Some Text else (
    if bytes_eq w (codes "list:uuid") then Some Uuid else (
    if bytes_eq w (codes "list:moment") then Some Moment else (
    if bytes_eq w (codes "list:decimal") then Some Decimal else None)))))

abbrev pub either : Option AtomKind → Option AtomKind → Option Kind
either (Some k) other = Some (kinds.One k)
either None other = option_map kinds.List other

abbrev pub kind_named : Name → Option Kind
kind_named w = either (atom_kind_named w) (item_kind_named w)

abbrev pub atom_kind : Data → Reading AtomKind
atom_kind (string s) = known (atom_kind_named s)
atom_kind d = here code.Form

abbrev pub kind : Data → Reading Kind
kind (string s) = known (kind_named s)
kind d = here code.Form
