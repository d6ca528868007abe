-- Topics, and what a refused rule does, as words.
use Rattle.std.specs.Prelude.{◌&&◌, codes, if◌then◌else◌, Option, None, Some, Ok}
use Rattle.std.specs.Str.{bytes_eq}
use Rattle.serde_json.specs.Data.{Data, string}
use Rattle.es_model.specs.Names.{halves, has_name_length, is_spelled}
use Rattle.es_model.specs.Values.{Name}
use Rattle.es_model.specs.declared.declaration.Code.TheVariants as code
use Rattle.es_model.specs.declared.declaration.Otherwise.{Otherwise}
use Rattle.es_model.specs.declared.declaration.Otherwise.TheVariants.{Skip, Refuse}
use Rattle.es_model.specs.declared.names.NameForm.TheVariants as form
use Rattle.es_decl.specs.Readings.{Reading, fine, here, and_then}

-- a bad length of either comes before a bad spelling of either
abbrev pub both_test : Name → Name → Reading (Unit {0})
both_test a b =
    if has_name_length a && has_name_length b then (if is_spelled form.Class a && is_spelled form.Class b then fine else here code.Name) else here code.Limit

abbrev pub halves_test : Option (Name × Name) → Reading (Unit {0})
halves_test (Some h) = both_test h.0 h.1
halves_test None = here code.Form

-- two names with one point between them
abbrev pub topic : Data → Reading Name
topic (string s) = and_then (halves_test (halves s)) (λ _. Ok s)
topic d = here code.Form

abbrev pub otherwise : Data → Reading Otherwise
otherwise (string s) = if bytes_eq s (codes "skip") then Ok Skip else (if bytes_eq s (codes "refuse") then Ok Refuse else here code.Form)
otherwise d = here code.Form
