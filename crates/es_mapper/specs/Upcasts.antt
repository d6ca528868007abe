-- Edits of an event's fields, as substitutions on a record.
use Rattle.std.specs.Prelude.{List, [], ◌∷◌, Option, None, Some}
use Rattle.es_model.specs.Rising.{item_of, without, with_item}
use Rattle.es_model.specs.Values.{Name, Record}
use Rattle.es_model.specs.declared.value.Value.{Value}
use Rattle.es_model.specs.declared.declaration.Edit.{Edit}
use Rattle.es_model.specs.declared.declaration.Edit.TheVariants.{Add, Rename, Drop}

-- a value goes from one name to another, in place of what is there; where there is none, nothing changes
abbrev pub moved : Option Value → Name → Name → Record → Record
moved None from to r = r
moved (Some v) from to r = with_item (without r from) to v

-- a record after one edit
abbrev pub edited : Edit → Record → Record
edited (Add name v) r = with_item r name v
edited (Rename from to) r = moved (item_of r from) from to r
edited (Drop name) r = without r name

-- a record after some edits, in order
abbrev pub edited_by : List Edit → Record → Record
edited_by [] r = r
edited_by (e ∷ edits) r = edited_by edits (edited e r)
