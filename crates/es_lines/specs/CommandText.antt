-- The canonical text of a command, as a function of it.
use Rattle.std.specs.Prelude.{ℕ, IsTrue, Bool, true, List, codes, Option, None, Some}
use Rattle.serde_json.specs.Data.{Data, unsigned, number, string, object, Members, no_members, member}
use Rattle.serde_json.specs.Written.{compact_text}
use Rattle.uuid.specs.Text.{simple_text, lower}
use Rattle.es_model.specs.Names.{topic_of}
use Rattle.es_model.specs.Values.{Name}
use Rattle.es_model.specs.declared.declaration.System.{System}
use Rattle.es_transcode.specs.CanonicalText.{record_tree}
use Rattle.es_expr.specs.Checked.{IsCheckedSystem}
use Rattle.es_domain.specs.declared.command.Command.{Command}
use Rattle.es_lines.specs.Requests.{IsDeclared, is_expectable}

-- the member of the expected version, if there is one, before others
abbrev pub with_expected : Option ℕ → Members → Members
with_expected None ms = ms
with_expected (Some n) ms = member (codes "expect") (number (unsigned n)) ms

-- the members, in byte order
abbrev pub command_tree : Name → Command → Data
command_tree app c = object
    (member (codes "app") (string app)
    (member (codes "args") (record_tree c.args)
    (member (codes "do") (string (topic_of c.class c.name))
    (with_expected c.expect
    (member (codes "id") (string (simple_text lower c.id))
    no_members)))))

-- the tree's text, with no space and the shortest escapes
unfoldable pub command_text : Name → Command → List ℕ
command_text app c = compact_text (command_tree app c)

abbrev pub is_absent_or_expectable : Option ℕ → Bool
is_absent_or_expectable None = true
is_absent_or_expectable (Some n) = is_expectable n

-- a command that a line may ask: the system is one that a document may declare, it declares the command
-- with such arguments, and the version that is expected may be
pub record CanBeAsked (sys : System) (app : Name) (c : Command) : Type 0 where
  pub checked : IsCheckedSystem sys
  pub declared : IsDeclared sys app c
  pub expect : IsTrue (is_absent_or_expectable c.expect)
