-- Expressions: objects with one member, whose name is a literal's or an operator's.
use Rattle.std.specs.Prelude.{ℕ, suc, ◌+◌, max, nat_le, ◌&&◌, List, [], ◌∷◌, length, codes, if◌then◌else◌, option_map, Option, None, Some, Ok}
use Rattle.std.specs.Str.{bytes_eq}
use Rattle.serde_json.specs.Data.{Data, boolean, number, string, array, object, Items, no_items, item, Members, no_members, member}
use Rattle.serde_json.specs.Find.{as_i64}
use Rattle.uuid.specs.Text.{parsed}
use Rattle.es_model.specs.Values.{Name}
use Rattle.es_model.specs.declared.declaration.Code.TheVariants as code
use Rattle.es_model.specs.OperatorWords.{operator_of, over_one, over_two}
use Rattle.es_model.specs.declared.expr.Expr.{Expr, Bool as Truth, Int, Text, Uuid, Moment, Decimal, None as Empty, Get, If}
use Rattle.es_model.specs.declared.limits.TheConstants.{MOST_TEXT_BYTES, MOST_LEVELS, MOST_NODES}
use Rattle.es_model.specs.declared.operators.Operator.{Operator}
use Rattle.es_model.specs.declared.operators.Operator.TheVariants.{One, Two, Choice}
use Rattle.es_decl.specs.Kinds.{known, atom_kind}
use Rattle.es_transcode.specs.Spelled.{moment_in, decimal_in}
use Rattle.es_decl.specs.Paths.{member_step, item_step}
use Rattle.es_decl.specs.Readings.{Reading, fine, here, and_then, under, around}

-- ---- literals, the empty list, and names

abbrev pub bool_literal : Data → Reading Expr
bool_literal (boolean b) = Ok (Truth b)
bool_literal d = here code.Form

abbrev pub int_literal : Data → Reading Expr
int_literal (number n) = known (option_map Int (as_i64 n))
int_literal d = here code.Form

abbrev pub text_literal : Data → Reading Expr
text_literal (string s) = if nat_le (length s) MOST_TEXT_BYTES then Ok (Text s) else under (member_step (codes "text")) (here code.Limit)
text_literal d = here code.Form

-- the id that a text is read as
unfoldable pub id_in : List ℕ → Option (List ℕ)
id_in = parsed

abbrev pub uuid_literal : Data → Reading Expr
uuid_literal (string s) = known (option_map Uuid (id_in s))
uuid_literal d = here code.Form

abbrev pub moment_literal : Data → Reading Expr
moment_literal (string s) = known (option_map Moment (moment_in s))
moment_literal d = here code.Form

abbrev pub decimal_literal : Data → Reading Expr
decimal_literal (string s) = known (option_map Decimal (decimal_in s))
decimal_literal d = here code.Form

abbrev pub empty_literal : Data → Reading Expr
empty_literal d = and_then (under (member_step (codes "none")) (atom_kind d)) (λ k. Ok (Empty k))

abbrev pub get_literal : Data → Reading Expr
get_literal (string s) = Ok (Get s)
get_literal d = here code.Form

abbrev pub literal : Name → Data → Reading Expr
literal w body =
    if bytes_eq w (codes "bool") then bool_literal body else (
    if bytes_eq w (codes "int") then int_literal body else (
    if bytes_eq w (codes "text") then text_literal body else (
    if bytes_eq w (codes "uuid") then uuid_literal body else (
    if bytes_eq w (codes "moment") then moment_literal body else (
    if bytes_eq w (codes "decimal") then decimal_literal body else (
    if bytes_eq w (codes "none") then empty_literal body else (
    if bytes_eq w (codes "get") then get_literal body else here code.Form)))))))

-- ---- what is said of an expression by its word, its body, and what is said of the items of the body

abbrev mutual
  pub folded : {A : Type 0} → A → (Name → Data → List A → A) → Data → A
  folded odd node (object ms) = only odd node ms
  folded odd node d = odd

  pub only : {A : Type 0} → A → (Name → Data → List A → A) → Members → A
  only odd node no_members = odd
  only odd node (member w body no_members) = node w body (operands odd node body)
  only odd node (member w body (member v e ms)) = odd

  pub operands : {A : Type 0} → A → (Name → Data → List A → A) → Data → List A
  operands odd node (array ds) = each odd node ds
  operands odd node d = []

  pub each : {A : Type 0} → A → (Name → Data → List A → A) → Items → List A
  each odd node no_items = []
  each odd node (item d ds) = folded odd node d ∷ each odd node ds

-- an operand, with the path of its faults
abbrev pub operand : Name → ℕ → Reading Expr → Reading Expr
operand w n r = under (member_step w) (under (item_step n) r)

-- an operator with as many operands as it has, from left to right
abbrev pub operation : Operator → Name → List (Reading Expr) → Reading Expr
operation (One o) w (a ∷ []) = and_then (operand w 0 a) (λ x. Ok (over_one o x))
operation (Two o) w (a ∷ b ∷ []) = and_then (operand w 0 a) (λ x. and_then (operand w 1 b) (λ y. Ok (over_two o x y)))
operation Choice w (a ∷ b ∷ c ∷ []) = and_then (operand w 0 a) (λ x. and_then (operand w 1 b) (λ y. and_then (operand w 2 c) (λ z. Ok (If x y z))))
operation o w rs = here code.Form

abbrev pub worded : Option Operator → Name → Data → List (Reading Expr) → Reading Expr
worded None w body rs = literal w body
worded (Some o) w body rs = operation o w rs

abbrev pub spelled : Name → Data → List (Reading Expr) → Reading Expr
spelled w body rs = worded (operator_of w) w body rs

abbrev pub spells : Data → Reading Expr
spells = folded (here code.Form) spelled

-- ---- depth and nodes; what isn't spelled right is one leaf

-- the operands of an operator, where they are as many as it has
abbrev pub children : {A : Type 0} → Operator → List A → List A
children (One o) (a ∷ []) = a ∷ []
children (Two o) (a ∷ b ∷ []) = a ∷ b ∷ []
children Choice (a ∷ b ∷ c ∷ []) = a ∷ b ∷ c ∷ []
children o xs = []

abbrev pub if_operator : {A : Type 0} → Option Operator → List A → List A
if_operator None xs = []
if_operator (Some o) xs = children o xs

-- the operands of a word
abbrev pub counted : {A : Type 0} → Name → List A → List A
counted w xs = if_operator (operator_of w) xs

abbrev pub greatest : List ℕ → ℕ
greatest [] = 0
greatest (n ∷ ns) = max n (greatest ns)

abbrev pub total : List ℕ → ℕ
total [] = 0
total (n ∷ ns) = n + total ns

abbrev pub deeper : Name → Data → List ℕ → ℕ
deeper w body ns = suc (greatest (counted w ns))

abbrev pub more : Name → Data → List ℕ → ℕ
more w body ns = suc (total (counted w ns))

abbrev pub depth : Data → ℕ
depth = folded 1 deeper

abbrev pub nodes : Data → ℕ
nodes = folded 1 more

-- an expression has so many levels and nodes at most
abbrev pub size_test : Data → Reading (Unit {0})
size_test d = if nat_le (depth d) MOST_LEVELS && nat_le (nodes d) MOST_NODES then fine else here code.Limit

abbrev pub expression : Data → Reading Expr
expression d = around (spells d) (size_test d)
