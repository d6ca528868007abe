-- The operators, over unbounded whole numbers and lists.
use Rattle.std.specs.Prelude.{ℕ, ℤ, ◌+ℤ◌, ◌-ℤ◌, ◌*ℤ◌, pos, Bool, true, false, not, ◌&&◌, ◌||◌, Option, Some, None, option_map, List, [], ◌∷◌, ◌++◌, length, take, int_lt, nat_eq, bytes_eq}
use Rattle.std.specs.Bool.{beq}
use Rattle.std.specs.Fmt.{signed_decimal}
use Rattle.std.specs.List.{list_any}
use Rattle.std.specs.Ordering.{int_eq}
use Rattle.es_model.specs.Rising.{is_before}
use Rattle.es_model.specs.Scaled.{Scaled}
use Rattle.es_model.specs.Values.{Id, Name}
use Rattle.es_model.specs.declared.value.Atom.{Atom}
use Rattle.es_model.specs.declared.value.Atom.TheVariants as atom
use Rattle.es_model.specs.declared.value.Value.{Value}
use Rattle.es_model.specs.declared.value.Value.TheVariants.{One, List as Many}
use Rattle.es_expr.specs.Outcome.{Outcome, is, stuck}
use Rattle.es_model.specs.declared.operators.Binary.{Binary}
use Rattle.es_model.specs.declared.operators.Binary.TheVariants.{Add, Sub, Mul, Eq, Ne, Lt, Le, And, Or, Concat, Append, Contains, Uuid5}
use Rattle.es_model.specs.declared.operators.Unary.{Unary}
use Rattle.es_model.specs.declared.operators.Unary.TheVariants.{Not, Len, Show}
use Rattle.sha1.specs.Sha1.{sha1}
use Rattle.uuid.specs.Parts.{with_variant, with_version}
use Rattle.uuid.specs.Text.{simple_text, lower}
use Rattle.uuid.specs.declared.Variant.TheVariants as variant
use Rattle.uuid.specs.declared.Version.TheVariants as version

abbrev pub truth : Bool → Outcome
truth b = is (One (atom.Bool b))

abbrev pub number : ℤ → Outcome
number z = is (One (atom.Int z))

abbrev pub text : List ℕ → Outcome
text t = is (One (atom.Text t))

-- ---- numbers

abbrev pub sum : Value → Value → Outcome
sum (One (atom.Int x)) (One (atom.Int y)) = number (x +ℤ y)
sum _ _ = stuck

abbrev pub difference : Value → Value → Outcome
difference (One (atom.Int x)) (One (atom.Int y)) = number (x -ℤ y)
difference _ _ = stuck

abbrev pub product : Value → Value → Outcome
product (One (atom.Int x)) (One (atom.Int y)) = number (x *ℤ y)
product _ _ = stuck

-- ---- equality and order

-- decimals are equal by their digits and places
abbrev pub is_equal_scaled : Scaled → Scaled → Bool
is_equal_scaled d e = int_eq d.digits e.digits && nat_eq d.scale e.scale

abbrev pub is_equal_atom : Atom → Atom → Bool
is_equal_atom atom.Null atom.Null = true
is_equal_atom (atom.Bool x) (atom.Bool y) = beq x y
is_equal_atom (atom.Int x) (atom.Int y) = int_eq x y
is_equal_atom (atom.Text x) (atom.Text y) = bytes_eq x y
is_equal_atom (atom.Uuid x) (atom.Uuid y) = bytes_eq x y
is_equal_atom (atom.Moment x) (atom.Moment y) = int_eq x y
is_equal_atom (atom.Decimal x) (atom.Decimal y) = is_equal_scaled x y
is_equal_atom _ _ = false

abbrev pub are_equal : List Atom → List Atom → Bool
are_equal [] [] = true
are_equal (x ∷ xs) (y ∷ ys) = is_equal_atom x y && are_equal xs ys
are_equal _ _ = false

abbrev pub is_equal : Value → Value → Bool
is_equal (One a) (One b) = is_equal_atom a b
is_equal (Many xs) (Many ys) = are_equal xs ys
is_equal _ _ = false

-- whether one value is before another, where they are ordered; texts are by their bytes
abbrev pub precedes : Value → Value → Option Bool
precedes (One (atom.Int x)) (One (atom.Int y)) = Some (int_lt x y)
precedes (One (atom.Moment x)) (One (atom.Moment y)) = Some (int_lt x y)
precedes (One (atom.Text x)) (One (atom.Text y)) = Some (is_before x y)
precedes _ _ = None

abbrev pub truth_if_any : Option Bool → Outcome
truth_if_any (Some b) = truth b
truth_if_any None = stuck

abbrev pub less : Value → Value → Outcome
less a b = truth_if_any (precedes a b)

abbrev pub at_most : Value → Value → Outcome
at_most a b = truth_if_any (option_map not (precedes b a))

-- ---- truth values

abbrev pub negation : Value → Outcome
negation (One (atom.Bool x)) = truth (not x)
negation _ = stuck

abbrev pub conjunction : Value → Value → Outcome
conjunction (One (atom.Bool x)) (One (atom.Bool y)) = truth (x && y)
conjunction _ _ = stuck

abbrev pub disjunction : Value → Value → Outcome
disjunction (One (atom.Bool x)) (One (atom.Bool y)) = truth (x || y)
disjunction _ _ = stuck

-- what the left operand decides alone
abbrev pub decided : Binary → Value → Option Bool
decided And (One (atom.Bool false)) = Some false
decided Or (One (atom.Bool true)) = Some true
decided _ _ = None

-- ---- texts, lists, ids

abbrev pub joined : Value → Value → Outcome
joined (One (atom.Text x)) (One (atom.Text y)) = text (x ++ y)
joined _ _ = stuck

abbrev pub appended : Value → Value → Outcome
appended (Many items) (One item) = is (Many (items ++ item ∷ []))
appended _ _ = stuck

abbrev pub contained : Value → Value → Outcome
contained (Many items) (One item) = truth (list_any (λ x. is_equal_atom x item) items)
contained _ _ = stuck

abbrev pub size : Value → Outcome
size (One (atom.Text t)) = number (pos (length t))
size (Many items) = number (pos (length items))
size _ = stuck

abbrev pub shown : Value → Outcome
shown (One (atom.Int z)) = text (signed_decimal z)
shown (One (atom.Uuid id)) = text (simple_text lower id)
shown _ = stuck

-- the id of a name in a namespace, of version 5
abbrev pub id_of_name : Id → Name → Id
id_of_name namespace name = with_version (with_variant (take 16 (sha1 (namespace ++ name))) variant.RFC4122) version.Sha1

abbrev pub derived : Value → Value → Outcome
derived (One (atom.Uuid namespace)) (One (atom.Text name)) = is (One (atom.Uuid (id_of_name namespace name)))
derived _ _ = stuck

-- ---- the table

abbrev pub apply_one : Unary → Value → Outcome
apply_one Not = negation
apply_one Len = size
apply_one Show = shown

abbrev pub apply : Binary → Value → Value → Outcome
apply Add = sum
apply Sub = difference
apply Mul = product
apply Eq = λ a b. truth (is_equal a b)
apply Ne = λ a b. truth (not (is_equal a b))
apply Lt = less
apply Le = at_most
apply And = conjunction
apply Or = disjunction
apply Concat = joined
apply Append = appended
apply Contains = contained
apply Uuid5 = derived
